-- The sorts of a table's terms, as terms come in.
use Rattle.std.proofs.Common.{◌≡◌, ◌⊎◌, inl, inr, Some, slice_get, ◌<◌, ◌++◌, ℕ, zero, suc, false, List, [], ◌∷◌, length, take, drop, min, append-nil, refl, sym, ap, ◌∙◌, subst, arith, length-append}
use Rattle.std.proofs.Math.ListN.{get_or-append}
use Rattle.std.proofs.lemmas.List.{append_assoc, get_or_at, get_or-take, length-take, take-append-drop}
use Rattle.std.proofs.Math.Nat.{min-le_left}
use Rattle.std.specs.List.{list_any}
use Rattle.indexmap.specs.IndexSet.{insert_key}
use Rattle.sc_sorts.specs.declared.sort.Sort.{Sort}
use Rattle.sc_sorts.specs.declared.sort.Sort.TheVariants as sort
use Rattle.sc_sorts.specs.declared.node.Node.{Node}
use Rattle.sc_sorts.specs.contracts.node.NodePartialEq.TheImpl.{ghosts as node_eq}
use Rattle.sc_sorts.specs.contracts.node.NodeEq.TheImpl.Laws.{laws-law}
use Rattle.sc_terms.specs.Tables.{Places, node_parts, tree, node_tree, sort_at, PartsAreBelow, IsTable, IsSorted, Keeps, StandsFor}
use Rattle.sc_sorts.specs.Inside.{SortFields}
use Rattle.sc_terms.specs.TreeSorts.{tree_sort, sorts_of}
use Rattle.sc_terms.proofs.TableLaws.{slice_get-end, keeps_append, table_insert, stands_insert}

module _ (xs : List Node) (v : Node) (ss : List Sort) (s : Sort) (t : IsSorted xs ss) (h : PartsAreBelow (length xs) v)
    (absent : list_any (node_eq.eq v) xs ≡ false) where
  more : insert_key node_eq.eq xs v ≡ xs ++ v ∷ []
  more = rw absent refl

  table_more : IsTable (xs ++ v ∷ [])
  table_more = subst IsTable more (table_insert xs v t.table h)

  pub stands_more : StandsFor (xs ++ v ∷ []) (length xs) (node_tree xs v)
  stands_more =
      subst (λ ys. StandsFor ys (length xs) (node_tree xs v)) more (stands_insert xs v t.table h (length xs) v (rw more (slice_get-end xs v)) (laws-law.refl v))

  pub sorted_more : s ≡ tree_sort (node_tree xs v) → IsSorted (xs ++ v ∷ []) (ss ++ s ∷ [])
  sorted_more e =
      record {
        table = table_more;
        sorts = record {
          as_many = omega (arith, length-append xs (v ∷ []), length-append ss (s ∷ []), t.sorts.as_many);
          each = λ n k. by n k (cases n k);
        };
      }
    where
      cases : (n : ℕ) → n < length (xs ++ v ∷ []) → (n < length xs) ⊎ (n ≡ length xs)
      cases n k = grind (arith, length-append xs (v ∷ []))

      by : (n : ℕ) → n < length (xs ++ v ∷ []) → (n < length xs) ⊎ (n ≡ length xs) → sort_at (ss ++ s ∷ []) n ≡ tree_sort (tree (xs ++ v ∷ []) n)
      by n k (inl a) =
          get_or-append ss (s ∷ []) sort.Bool n (omega (arith, t.sorts.as_many))
          ∙ t.sorts.each n a
          ∙ ap tree_sort (sym ((keeps_append xs (v ∷ [])).same n a))
      by n k (inr a) =
          get_or_at ss s [] sort.Bool n (omega (arith, a, t.sorts.as_many))
          ∙ e
          ∙ ap tree_sort (sym stands_more.is ∙ ap (tree (xs ++ v ∷ [])) (sym a))

-- ---- the sorts of the terms that stay where others are taken back

within_front : (n : ℕ) (xs : List Node) (m : ℕ) (x : Node) → slice_get (take n xs) m ≡ Some x → slice_get xs m ≡ Some x
within_front zero xs m x e = cc
within_front (suc n) [] m x e = e
within_front (suc n) (y ∷ ys) zero x e = e
within_front (suc n) (y ∷ ys) (suc m) x e = within_front n ys m x e

pub sorted_front : (n : ℕ) (xs : List Node) (ss : List Sort) → IsSorted xs ss → IsSorted (take n xs) (take n ss)
sorted_front n xs ss t =
    record {
      table = record {
        below = λ m x e. t.table.below m x (within_front n xs m x e);
        apart = λ l m h k e. t.table.apart l m (omega (arith, keeps.longer)) (omega (arith, keeps.longer)) (keeps.same l h ∙ e ∙ sym (keeps.same m k));
      };
      sorts = record {
        as_many = length-take n ss ∙ ap (min n) t.sorts.as_many ∙ sym (length-take n xs);
        each = λ m h. get_or-take n ss m sort.Bool (short m h) ∙ t.sorts.each m (omega (arith, keeps.longer)) ∙ ap tree_sort (keeps.same m h);
      };
    }
  where
    keeps : Keeps (take n xs) xs
    keeps = subst (Keeps (take n xs)) (take-append-drop n xs) (keeps_append (take n xs) (drop n xs))

    short : (m : ℕ) → m < length (take n xs) → m < n
    short m h = omega (arith, length-take n xs, min-le_left n (length xs))

-- ---- the sorts of a record's fields, one after the other

pub sorts_go_on : (xs : List Node) (done more whole : SortFields) (p : List ℕ × ℕ) (rest later : Places) → more ≡ done ++ (p.0, tree_sort (tree xs p.1)) ∷ []
    → rest ≡ p ∷ later → done ++ sorts_of (node_parts xs rest) ≡ whole → more ++ sorts_of (node_parts xs later) ≡ whole
unfolding tree_sort
sorts_go_on xs done more whole p rest later e f g =
    ap (λ (ys : SortFields). ys ++ sorts_of (node_parts xs later)) e
    ∙ append_assoc done ((p.0, tree_sort (tree xs p.1)) ∷ []) (sorts_of (node_parts xs later))
    ∙ ap (λ (ps : Places). done ++ sorts_of (node_parts xs ps)) (sym f)
    ∙ g

pub sorts_end : (xs : List Node) (done whole : SortFields) (rest : Places) → length rest ≡ 0 → done ++ sorts_of (node_parts xs rest) ≡ whole → done ≡ whole
unfolding tree_sort
sorts_end xs done whole [] e g = sym (append-nil done) ∙ g
sorts_end xs done whole (p ∷ ps) e g = absurd (omega arith)
