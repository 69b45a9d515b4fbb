-- What a node's place in a table tells of its term.
use Rattle.std.proofs.Common.{◌≡◌, ◌≢◌, ◌<◌, ◌++◌, ℕ, false, List, [], ◌∷◌, Some, length, slice_get, get_or, refl, sym, ap, ◌∙◌, subst, arith, length-append}
use Rattle.std.proofs.lemmas.List.Quantifiers.{position-Some}
use Rattle.std.specs.List.{list_any, position}
use Rattle.std.proofs.lemmas.Option.{slice_get-get_or}
use Rattle.indexmap.specs.IndexSet.{insert_key}
use Rattle.sc_sorts.specs.declared.node.Node.{Node}
use Rattle.sc_sorts.specs.contracts.node.NodePartialEq.TheImpl.{ghosts as node_eq}
use Rattle.sc_sorts.specs.contracts.node.NodeEq.TheImpl.Laws.{laws-law}
use Rattle.sc_sorts.specs.Same.{same_node}
use Rattle.sc_terms.proofs.TableLaws.{slice_get-end, tree_is, keeps_append, table_insert, stands_insert}
use Rattle.sc_terms.specs.Tables.{tree, node_tree, PartsAreBelow, IsTable, StandsFor}

module _ (xs : List Node) (v : Node) (t : IsTable xs) where
  pub found_at : (n : ℕ) → position (node_eq.eq v) xs ≡ Some n → StandsFor xs n (node_tree xs v)
  found_at n e =
      let p = position-Some (node_eq.eq v) xs n v e in
      let same : v ≡ get_or xs n v = same_node v (get_or xs n v) p.1 in
      let at : slice_get xs n ≡ Some v = slice_get-get_or xs n v p.0 ∙ ap Some (sym same) in
      record { within = p.0; is = tree_is xs n v at (t.below n v at) }

  -- where the node isn't there, it may come in, and no two numbers stand for one term
  pub missing : PartsAreBelow (length xs) v → list_any (node_eq.eq v) xs ≡ false → (n : ℕ) → n < length xs → tree xs n ≢ node_tree xs v
  missing h absent n k e =
      let more : insert_key node_eq.eq xs v ≡ xs ++ v ∷ [] = rw absent refl in
      let table : IsTable (xs ++ v ∷ []) = subst IsTable more (table_insert xs v t h) in
      let stands : StandsFor (xs ++ v ∷ []) (length xs) (node_tree xs v) =
      subst (λ ys. StandsFor ys (length xs) (node_tree xs v)) more (stands_insert xs v t h (length xs) v (rw more (slice_get-end xs v)) (laws-law.refl v)) in
      let old : tree (xs ++ v ∷ []) n ≡ tree xs n = (keeps_append xs (v ∷ [])).same n k in
      let end : n ≡ length xs = table.apart n (length xs) (omega (arith, length-append xs (v ∷ []))) stands.within (old ∙ e ∙ sym stands.is) in
      omega (arith, k, end)
