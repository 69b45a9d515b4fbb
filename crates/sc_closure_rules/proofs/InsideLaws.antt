-- What is put by a term's sort.
use Rattle.std.proofs.Common.{◌≡◌, ℕ, ◌<◌, ◌≤◌, Bool, true, false, List, [], ◌∷◌, ◌++◌, map, length, refl, sym, ap, ◌∙◌, subst, arith}
use Rattle.std.proofs.Common.{append-nil}
use Rattle.std.specs.Map.{keys_of}
use Rattle.sc_sorts.specs.Inside.{SortField, SortFields, fields_in}
use Rattle.sc_sorts.specs.declared.sort.Sort.{Sort, Sort-F, out-Sort}
use Rattle.sc_sorts.specs.declared.sort.Sort.TheOpen as s
use Rattle.sc_sorts.specs.declared.node.BinaryOp.TheVariants as binary
use Rattle.sc_sorts.specs.declared.node.Node.{Node}
use Rattle.sc_terms.specs.Trees.{Tree, two}
use Rattle.sc_terms.specs.TreeSorts.{tree_sort}
use Rattle.sc_terms.specs.Tables.{tree, Keeps}
use Rattle.sc_terms.specs.Folds.{equal_term, field_term, held_term}
use Rattle.sc_term_laws.specs.Tests.{bool_level, is_bool}
use Rattle.sc_term_definitions.specs.Definitions.{counted, bits_in, bit_count}
use Rattle.sc_term_definitions.specs.Making.{Puts}
use Rattle.sc_term_definitions.proofs.MakingLaws.{puts_then, puts_same, puts_nothing}
use Rattle.sc_closure_rules.specs.declared.equations.Equated.{Equated}
use Rattle.sc_closure_rules.specs.declared.equations.Equated.TheVariants as equated
use Rattle.sc_closure_rules.specs.Closure.{bit_terms, inside, inside_by, branches, equations}
use Rattle.sc_closure_rules.specs.Beside.{held_option, held_terms, equated_by}

-- fields by their names
by_names : (f : List ℕ → Tree) (fs : SortFields) → map f (keys_of fs) ≡ map (λ (g : SortField). f g.0) fs
by_names f [] = refl
by_names f (g ∷ fs) = ap (λ (ts : List Tree). f g.0 ∷ ts) (by_names f fs)

-- of each sort just one of these is there
inside_parts : (k : Sort-F Sort) (x : Tree) → map (λ (name : List ℕ). field_term name x) (keys_of (fields_in k)) ++ (held_terms (held_option k) x ++ bit_terms (bits_in k) x) ≡ inside_by k x
unfolding counted
inside_parts (s.Record fs) x = append-nil (map (λ (name : List ℕ). field_term name x) (keys_of fs)) ∙ by_names (λ (name : List ℕ). field_term name x) fs
inside_parts (s.Option held) x = refl
inside_parts _ x = refl

-- what has been put for a term stays its own
pub places_later : (xs ys : List Node) (n : ℕ) (count : ℕ) (k : Sort) → Keeps xs ys → n < length xs → k ≡ tree_sort (tree xs n) → count ≡ bit_count k → count ≤ bit_count (tree_sort (tree ys n))
places_later xs ys n count k e within sorted is =
    let same : count ≡ bit_count (tree_sort (tree ys n)) = is ∙ ap bit_count sorted ∙ ap (λ (t : Tree). bit_count (tree_sort t)) (sym (e.same n within)) in
    omega (arith, same)

module _ (s0 s1 s2 s3 : List Node) (n : ℕ) (l0 l1 l2 l3 : List ℕ) (names : List (List ℕ)) (count : ℕ) (within : n < length s0)
    (named : names ≡ keys_of (fields_in (out-Sort (tree_sort (tree s0 n))))) (counts : count ≡ bit_count (tree_sort (tree s0 n)))
    (p1 : Puts s0 s1 l0 l1 (map (λ (name : List ℕ). field_term name (tree s0 n)) names)) (p2 : Puts s1 s2 l1 l2 (held_terms (held_option (out-Sort (tree_sort (tree s1 n)))) (tree s1 n)))
    (p3 : Puts s2 s3 l2 l3 (bit_terms count (tree s2 n))) where
  abbrev x : Tree
  x = tree s0 n

  abbrev level : Sort-F Sort
  level = out-Sort (tree_sort (tree s0 n))

  x1 : tree s1 n ≡ x
  x1 = p1.kept.same n within

  x2 : tree s2 n ≡ x
  x2 = p2.kept.same n (omega (arith, within, p1.kept.longer)) ∙ x1

  fields_put : Puts s0 s1 l0 l1 (map (λ (name : List ℕ). field_term name x) (keys_of (fields_in level)))
  fields_put = subst (λ (ns : List (List ℕ)). Puts s0 s1 l0 l1 (map (λ (name : List ℕ). field_term name x) ns)) named p1

  held_put : Puts s1 s2 l1 l2 (held_terms (held_option level) x)
  held_put = subst (λ (t : Tree). Puts s1 s2 l1 l2 (held_terms (held_option (out-Sort (tree_sort t))) t)) x1 p2

  bits_put : Puts s2 s3 l2 l3 (bit_terms (bits_in level) x)
  bits_put = subst (λ (c : ℕ). Puts s2 s3 l2 l3 (bit_terms c x)) counts (subst (λ (t : Tree). Puts s2 s3 l2 l3 (bit_terms count t)) x2 p3)

  pub inside_put : Puts s0 s3 l0 l3 (inside x)
  inside_put =
      puts_same s0 s3 l0 l3 (map (λ (name : List ℕ). field_term name x) (keys_of (fields_in level)) ++ (held_terms (held_option level) x ++ bit_terms (bits_in level) x)) (inside x) (inside_parts level x)
      (puts_then s0 s1 s3 l0 l1 l3 (map (λ (name : List ℕ). field_term name x) (keys_of (fields_in level))) (held_terms (held_option level) x ++ bit_terms (bits_in level) x) fields_put
      (puts_then s1 s2 s3 l1 l2 l3 (held_terms (held_option level) x) (bit_terms (bits_in level) x) held_put bits_put))

-- ---- branches

no_branch : (k : Sort-F Sort) (x a b : Tree) → bool_level k ≡ true → [] ≡ branches k x a b
no_branch s.Bool x a b h = refl
no_branch _ x a b h = absurd cc

two_branches : (k : Sort-F Sort) (x a b : Tree) → bool_level k ≡ false → equal_term x a ∷ equal_term x b ∷ [] ≡ branches k x a b
two_branches s.Bool x a b h = absurd cc
two_branches _ x a b h = refl

pub no_branches : (xs : List Node) (ns : List ℕ) (x a b : Tree) (k : Sort) (t : Bool) → t ≡ is_bool k → k ≡ tree_sort a → t ≡ true → Puts xs xs ns ns (branches (out-Sort (tree_sort a)) x a b)
no_branches xs ns x a b k t told sorted e =
    puts_same xs xs ns ns [] (branches (out-Sort (tree_sort a)) x a b) (no_branch (out-Sort (tree_sort a)) x a b (ap is_bool (sym sorted) ∙ sym told ∙ e)) (puts_nothing xs ns)

pub both_branches : (xs ys : List Node) (ns ms : List ℕ) (x a b : Tree) (k : Sort) (t : Bool) → t ≡ is_bool k → k ≡ tree_sort a → t ≡ false → Puts xs ys ns ms (equal_term x a ∷ equal_term x b ∷ [])
    → Puts xs ys ns ms (branches (out-Sort (tree_sort a)) x a b)
both_branches xs ys ns ms x a b k t told sorted e p =
    puts_same xs ys ns ms (equal_term x a ∷ equal_term x b ∷ []) (branches (out-Sort (tree_sort a)) x a b) (two_branches (out-Sort (tree_sort a)) x a b (ap is_bool (sym sorted) ∙ sym told ∙ e)) p

-- ---- equations

field_equations : (k : Sort-F Sort) (a b : Tree) → equated_by k ≡ equated.Fields → map (λ (name : List ℕ). equal_term (field_term name a) (field_term name b)) (keys_of (fields_in k)) ≡ equations k a b
field_equations (s.Record fs) a b h = by_names (λ (name : List ℕ). equal_term (field_term name a) (field_term name b)) fs
field_equations _ a b h = absurd cc

held_equation : (k : Sort-F Sort) (a b : Tree) → equated_by k ≡ equated.Held → equal_term (held_term a) (held_term b) ∷ [] ≡ equations k a b
held_equation (s.Option held) a b h = refl
held_equation _ a b h = absurd cc

inclusions : (k : Sort-F Sort) (a b : Tree) → equated_by k ≡ equated.Inclusions → two binary.Subset a b ∷ two binary.Subset b a ∷ [] ≡ equations k a b
inclusions (s.Set member) a b h = refl
inclusions _ a b h = absurd cc

no_equation : (k : Sort-F Sort) (a b : Tree) → equated_by k ≡ equated.Nothing → [] ≡ equations k a b
no_equation (s.Record fs) a b h = absurd cc
no_equation (s.Option held) a b h = absurd cc
no_equation (s.Set member) a b h = absurd cc
no_equation _ a b h = refl

module _ (xs ys : List Node) (ns ms : List ℕ) (a b : Tree) (k : Sort) (e f : Equated) (told : e ≡ equated_by (out-Sort k)) (sorted : k ≡ tree_sort a) (is : e ≡ f) where
  by : equated_by (out-Sort (tree_sort a)) ≡ f
  by = ap (λ (j : Sort). equated_by (out-Sort j)) (sym sorted) ∙ sym told ∙ is

  pub fields_equated : f ≡ equated.Fields → (names : List (List ℕ)) (j : Sort) → names ≡ keys_of (fields_in (out-Sort j)) → j ≡ tree_sort a
      → Puts xs ys ns ms (map (λ (name : List ℕ). equal_term (field_term name a) (field_term name b)) names) → Puts xs ys ns ms (equations (out-Sort (tree_sort a)) a b)
  fields_equated g names j named same p =
      let all : names ≡ keys_of (fields_in (out-Sort (tree_sort a))) = named ∙ ap (λ (l : Sort). keys_of (fields_in (out-Sort l))) same in
      puts_same xs ys ns ms (map (λ (name : List ℕ). equal_term (field_term name a) (field_term name b)) names) (equations (out-Sort (tree_sort a)) a b)
      (ap (map (λ (name : List ℕ). equal_term (field_term name a) (field_term name b))) all ∙ field_equations (out-Sort (tree_sort a)) a b (by ∙ g)) p

  pub held_equated : f ≡ equated.Held → Puts xs ys ns ms (equal_term (held_term a) (held_term b) ∷ []) → Puts xs ys ns ms (equations (out-Sort (tree_sort a)) a b)
  held_equated g p = puts_same xs ys ns ms (equal_term (held_term a) (held_term b) ∷ []) (equations (out-Sort (tree_sort a)) a b) (held_equation (out-Sort (tree_sort a)) a b (by ∙ g)) p

  pub inclusions_equated : f ≡ equated.Inclusions → Puts xs ys ns ms (two binary.Subset a b ∷ two binary.Subset b a ∷ []) → Puts xs ys ns ms (equations (out-Sort (tree_sort a)) a b)
  inclusions_equated g p = puts_same xs ys ns ms (two binary.Subset a b ∷ two binary.Subset b a ∷ []) (equations (out-Sort (tree_sort a)) a b) (inclusions (out-Sort (tree_sort a)) a b (by ∙ g)) p

  pub nothing_equated : f ≡ equated.Nothing → Puts xs ys ns ms [] → Puts xs ys ns ms (equations (out-Sort (tree_sort a)) a b)
  nothing_equated g p = puts_same xs ys ns ms [] (equations (out-Sort (tree_sort a)) a b) (no_equation (out-Sort (tree_sort a)) a b (by ∙ g)) p
