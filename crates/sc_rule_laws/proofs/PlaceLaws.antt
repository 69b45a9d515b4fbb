-- What holds of two terms holds of their like places, if each step keeps it.
use Rattle.std.proofs.Common.{◌≡◌, ℕ, Bool, true, false, cond, List, refl, sym, ap, ◌∙◌}
use Rattle.std.proofs.lemmas.Slice.Eq.{bytes_eq-Decides}
use Rattle.sc_lists.proofs.TextLaws.{bytes_eq_true}
use Rattle.sc_sorts.specs.NodeSorts.{unary_sort}
use Rattle.sc_sorts.specs.declared.node.UnaryOp.{UnaryOp}
use Rattle.sc_sorts.specs.declared.node.UnaryOp.TheVariants as unary
use Rattle.sc_terms.specs.Trees.{Tree, leaf, one, two, choice, many}
use Rattle.sc_terms.specs.TreeSorts.{tree_sort}
use Rattle.sc_terms.specs.Folds.{field_term, held_term}
use Rattle.sc_rule_laws.specs.Places.{same_step, roots}

module _ (R : Tree → Tree → Type 0) (kept : (o q : UnaryOp) (a b : Tree) → same_step o q ≡ true → R a b → R (one o a) (one q b)) where
  kept_by : (t : Bool) (o q : UnaryOp) (a b : Tree) → same_step o q ≡ t → (R (roots a b).0 (roots a b).1 → R a b)
      → R (cond t (roots a b) (one o a, one q b)).0 (cond t (roots a b) (one o a, one q b)).1 → R (one o a) (one q b)
  kept_by true o q a b e next h = kept o q a b e (next h)
  kept_by false o q a b e next h = h

  pub places_kept : (x y : Tree) → R (roots x y).0 (roots x y).1 → R x y
  unfolding roots
  places_kept (one o a) (one q b) h = kept_by (same_step o q) o q a b refl (places_kept a b) h
  places_kept (one o a) (leaf l) h = h
  places_kept (one o a) (two q b c) h = h
  places_kept (one o a) (choice b c e) h = h
  places_kept (one o a) (many q ts) h = h
  places_kept (leaf l) y h = h
  places_kept (two o a b) y h = h
  places_kept (choice a b c) y h = h
  places_kept (many o ts) y h = h

-- ---- sorts

abbrev SameSort : Tree → Tree → Type 0
SameSort x y = tree_sort x ≡ tree_sort y

pub field_sorted : (m n : List ℕ) (a b : Tree) → m ≡ n → tree_sort a ≡ tree_sort b → tree_sort (one (unary.Field m) a) ≡ tree_sort (one (unary.Field n) b)
unfolding tree_sort
field_sorted m n a b e h = λ i. unary_sort (unary.Field (e i)) (h i)

pub held_sorted : (a b : Tree) → tree_sort a ≡ tree_sort b → tree_sort (one unary.Held a) ≡ tree_sort (one unary.Held b)
unfolding tree_sort
held_sorted a b h = ap (unary_sort unary.Held) h

step_sorted : (o q : UnaryOp) (a b : Tree) → same_step o q ≡ true → SameSort a b → SameSort (one o a) (one q b)
step_sorted (unary.Field m) (unary.Field n) a b e h = field_sorted m n a b (bytes_eq_true m n e) h
step_sorted unary.Held unary.Held a b e h = held_sorted a b h
step_sorted (unary.Field m) _ a b e h = absurd cc
step_sorted unary.Held _ a b e h = absurd cc
step_sorted _ _ a b e h = absurd cc

-- like places of what is of one sort are of one sort
pub places_sorted : (x y : Tree) → tree_sort (roots x y).0 ≡ tree_sort (roots x y).1 → tree_sort x ≡ tree_sort y
places_sorted x y h = places_kept SameSort step_sorted x y h

-- ---- a step goes on from a place

pub step_roots : (o q : UnaryOp) (a b : Tree) → same_step o q ≡ true → roots (one o a) (one q b) ≡ roots a b
unfolding roots
step_roots o q a b e = ap (λ (t : Bool). cond t (roots a b) (one o a, one q b)) e

pub same_field : (n : List ℕ) → same_step (unary.Field n) (unary.Field n) ≡ true
same_field n = (bytes_eq-Decides n n).1 refl

-- a term with an operator on one part or two: none that a field or what is held folds into
abbrev pub is_built : Tree → Bool
is_built (one o a) = true
is_built (two o a b) = true
is_built _ = false

unbuilt : (p q : Tree × Tree) → p ≡ q → is_built p.0 ≡ false → is_built q.0 ≡ true → ⊥
unbuilt p q e n h = let both : true ≡ false = sym h ∙ ap (λ (z : Tree × Tree). is_built z.0) (sym e) ∙ n in absurd cc

pub built_place : (x y : Tree) (p : Tree × Tree) → roots x y ≡ p → is_built p.0 ≡ true → is_built x ≡ true
unfolding roots
built_place (one o a) y p e h = refl
built_place (two o a b) y p e h = refl
built_place (leaf l) y p e h = absurd (unbuilt (leaf l, y) p e refl h)
built_place (choice a b c) y p e h = absurd (unbuilt (choice a b c, y) p e refl h)
built_place (many o ts) y p e h = absurd (unbuilt (many o ts, y) p e refl h)

pub built_field : (n : List ℕ) (x : Tree) → is_built x ≡ true → field_term n x ≡ one (unary.Field n) x
unfolding field_term
built_field n (one o a) h = refl
built_field n (two o a b) h = refl
built_field n _ h = absurd cc

pub built_held : (x : Tree) → is_built x ≡ true → held_term x ≡ one unary.Held x
unfolding held_term
built_held (one o a) h = refl
built_held (two o a b) h = refl
built_held _ h = absurd cc
