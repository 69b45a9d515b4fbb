-- What stays is what the constructor makes.
use Rattle.std.proofs.Common.{◌≡◌, ℕ, List, true, false, ◌||◌, Option, Some, None, refl}
use Rattle.std.specs.Ordering.{is_gt}
use Rattle.sc_laws.proofs.BoolLaws.{and_first, and_second, not_is_true}
use Rattle.sc_pattern.specs.declared.part.Part.{Part}
use Rattle.sc_sorts.specs.declared.node.Literal.{Literal}
use Rattle.sc_sorts.specs.declared.node.UnaryOp.TheVariants as unary
use Rattle.sc_sorts.specs.declared.node.BinaryOp.TheVariants as binary
use Rattle.sc_terms.specs.Trees.{Tree, one, two, choice}
use Rattle.sc_terms.specs.Order.{tree_cmp, tree_eq}
use Rattle.sc_terms.specs.Folds.{constant, under_not, literal_of, literals_same, component, absent, not_term, and_term, or_term, choice_term, equal_term, field_term, present_term, held_term, bit_term, like_term}
use Rattle.sc_term_laws.specs.Unfolded.{lacks, has_other, stays_not, stays_two, stays_choice, stays_equal, stays_field, stays_option, stays_literal}

none_of : {X : Type 0} (o : Option X) → lacks o ≡ true → o ≡ None
none_of None h = refl
none_of (Some x) h = cc

pub not_stays : (a : Tree) → stays_not a ≡ true → not_term a ≡ one unary.Not a
unfolding not_term
not_stays a h = rw (none_of (constant a) (and_first (lacks (constant a)) _ h), none_of (under_not a) (and_second (lacks (constant a)) _ h)) refl

module _ (a b : Tree) (h : stays_two a b ≡ true) where
  first_none : constant a ≡ None
  first_none = none_of (constant a) (and_first (lacks (constant a)) _ h)

  second_none : constant b ≡ None
  second_none = none_of (constant b) (and_first (lacks (constant b)) _ (and_second (lacks (constant a)) _ h))

  differ : tree_eq a b ≡ false
  differ = not_is_true (tree_eq a b) (and_second (lacks (constant b)) _ (and_second (lacks (constant a)) _ h))

  pub and_stays : and_term a b ≡ two binary.And a b
  unfolding and_term
  and_stays = rw (first_none, second_none, differ) refl

  pub or_stays : or_term a b ≡ two binary.Or a b
  unfolding or_term
  or_stays = rw (first_none, second_none, differ) refl

pub choice_stays : (c a b : Tree) → stays_choice c a b ≡ true → choice_term c a b ≡ choice c a b
unfolding choice_term
choice_stays c a b h = rw (none_of (constant c) (and_first (lacks (constant c)) _ h), not_is_true (tree_eq a b) (and_second (lacks (constant c)) _ h)) refl

some_lacks : (o p : Option Literal) → (lacks o || lacks p) ≡ true → literals_same o p ≡ None
some_lacks None p h = refl
some_lacks (Some l) None h = refl
some_lacks (Some l) (Some m) h = cc

pub equal_stays : (a b : Tree) → stays_equal a b ≡ true → equal_term a b ≡ two binary.Equal a b
unfolding equal_term
equal_stays a b h =
    let two : stays_two a b ≡ true = and_first _ _ h in
    let rest = and_second (stays_two a b) _ h in
    rw (first_none a b two, second_none a b two, differ a b two, some_lacks (literal_of a) (literal_of b) (and_first (has_other a b) _ rest), not_is_true (is_gt (tree_cmp a b)) (and_second (has_other a b) _ rest)) refl

pub field_stays : (name : List ℕ) (a : Tree) → stays_field name a ≡ true → field_term name a ≡ one (unary.Field name) a
unfolding field_term
field_stays name a h = rw (none_of (component name a) h) refl

pub present_stays : (a : Tree) → stays_option a ≡ true → present_term a ≡ one unary.Present a
unfolding present_term
present_stays a h = rw (none_of (absent a) h) refl

pub held_stays : (a : Tree) → stays_option a ≡ true → held_term a ≡ one unary.Held a
unfolding held_term
held_stays a h = rw (none_of (absent a) h) refl

pub bit_stays : (a : Tree) (i : ℕ) → stays_literal a ≡ true → bit_term a i ≡ one (unary.Bit i) a
unfolding bit_term
bit_stays a i h = rw (none_of (literal_of a) h) refl

pub like_stays : (a : Tree) (p : List Part) → stays_literal a ≡ true → like_term a p ≡ one (unary.Like p) a
unfolding like_term
like_stays a p h = rw (none_of (literal_of a) h) refl
