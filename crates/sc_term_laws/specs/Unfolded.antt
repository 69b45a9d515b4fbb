-- Which terms their constructors leave as they are.
use Rattle.std.specs.Prelude.{◌&&◌, ◌||◌, ℕ, List, Bool, true, false, not, Option, Some, None}
use Rattle.std.specs.Ordering.{is_gt}
use Rattle.sc_terms.specs.Trees.{Tree}
use Rattle.sc_terms.specs.Order.{tree_cmp, tree_eq}
use Rattle.sc_terms.specs.Folds.{constant, under_not, literal_of, component, absent}

abbrev pub lacks : {X : Type 0} → Option X → Bool
lacks None = true
lacks (Some x) = false

-- a negation of what is neither a truth value nor a negation
abbrev pub stays_not : Tree → Bool
stays_not a = lacks (constant a) && lacks (under_not a)

-- two different terms, neither of which is a truth value
abbrev pub stays_two : Tree → Tree → Bool
stays_two a b = lacks (constant a) && (lacks (constant b) && not (tree_eq a b))

abbrev pub stays_choice : Tree → Tree → Tree → Bool
stays_choice c a b = lacks (constant c) && not (tree_eq a b)

-- one of the two is no literal
abbrev pub has_other : Tree → Tree → Bool
has_other a b = lacks (literal_of a) || lacks (literal_of b)

-- such terms, not both literals, of which the lesser stands first
abbrev pub stays_equal : Tree → Tree → Bool
stays_equal a b = stays_two a b && (has_other a b && not (is_gt (tree_cmp a b)))

-- no record term that has the field
abbrev pub stays_field : List ℕ → Tree → Bool
stays_field name a = lacks (component name a)

abbrev pub stays_option : Tree → Bool
stays_option a = lacks (absent a)

abbrev pub stays_literal : Tree → Bool
stays_literal a = lacks (literal_of a)
