-- Equations of a term with others, and when two terms are two values. No public promise speaks of it.
use Rattle.std.specs.Prelude.{◌≡◌, ◌⊎◌, ℕ, Bool, true, false, not, ◌&&◌, List, [], ◌∷◌, map, Option, Some}
use Rattle.sc_lists.specs.Members.{Has}
use Rattle.sc_sorts.specs.declared.node.Node.{Node}
use Rattle.sc_sorts.specs.declared.node.Literal.{Literal}
use Rattle.sc_sorts.specs.Literals.{same_entity}
use Rattle.sc_terms.specs.Trees.{Tree}
use Rattle.sc_terms.specs.Tables.{tree}
use Rattle.sc_terms.specs.Order.{tree_eq}
use Rattle.sc_terms.specs.Folds.{truth_term, literal_of, equal_term}
use Rattle.sc_closure_rules.specs.Making.{Puts}
use Rattle.sc_candidates.specs.Values.{truth_value}

-- the equations of each of these and a term
abbrev pub equations_with : List Tree → Tree → List Tree
equations_with ts x = map (λ t. equal_term t x) ts

-- whether two literals that aren't one are of two values, and neither is a truth value
abbrev pub two_values : Literal → Literal → Bool
two_values l m = not (truth_value l) && (not (truth_value m) && not (same_entity l m))

-- whether two terms, given whether they are one, are literals of two values
abbrev pub apart : Bool → Option Literal → Option Literal → Bool
apart true o p = false
apart false (Some l) (Some m) = two_values l m
apart false _ _ = false

-- whether the term of a number and another are two values
abbrev pub apart_from : List Node → Tree → ℕ → Bool
apart_from xs x n = apart (tree_eq (tree xs n) x) (literal_of (tree xs n)) (literal_of x)

-- the equations of a value and others, given whether one of them is another value
abbrev pub told_of : Bool → Tree → List Tree
told_of true x = equal_term x x ∷ truth_term false ∷ []
told_of false x = equal_term x x ∷ []

-- numbers are put that stand for these equations of a term, and perhaps for its equation with itself
pub record Equates (old new : List Node) (before after : List ℕ) (ys : List Tree) (x : Tree) : Type 0 where
  pub told : List Tree
  pub puts : Puts old new before after told
  pub only : (z : Tree) → Has told z → Has ys z ⊎ (equal_term x x ≡ z)
  pub whole : (z : Tree) → Has ys z → Has told z
