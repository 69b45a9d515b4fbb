-- Which terms are values that are written out, and lists where a test passes. No public promise speaks of it.
use Rattle.std.specs.Prelude.{◌≡◌, ◌⊎◌, ◌++◌, ℕ, Bool, true, false, not, List, [], ◌∷◌, Option, Some, None}
use Rattle.sc_lists.specs.Members.{Has}
use Rattle.sc_sorts.specs.declared.node.Node.{Node}
use Rattle.sc_sorts.specs.declared.node.Literal.{Literal}
use Rattle.sc_sorts.specs.declared.node.Literal.TheVariants as literal
use Rattle.sc_terms.specs.Trees.{Tree}
use Rattle.sc_terms.specs.Tables.{tree}
use Rattle.sc_terms.specs.Folds.{literal_of}

-- whether a literal is a truth value
abbrev pub truth_value : Literal → Bool
truth_value (literal.Bool b) = true
truth_value _ = false

-- whether a term, given the literal that it is, is one and no truth value
abbrev pub value_in : Option Literal → Bool
value_in (Some l) = not (truth_value l)
value_in None = false

-- a term that is no value is put behind these
abbrev pub with_other : Bool → List ℕ → ℕ → List ℕ
with_other true ns n = ns
with_other false ns n = ns ++ n ∷ []

-- these, where a test passes
abbrev pub where_so : Bool → List Tree → List Tree
where_so true ts = ts
where_so false ts = []

-- the members that aren't among the others are values
pub record AreDivided (xs : List Node) (members others : List ℕ) : Type 0 where
  pub others_in : (n : ℕ) → Has others n → Has members n
  pub divided : (n : ℕ) → Has members n → Has others n ⊎ (value_in (literal_of (tree xs n)) ≡ true)
