-- Closed terms by their numbers in the table. No public promise speaks of it.
use Rattle.std.specs.Prelude.{◌++◌, ℕ, Bool, List, [], ◌∷◌, Option, Some, None, option_map}
use Rattle.sc_terms.specs.Tables.{tree}
use Rattle.sc_footprint.specs.Problems.{Posed, numbered}
use Rattle.sc_rule_laws.specs.Terms.{is_string}

abbrev pub with_place : Option ℕ → Option (List ℕ) → Option (List ℕ)
with_place (Some n) (Some ns) = Some (n ∷ ns)
with_place _ _ = None

-- the numbers in the table of closed terms, where each is one
abbrev pub placed : Posed → List ℕ → Option (List ℕ)
placed p [] = Some []
placed p (n ∷ ns) = with_place (numbered p.closed n) (placed p ns)

-- some, and then others
abbrev pub with_places : List ℕ → Option (List ℕ) → Option (List ℕ)
with_places ns o = option_map (λ ms. ns ++ ms) o

-- the term of a number is a string
abbrev pub is_string_at : Posed → ℕ → Bool
is_string_at p n = is_string (tree p.nodes n)
