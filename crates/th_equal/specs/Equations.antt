-- Choices of the table, and the numbers of closed terms. No public promise speaks of it.
use Rattle.std.specs.Prelude.{◌≡◌, ◌≢◌, ℕ, Bool, true, false, Option, Some, None}
use Rattle.sc_terms.specs.Trees.{Tree, choice}
use Rattle.sc_footprint.specs.Problems.{Posed, term_of}

abbrev pub is_choice : Tree → Bool
is_choice (choice c a b) = true
is_choice _ = false

-- the number of a closed term, where it is one
abbrev pub IsNumberIf : Posed → Tree → Option ℕ → Type 0
IsNumberIf p t (Some n) = term_of p n ≡ Some t
IsNumberIf p t None = (n : ℕ) → term_of p n ≢ Some t
