-- The closed terms that may be strings of a rule: string terms, and constants.
use Rattle.std.specs.Prelude.{◌≡◌, ◌≤◌, ◌||◌, ℕ, Bool, true, List, length, Some, is_some}
use Rattle.sc_lists.specs.Members.{Has}
use Rattle.sc_terms.specs.Folds.{literal_of}
use Rattle.sc_terms.specs.Trees.{Tree}
use Rattle.sc_footprint.specs.Problems.{Posed, term_of}
use Rattle.sc_rule_laws.specs.Terms.{is_string}

abbrev pub is_text : Tree → Bool
is_text t = is_string t || is_some (literal_of t)

-- all of these up to a number
pub record AreTextsUpTo (p : Posed) (count : ℕ) (numbers : List ℕ) : Type 0 where
  pub few : length numbers ≤ count
  pub all : (n : ℕ) (t : Tree) → n ≤ count → term_of p n ≡ Some t → is_text t ≡ true → Has numbers n

-- all of these, which are no more than the closed terms
pub record AreTexts (p : Posed) (numbers : List ℕ) : Type 0 where
  pub few : length numbers ≤ length p.closed
  pub all : (n : ℕ) (t : Tree) → term_of p n ≡ Some t → is_text t ≡ true → Has numbers n
