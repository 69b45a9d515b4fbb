-- Scarce strings: fewer texts than a number have their signs.
use Rattle.std.specs.Prelude.{◌≡◌, ◌≤◌, ◌↔◌, ℕ, true, IsTrue, List, length, Option, Some, None}
use Rattle.std.specs.List.{AllByRecursion}
use Rattle.sc_lists.specs.Members.{Has}
use Rattle.sc_clauses.specs.Assignments.{Assignment}
use Rattle.sc_terms.specs.Trees.{Tree}
use Rattle.sc_footprint.specs.Problems.{Posed, term_of}
use Rattle.sc_rule_laws.specs.Strings.{Pattern, AreFew}
use Rattle.sc_rule_laws.specs.Terms.{is_string}
use Rattle.th_strings.specs.Known.{row_at}
use Rattle.th_strings.specs.declared.scarce.Answer.{Answer}

-- a kept answer is right
abbrev pub IsTold : List Pattern → ℕ → Answer → Type 0
IsTold qs count a = IsTrue a.few ↔ AreFew qs a.signs count

-- the term is a string, and fewer than `count` texts have its signs
abbrev pub IsScarceTerm : Posed → Assignment → List Pattern → ℕ → Tree → Type 0
IsScarceTerm p m qs count t = (is_string t ≡ true) × AreFew qs (row_at p m qs t) count

abbrev pub IsScarceIf : Posed → Assignment → List Pattern → ℕ → Option Tree → Type 0
IsScarceIf p m qs count (Some t) = IsScarceTerm p m qs count t
IsScarceIf p m qs count None = ⊥

abbrev pub IsScarce : Posed → Assignment → List Pattern → ℕ → ℕ → Type 0
IsScarce p m qs count n = IsScarceIf p m qs count (term_of p n)

-- the scarce ones among some closed terms, by their numbers
pub record AreScarce (p : Posed) (m : Assignment) (qs : List Pattern) (count : ℕ) (numbers scarce : List ℕ)
    : Type 0 where
  pub few : length scarce ≤ length numbers
  pub each : AllByRecursion (IsScarce p m qs count) scarce
  pub all : (n : ℕ) → Has numbers n → IsScarce p m qs count n → Has scarce n
