-- Closed terms that are given by their numbers.
use Rattle.std.specs.Prelude.{◌≡◌, ◌<◌, ℕ, length, Option, Some, None}
use Rattle.sc_terms.specs.Tables.{tree}
use Rattle.sc_terms.specs.Trees.{Tree}
use Rattle.sc_footprint.specs.Problems.{Posed, term_of}
use Rattle.sc_rule_laws.specs.Signed.{Said}
use Rattle.sc_rule_instances.specs.Instances.{on_two}
use Rattle.sc_rule_instances.specs.declared.given.Closed.{Closed}

abbrev pub term_at : Posed → Closed → Tree
term_at p c = tree p.nodes c.term

-- the number in the table is that of the closed term
pub record IsClosed (p : Posed) (c : Closed) : Type 0 where
  pub within : c.term < length p.nodes
  pub is : term_of p c.number ≡ Some (term_at p c)

-- the closed term of a number, where there is one
pub record IsGiven (p : Posed) (n : ℕ) (c : Closed) : Type 0 where
  pub closed : IsClosed p c
  pub is : term_of p n ≡ Some (term_at p c)

abbrev pub IsGivenIf : Posed → ℕ → Option Closed → Type 0
IsGivenIf p n (Some c) = IsGiven p n c
IsGivenIf p n None = term_of p n ≡ None

-- the closed terms of two numbers, where there are two
abbrev pub AreGivenIf : Posed → ℕ → ℕ → Option (Closed × Closed) → Type 0
AreGivenIf p a b (Some (x, y)) = IsGiven p a x × IsGiven p b y
AreGivenIf p a b None = (rule : Tree → Tree → Said) → on_two (term_of p a) (term_of p b) rule ≡ None
