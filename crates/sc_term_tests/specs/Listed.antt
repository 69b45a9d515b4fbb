-- Clauses of the atoms that a problem has, as a test.
use Rattle.std.specs.Prelude.{◌&&◌, ℕ, Bool, List, nat_lt, not}
use Rattle.std.specs.List.{list_all}
use Rattle.sc_clauses.specs.declared.lit.Lit.{Lit}
use Rattle.sc_clauses.specs.Clauses.{Clause}

abbrev pub is_listed : ℕ → Lit → Bool
is_listed atoms l = nat_lt 0 l.atom && not (nat_lt atoms l.atom)

abbrev pub all_listed : ℕ → List Clause → Bool
all_listed atoms clauses = list_all (λ c. list_all (is_listed atoms) c) clauses
