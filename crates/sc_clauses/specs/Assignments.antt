-- Assignments of truth values to atoms.
use Rattle.std.specs.Prelude.{◌==◌, ◌-◌, ℕ, List, Bool, false, Option, Some, None, option_and_then, slice_get, if◌then◌else◌}
use Rattle.std.specs.List.{list_all}
use Rattle.sc_clauses.specs.declared.lit.Lit.{Lit}
use Rattle.sc_clauses.specs.Clauses.{Clause, bool_eq}

-- the values of the atoms from 1 on
abbrev pub Assignment : Type 0
Assignment = List (Option Bool)

-- the value of an atom, where it has one
abbrev pub value_of : Assignment → ℕ → Option Bool
value_of m atom = if atom == 0 then None else option_and_then (λ v. v) (slice_get m (atom - 1))

abbrev pub is_false_at : Option Bool → Bool → Bool
is_false_at None negated = false
is_false_at (Some value) negated = bool_eq value negated

-- the assignment makes the literal false
abbrev pub is_false : Assignment → Lit → Bool
is_false m l = is_false_at (value_of m l.atom) l.negated

-- the assignment makes every literal of the clause false
abbrev pub falsifies : Assignment → Clause → Bool
falsifies m c = list_all (is_false m) c
