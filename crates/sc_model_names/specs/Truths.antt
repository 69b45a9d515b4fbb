-- The truth that an assignment of atoms gives to literals.
use Rattle.std.specs.Prelude.{◌≡◌, ◌==◌, ℕ, Bool, true, false, not, [], ◌∷◌, Some, None, unwrap_or, if◌then◌else◌, refl}
use Rattle.sc_clauses.specs.declared.lit.Lit.{Lit}
use Rattle.sc_clauses.specs.Assignments.{Assignment, value_of}

-- atom 1 is `true`; an atom without a value counts as false
abbrev pub atom_truth : Assignment → ℕ → Bool
atom_truth m n = if n == 1 then true else unwrap_or (value_of m n) false

abbrev pub literal_truth : Assignment → Lit → Bool
literal_truth m l = if l.negated then not (atom_truth m l.atom) else atom_truth m l.atom

-- ---- worked rows

-- whatever is said of atom 1, it is true, and an atom without a value is false
pub first_is_true : (m : Assignment) → atom_truth m 1 ≡ true
first_is_true m = refl

pub second_is_unknown : atom_truth (Some true ∷ None ∷ []) 2 ≡ false
second_is_unknown = refl
