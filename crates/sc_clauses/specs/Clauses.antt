-- Literals and clauses.
use Rattle.std.specs.Prelude.{◌&&◌, ◌==◌, ℕ, List, Bool, true, false, not}
use Rattle.std.specs.List.{list_any, list_all}
use Rattle.sc_clauses.specs.declared.lit.Lit.{Lit}

abbrev pub Clause : Type 0
Clause = List Lit

abbrev pub bool_eq : Bool → Bool → Bool
bool_eq true b = b
bool_eq false b = not b

abbrev pub lit_eq : Lit → Lit → Bool
lit_eq a b = (a.atom == b.atom) && bool_eq a.negated b.negated

abbrev pub negation : Lit → Lit
negation l = record { atom = l.atom; negated = not l.negated }

-- the literal that says that an atom is true
abbrev pub positive : ℕ → Lit
positive n = record { atom = n; negated = false }

-- the literal is one of these
abbrev pub is_in : List Lit → Lit → Bool
is_in lits l = list_any (lit_eq l) lits

-- each literal of c is one of d
abbrev pub contained : Clause → Clause → Bool
contained c d = list_all (is_in d) c

-- the truth of a literal where each atom is true or false
abbrev pub holds : (ℕ → Bool) → Lit → Bool
holds truth l = bool_eq (truth l.atom) (not l.negated)

-- some literal is true
abbrev pub clause_holds : (ℕ → Bool) → Clause → Bool
clause_holds truth c = list_any (holds truth) c
