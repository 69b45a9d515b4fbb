-- Clauses in one array of numbers, one for each literal, and of each clause the place where its numbers end.
use Rattle.std.specs.Prelude.{◌==◌, ◌+◌, ◌-◌, ◌*◌, ◌/◌, ◌%◌, ◌&&◌, ℕ, zero, suc, List, [], ◌∷◌, map, take, drop, Bool, nat_lt, nat_le, Option, Some, None, if◌then◌else◌}
use Rattle.sc_clauses.specs.declared.lit.Lit.{Lit}
use Rattle.sc_clauses.specs.Clauses.{Clause}

-- the number of a literal: those of an atom and of its negation are neighbours
abbrev pub code_of : Lit → ℕ
code_of l = if l.negated then l.atom * 2 + 1 else l.atom * 2

abbrev pub lit_of : ℕ → Lit
lit_of code = record { atom = code / 2; negated = code % 2 == 1 }

-- the literal of a number; 0 is none's
abbrev pub lit_found : ℕ → Option Lit
lit_found code = if code == 0 then None else Some (lit_of code)

abbrev pub has_code : Lit → Bool
has_code l = nat_lt 0 l.atom

-- where the clause at a place begins, the first of them at a start
abbrev pub begin_at : ℕ → List ℕ → ℕ → ℕ
begin_at start ends zero = start
begin_at start [] (suc place) = start
begin_at start (e ∷ ends) (suc place) = begin_at e ends place

-- the clauses that end at these places, one behind the other
unfoldable pub pieces : ℕ → List ℕ → List ℕ → List Clause
pieces start codes [] = []
pieces start codes (e ∷ ends) = map lit_of (take (e - start) (drop start codes)) ∷ pieces e codes ends

-- no clause ends before it begins, and the last ends behind all numbers
unfoldable pub are_ordered : ℕ → List ℕ → ℕ → Bool
are_ordered start [] count = start == count
are_ordered start (e ∷ ends) count = nat_le start e && are_ordered e ends count

-- no clause ends before it begins, or past the numbers
unfoldable pub are_within : ℕ → List ℕ → ℕ → Bool
are_within start [] count = nat_le start count
are_within start (e ∷ ends) count = nat_le start e && are_within e ends count
