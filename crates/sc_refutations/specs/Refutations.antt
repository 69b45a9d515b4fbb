-- What the hints of a learned clause show.
use Rattle.std.specs.Prelude.{◌&&◌, ◌||◌, ◌==◌, ◌-◌, ℕ, List, [], ◌∷◌, filter, Bool, true, false, not, nat_lt, nat_le, Option, Some, None, slice_get, if◌then◌else◌}
use Rattle.std.specs.List.{list_all}
use Rattle.sc_clauses.specs.declared.lit.Lit.{Lit}
use Rattle.sc_clauses.specs.Clauses.{Clause, lit_eq, negation, is_in}
use Rattle.sc_refutations.specs.Arenas.{lit_of}
use Rattle.sc_refutations.specs.declared.refuting.Left.{Left}
use Rattle.sc_refutations.specs.declared.refuting.Left.TheVariants.{Nothing, One, Several}
use Rattle.sc_refutations.specs.declared.refuting.Residual.{Residual}
use Rattle.sc_refutations.specs.declared.refuting.Residual.TheVariants.{Conflict, Unit, Open}

-- a set of literals, by the test whether a literal is in it
abbrev pub LitSet : Type 0
LitSet = Lit → Bool

-- the literals that are true where each literal of the clause is false
abbrev pub negated : Clause → LitSet
negated c l = is_in c (negation l)

abbrev pub with_lit : LitSet → Lit → LitSet
with_lit known l m = lit_eq m l || known m

-- the literals of a clause that aren't false where these are true
abbrev pub open_lits : LitSet → Clause → Clause
open_lits known c = filter (λ l. not (known (negation l))) c

-- no literal, one literal (maybe written again), or several
abbrev pub residual : List Lit → Residual
residual [] = Conflict
residual (l ∷ ls) = if list_all (lit_eq l) ls then Unit l else Open

-- what is left, where a literal is told by its number
abbrev pub residual_by : Left → Residual
residual_by Nothing = Conflict
residual_by (One code) = Unit (lit_of code)
residual_by Several = Open

-- the clause of a number, counted from 1
abbrev pub clause_at : List Clause → ℕ → Option Clause
clause_at clauses n = if n == 0 then None else slice_get clauses (n - 1)

abbrev pub residual_at : LitSet → Option Clause → Residual
residual_at known None = Open
residual_at known (Some c) = residual (open_lits known c)

abbrev pub is_nil : {X : Type 0} → List X → Bool
is_nil [] = true
is_nil (x ∷ xs) = false

abbrev pub goes_on : Residual → Bool → (Lit → Bool) → Bool
goes_on Conflict is_last rest = is_last
goes_on (Unit l) is_last rest = rest l
goes_on Open is_last rest = false

-- Each hint in turn is the number of a clause that has all literals false but one, which is true from then on, and the
-- last has all literals false.
abbrev pub refutes : List Clause → LitSet → List ℕ → Bool
refutes clauses known [] = false
refutes clauses known (h ∷ hs) =
    goes_on (residual_at known (clause_at clauses h)) (is_nil hs) (λ l. refutes clauses (with_lit known l) hs)

-- the literal is one of the first atoms
abbrev pub is_listed : ℕ → Lit → Bool
is_listed count l = nat_lt 0 l.atom && nat_le l.atom count

-- literals of listed atoms, none of them with its negation
abbrev pub is_clause : ℕ → Clause → Bool
is_clause count c = list_all (λ l. is_listed count l && not (is_in c (negation l))) c

-- each clause has literals of listed atoms
abbrev pub are_listed : ℕ → List Clause → Bool
are_listed count clauses = list_all (list_all (is_listed count)) clauses
