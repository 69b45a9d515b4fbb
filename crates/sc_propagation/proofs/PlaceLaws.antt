-- Elements of lists by their places.
use Rattle.std.proofs.Common.{◌≡◌, ◌<◌, ℕ, zero, suc, List, [], ◌∷◌, length, slice_get, Some, None, arith}
use Rattle.sc_laws.proofs.OptionLaws.{same_some}
use Rattle.sc_clauses.specs.Clauses.{Clause}
use Rattle.sc_propagation.specs.Steps.{At}

pub at_get : (cs : List Clause) (i : ℕ) (c : Clause) → slice_get cs i ≡ Some c → At cs i c
at_get [] i c e = absurd cc
at_get (d ∷ cs) zero c e = (omega arith, same_some e)
at_get (d ∷ cs) (suc i) c e = let h = at_get cs i c e in let lt : i < length cs = h.0 in (omega arith, h.1)

pub none_inside : (cs : List Clause) (i : ℕ) → i < length cs → slice_get cs i ≡ None → ⊥
none_inside [] i lt e = omega arith
none_inside (d ∷ cs) zero lt e = cc
none_inside (d ∷ cs) (suc i) lt e = none_inside cs i (omega arith) e
