-- Clauses that are copied one after the other.
use Rattle.std.proofs.Common.{◌≡◌, ◌+◌, ◌<◌, ℕ, zero, suc, List, [], ◌∷◌, ◌++◌, take, length, slice_get, Some, None, refl, ap, arith}
use Rattle.sc_laws.proofs.OptionLaws.{same_some}
use Rattle.sc_clauses.specs.Clauses.{Clause}

pub copied_more : (cs : List Clause) (i : ℕ) (c : Clause) → slice_get cs i ≡ Some c → take (i + 1) cs ≡ take i cs ++ c ∷ []
copied_more [] i c e = absurd cc
copied_more (d ∷ cs) zero c e = ap (λ (x : Clause). x ∷ []) (same_some e)
copied_more (d ∷ cs) (suc i) c e = let next : suc i + 1 ≡ suc (i + 1) = omega arith in rw next (ap (λ (l : List Clause). d ∷ l) (copied_more cs i c e))

pub copied_all : (cs : List Clause) (i : ℕ) → slice_get cs i ≡ None → take i cs ≡ cs
copied_all [] zero e = refl
copied_all [] (suc i) e = refl
copied_all (d ∷ cs) zero e = absurd cc
copied_all (d ∷ cs) (suc i) e = ap (λ (l : List Clause). d ∷ l) (copied_all cs i e)

pub place_inside : (cs : List Clause) (i : ℕ) (c : Clause) → slice_get cs i ≡ Some c → i < length cs
place_inside [] i c e = absurd cc
place_inside (d ∷ cs) zero c e = omega arith
place_inside (d ∷ cs) (suc i) c e = let h = place_inside cs i c e in omega (arith, h)
