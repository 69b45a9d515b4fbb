-- Where each listed atom has a value, a clause is falsified just where it isn't true.
use Rattle.std.proofs.Common.{◌≡◌, ◌≤◌, ◌&&◌, ◌||◌, ℕ, Bool, true, false, not, inl, inr, [], ◌∷◌, length, Option, Some, refl, sym, ap, ◌∙◌, arith}
use Rattle.sc_laws.proofs.BoolLaws.{not_not}
use Rattle.sc_lists.proofs.MemberLaws.{Contains-from_Has}
use Rattle.sc_lists.specs.Members.{Has}
use Rattle.sc_clauses.specs.declared.lit.Lit.{Lit}
use Rattle.sc_clauses.specs.Assignments.{Assignment, value_of, is_false_at, is_false, falsifies}
use Rattle.sc_clauses.specs.Clauses.{Clause, bool_eq, holds, clause_holds}
use Rattle.sc_footprint.specs.Problems.{Posed, atoms}
use Rattle.sc_footprint.specs.Theories.{IsClauseOf}

literal_is : (o : Option Bool) (b n : Bool) → o ≡ Some b → is_false_at o n ≡ not (bool_eq b (not n))
literal_is o b n e = ap (λ (x : Option Bool). is_false_at x n) e ∙ by b n
  where
    by : (b n : Bool) → bool_eq b n ≡ not (bool_eq b (not n))
    by true true = refl
    by true false = refl
    by false true = refl
    by false false = refl

neither : (a b : Bool) → (not a && not b) ≡ not (a || b)
neither true b = refl
neither false b = refl

-- the listed atoms have these values
module _ (p : Posed) (v : ℕ → Bool) (m : Assignment) (values : (n : ℕ) → 1 ≤ n → n ≤ length (atoms p) → value_of m n ≡ Some (v n)) where
  falsified_by : (c : Clause) → ((l : Lit) → Has c l → value_of m l.atom ≡ Some (v l.atom)) → falsifies m c ≡ not (clause_holds v c)
  falsified_by [] h = refl
  falsified_by (l ∷ c) h =
      let first : is_false m l ≡ not (holds v l) = literal_is (value_of m l.atom) (v l.atom) l.negated (h l (inl refl)) in
      let rest : falsifies m c ≡ not (clause_holds v c) = falsified_by c (λ k i. h k (inr i)) in
      ap (λ (b : Bool). b && falsifies m c) first ∙ ap (λ (b : Bool). not (holds v l) && b) rest ∙ neither (holds v l) (clause_holds v c)

  falsified_is : (c : Clause) → IsClauseOf p c → falsifies m c ≡ not (clause_holds v c)
  falsified_is c lawful =
      falsified_by c (λ l i. (let of = (lawful l (Contains-from_Has c l i)).0 in values l.atom (omega (arith, of.0)) of.1))

  pub clause_true : (c : Clause) → IsClauseOf p c → falsifies m c ≡ false → clause_holds v c ≡ true
  clause_true c lawful e = sym (not_not (clause_holds v c)) ∙ ap not (sym (falsified_is c lawful) ∙ e)

  pub unfalsified : (c : Clause) → IsClauseOf p c → clause_holds v c ≡ true → falsifies m c ≡ false
  unfalsified c lawful e = falsified_is c lawful ∙ ap not e
