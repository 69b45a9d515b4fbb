-- Where each listed atom has a value, a clause that isn't falsified is true.
use Rattle.std.proofs.Common.{◌≡◌, ◌≤◌, ◌||◌, ◌&&◌, ◌==◌, ℕ, Bool, true, false, not, inl, inr, [], ◌∷◌, Option, Some, None, IsSome, unwrap_or, refl, sym, ap, ◌∙◌, arith}
use Rattle.std.specs.List.{list_all}
use Rattle.sc_laws.proofs.BoolLaws.{never}
use Rattle.sc_lists.specs.Members.{Has}
use Rattle.sc_laws.proofs.NumberLaws.{some_isnt_zero}
use Rattle.sc_clauses.specs.declared.lit.Lit.{Lit}
use Rattle.sc_clauses.specs.Assignments.{Assignment, value_of, is_false_at, is_false, falsifies}
use Rattle.sc_clauses.specs.Clauses.{Clause, bool_eq, lit_eq, positive, holds, clause_holds}
use Rattle.sc_clauses.proofs.LitLaws.{lit_eq-true}
use Rattle.sc_footprint.specs.Theories.{IsListed}
use Rattle.sc_footprint.proofs.TruthLaws.{holds_positive}
use Rattle.sc_rule_instances.specs.Clauses.{is_asked}
use Rattle.sc_rule_instances.specs.Known.{is_broken}

-- the truth of each atom
abbrev pub atom_truth : Assignment → ℕ → Bool
atom_truth m n = unwrap_or (value_of m n) false

-- each of the first atoms has a value
abbrev pub IsTotal : Assignment → ℕ → Type 0
IsTotal m count = (n : ℕ) → 1 ≤ n → n ≤ count → IsSome (value_of m n)

-- what isn't true passes a test, and not all pass it
some_true : (v : ℕ → Bool) (test : Lit → Bool) (c : Clause) → ((l : Lit) → Has c l → holds v l ≡ false → test l ≡ true) → list_all test c ≡ false → clause_holds v c ≡ true
some_true v test [] h e = absurd cc
some_true v test (l ∷ c) h e = by (holds v l) refl (some_true v test c (λ k i. h k (inr i)))
  where
    by : (b : Bool) → holds v l ≡ b → (list_all test c ≡ false → clause_holds v c ≡ true) → (b || clause_holds v c) ≡ true
    by true f rest = refl
    by false f rest = rest (sym (ap (λ (b : Bool). b && list_all test c) (h l (inl refl) f)) ∙ e)

module _ (m : Assignment) (count : ℕ) (total : IsTotal m count) where
  false_by : (o : Option Bool) (n : Bool) → IsSome o → is_false_at o n ≡ not (bool_eq (unwrap_or o false) (not n))
  false_by None n h = absurd cc
  false_by (Some true) true h = refl
  false_by (Some true) false h = refl
  false_by (Some false) true h = refl
  false_by (Some false) false h = refl

  -- a literal of a listed atom that isn't true is false
  false_told : (l : Lit) → IsListed count l → holds (atom_truth m) l ≡ false → is_false m l ≡ true
  false_told l h e = false_by (value_of m l.atom) l.negated (total l.atom (omega (arith, h.0)) h.1) ∙ ap not e

  pub clause_true : (c : Clause) → ((l : Lit) → Has c l → IsListed count l) → falsifies m c ≡ false → clause_holds (atom_truth m) c ≡ true
  clause_true c listed e = some_true (atom_truth m) (is_false m) c (λ l i f. false_told l (listed l i) f) e

  -- and where atom 1 is true, it is one whose literals are asked
  asked_told : atom_truth m 1 ≡ true → (l : Lit) → IsListed count l → holds (atom_truth m) l ≡ false → (is_asked l && is_false m l) ≡ true
  asked_told first l h e = by (lit_eq l (positive 1)) refl
    where
      by : (b : Bool) → lit_eq l (positive 1) ≡ b → ((not (l.atom == 0) && not b) && is_false m l) ≡ true
      by true k = never _ (sym (ap (holds (atom_truth m)) (lit_eq-true l (positive 1) k) ∙ holds_positive (atom_truth m) 1 ∙ first) ∙ e)
      by false k = ap (λ (b : Bool). (not b && true) && is_false m l) (some_isnt_zero l.atom h.0) ∙ false_told l h e

  pub unbroken_true : atom_truth m 1 ≡ true → (c : Clause) → ((l : Lit) → Has c l → IsListed count l) → is_broken m c ≡ false → clause_holds (atom_truth m) c ≡ true
  unbroken_true first c listed e = some_true (atom_truth m) (λ (l : Lit). is_asked l && is_false m l) c (λ l i f. asked_told first l (listed l i) f) e
