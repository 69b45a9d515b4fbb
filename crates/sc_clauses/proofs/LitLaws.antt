-- When two literals are one, what is negated twice, and the truth of what is negated.
use Rattle.std.proofs.Common.{◌≡◌, ◌==◌, ℕ, Bool, true, false, not, refl, sym}
use Rattle.std.proofs.lemmas.Bool.{eq-eqb, eqb-true, and_parts, and_from, true≢false}
use Rattle.sc_laws.proofs.BoolLaws.{not_not}
use Rattle.sc_clauses.specs.declared.lit.Lit.{Lit}
use Rattle.sc_clauses.specs.Clauses.{bool_eq, lit_eq, negation, holds}

pub bool_eq-true : (a b : Bool) → bool_eq a b ≡ true → a ≡ b
bool_eq-true true true e = refl
bool_eq-true true false e = absurd (true≢false (sym e))
bool_eq-true false true e = absurd (true≢false (sym e))
bool_eq-true false false e = refl

pub bool_eq-itself : (b : Bool) → bool_eq b b ≡ true
bool_eq-itself true = refl
bool_eq-itself false = refl

pub lit_eq-true : (a b : Lit) → lit_eq a b ≡ true → a ≡ b
lit_eq-true a b e =
    let parts = and_parts (a.atom == b.atom) (bool_eq a.negated b.negated) e in
    let atom : a.atom ≡ b.atom = eqb-true a.atom b.atom parts.0 in
    let negated : a.negated ≡ b.negated = bool_eq-true a.negated b.negated parts.1 in
    λ i. record { atom = atom i; negated = negated i }

pub lit_eq-itself : (l : Lit) → lit_eq l l ≡ true
lit_eq-itself l = and_from (l.atom == l.atom) (bool_eq l.negated l.negated) (eq-eqb l.atom l.atom refl) (bool_eq-itself l.negated)

pub negation_twice : (l : Lit) → negation (negation l) ≡ l
negation_twice l = λ i. record { atom = l.atom; negated = not_not l.negated i }

negated_by : (t n : Bool) → bool_eq t (not (not n)) ≡ not (bool_eq t (not n))
negated_by true true = refl
negated_by true false = refl
negated_by false true = refl
negated_by false false = refl

pub holds_negation : (v : ℕ → Bool) (l : Lit) → holds v (negation l) ≡ not (holds v l)
holds_negation v l = negated_by (v l.atom) l.negated
