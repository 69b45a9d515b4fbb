-- Laws of the numbers of literals.
use Rattle.std.proofs.Common.{◌≡◌, ◌+◌, ◌*◌, ◌/◌, ◌%◌, ◌<◌, ◌≤◌, ◌==◌, ◌⊎◌, inl, inr, ℕ, Bool, true, false, not, cond, nat_lt, nat_le, refl, sym, ap, ◌∙◌, arith}
use Rattle.std.proofs.lemmas.Bool.{and_parts, and_from, and_left, and_right, eq-eqb, eqb-true, ne_eqb, leb-true, le-leb, lt-leb, ltb-true, ltb-false, true≢false}
use Rattle.sc_clauses.specs.declared.lit.Lit.{Lit}
use Rattle.sc_clauses.specs.Clauses.{negation}
use Rattle.sc_clauses.proofs.LitLaws.{negation_twice}
use Rattle.sc_refutations.specs.Arenas.{code_of, lit_of, has_code}
use Rattle.sc_refutations.specs.Refutations.{is_listed}

odd_half : (n : ℕ) → (n * 2 + 1) / 2 ≡ n
odd_half n = omega arith

odd_rest : (n : ℕ) → (n * 2 + 1) % 2 ≡ 1
odd_rest n = omega arith

even_half : (n : ℕ) → (n * 2) / 2 ≡ n
even_half n = omega arith

even_rest : (n : ℕ) → (n * 2) % 2 ≡ 0
even_rest n = omega arith

lit_by : (n : ℕ) (b : Bool) → lit_of (code_of (record { atom = n; negated = b })) ≡ record { atom = n; negated = b }
lit_by n true = λ i. record { atom = odd_half n i; negated = ap (λ (r : ℕ). r == 1) (odd_rest n) i }
lit_by n false = λ i. record { atom = even_half n i; negated = ap (λ (r : ℕ). r == 1) (even_rest n) i }

-- the literal of its number
pub lit_again : (l : Lit) → lit_of (code_of l) ≡ l
lit_again l = lit_by l.atom l.negated

pub code_same : (a b : Lit) → code_of a ≡ code_of b → a ≡ b
code_same a b e = sym (lit_again a) ∙ (ap lit_of e ∙ lit_again b)

code_by : (code : ℕ) (t : Bool) → (code % 2 == 1) ≡ t → cond t (code / 2 * 2 + 1) (code / 2 * 2) ≡ code
code_by code true e =
    let odd : code % 2 ≡ 1 = eqb-true (code % 2) 1 e in
    omega (arith, odd)
code_by code false e =
    let even : code % 2 ≡ 1 → ⊥ = λ (q : code % 2 ≡ 1). true≢false (sym (eq-eqb (code % 2) 1 q) ∙ e) in
    omega (arith, even)

-- the number of its literal
pub code_again : (code : ℕ) → code_of (lit_of code) ≡ code
code_again code = code_by code (code % 2 == 1) refl

-- ---- the number of a negation

negation_at : (code : ℕ) (t : Bool) → (code % 2 == 1) ≡ t → code_of (negation (lit_of code)) ≡ cond (not t) (code / 2 * 2 + 1) (code / 2 * 2)
negation_at code t e = ap (λ (b : Bool). cond (not b) (code / 2 * 2 + 1) (code / 2 * 2)) e

pub odd_negation : (code : ℕ) → code % 2 ≡ 1 → code / 2 * 2 ≡ code_of (negation (lit_of code))
odd_negation code odd = sym (negation_at code true (eq-eqb (code % 2) 1 odd))

pub even_negation : (code : ℕ) → (code % 2 ≡ 1 → ⊥) → code / 2 * 2 + 1 ≡ code_of (negation (lit_of code))
even_negation code even = sym (negation_at code false (ne_eqb (code % 2) 1 even))

-- ---- marks

listed_half : (count code : ℕ) → is_listed count (lit_of code) ≡ true → code / 2 ≤ count
listed_half count code e = leb-true (code / 2) count (and_parts (nat_lt 0 (code / 2)) (nat_le (code / 2) count) e).1

-- the literal of a listed atom has a mark
pub listed_below : (count n code : ℕ) → n ≡ count * 2 + 2 → is_listed count (lit_of code) ≡ true → code < n
listed_below count n code room e = let half = listed_half count code e in omega (arith, room, half)

negation_by : (count n code : ℕ) (t : Bool) → n ≡ count * 2 + 2 → code / 2 ≤ count → cond (not t) (code / 2 * 2 + 1) (code / 2 * 2) < n
negation_by count n code true room half = omega (arith, room, half)
negation_by count n code false room half = omega (arith, room, half)

-- so has its negation
pub negation_below : (count n code : ℕ) → n ≡ count * 2 + 2 → is_listed count (lit_of code) ≡ true → code_of (negation (lit_of code)) < n
negation_below count n code room e = negation_by count n code (code % 2 == 1) room (listed_half count code e)

mark_by : (count n code : ℕ) (t : Bool) → nat_lt code n ≡ t → n ≡ count * 2 + 2 → has_code (lit_of code) ≡ true → t ≡ is_listed count (lit_of code)
mark_by count n code true e room has =
    let below : code < n = ltb-true code n e in
    sym (and_from (nat_lt 0 (code / 2)) (nat_le (code / 2) count) has (le-leb (code / 2) count (omega (arith, room, below))))
mark_by count n code false e room has =
    let past : n ≤ code = ltb-false code n e in
    let above : count < code / 2 = omega (arith, room, past) in
    sym (and_right (nat_lt 0 (code / 2)) (nat_le (code / 2) count) (lt-leb (code / 2) count above))

-- what has a mark is listed
pub mark_listed : (count n code : ℕ) → n ≡ count * 2 + 2 → has_code (lit_of code) ≡ true → nat_lt code n ≡ is_listed count (lit_of code)
mark_listed count n code room has = mark_by count n code (nat_lt code n) refl room has

-- the mark of a number is that of its literal
pub negation_place : (code : ℕ) → code ≡ code_of (negation (negation (lit_of code)))
negation_place code = sym (ap code_of (negation_twice (lit_of code)) ∙ code_again code)

-- a literal that has no number is of no listed atom
pub unlisted : (count : ℕ) (l : Lit) → count < 2147483648 → (l.atom ≡ 0) ⊎ (2147483648 ≤ l.atom) → is_listed count l ≡ false
unlisted count l few (inl none) = and_left (nat_lt 0 l.atom) (nat_le l.atom count) (ap (nat_lt 0) none)
unlisted count l few (inr large) = and_right (nat_lt 0 l.atom) (nat_le l.atom count) (lt-leb l.atom count (omega (arith, few, large)))
