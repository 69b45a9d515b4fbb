-- One range is within another exactly where it has at most as many free bits, and the bits that the other holds fast agree.
use Rattle.std.proofs.Common.{◌≡◌, ℕ, ◌+◌, ◌-◌, ◌*◌, ◌/◌, ◌^◌, ◌<◌, ◌≤◌, Option, Some, None, unwrap_or, refl, arith, ap, sym, ◌∙◌, eqb, leb, IsTrue}
use Rattle.std.specs.Option.{SomeIff}
use Rattle.std.proofs.lemmas.Nat.{pow-add, pow_pos, div-mul-add}
use Rattle.std.proofs.Math.Nat.{div-eq_of_lt, div-div-eq-div-mul, add-div_right}
use Rattle.std.proofs.Math.Pow.{pow_mono, pow-lt}
use Rattle.std.proofs.lemmas.Bool.{eq-eqb, eqb-true, leb-true}

-- a shift by all bits or more leaves nothing
pub shift_is : (n bits : ℕ) (r : Option ℕ) → n < 2 ^ 128 → SomeIff r (bits < 128) (n / 2 ^ bits) → unwrap_or r 0 ≡ n / 2 ^ bits
shift_is n bits None small h =
    let wide : 128 ≤ bits = omega (arith, h) in
    let more : 2 ^ 128 ≤ 2 ^ bits = pow_mono wide in
    sym (div-eq_of_lt (omega arith))
shift_is n bits (Some x) small h = h.1

-- a longer shift is a shift after a shift
shift_twice : (n p q : ℕ) → p ≤ q → n / 2 ^ p / 2 ^ (q - p) ≡ n / 2 ^ q
shift_twice n p q le =
    let e : p + (q - p) ≡ q = omega arith in
    div-div-eq-div-mul n (2 ^ p) (2 ^ (q - p)) ∙ ap (λ k. n / k) (sym (pow-add 2 p (q - p)) ∙ ap (λ k. 2 ^ k) e)

pub within_from : (x p y q : ℕ) → p ≤ q → x / 2 ^ q ≡ y / 2 ^ q → (n : ℕ) → n / 2 ^ p ≡ x / 2 ^ p → n / 2 ^ q ≡ y / 2 ^ q
within_from x p y q le same n e =
    sym (shift_twice n p q le) ∙ (ap (λ k. k / 2 ^ (q - p)) e ∙ (shift_twice x p q le ∙ same))

-- a range with more free bits has two addresses that differ in a bit which the other holds fast
pub not_within : (x p y q : ℕ) → q < p → ((n : ℕ) → n / 2 ^ p ≡ x / 2 ^ p → n / 2 ^ q ≡ y / 2 ^ q) → ⊥
not_within x p y q lt h =
    let low = x / 2 ^ p * 2 ^ p in
    let first : (x / 2 ^ p * 2 ^ p + 0) / 2 ^ p ≡ x / 2 ^ p = div-mul-add (x / 2 ^ p) (2 ^ p) 0 (pow_pos p) in
    let second : (x / 2 ^ p * 2 ^ p + 2 ^ q) / 2 ^ p ≡ x / 2 ^ p = div-mul-add (x / 2 ^ p) (2 ^ p) (2 ^ q) (pow-lt lt) in
    let a = h (x / 2 ^ p * 2 ^ p + 0) first in
    let b = h (x / 2 ^ p * 2 ^ p + 2 ^ q) second in
    let step : (x / 2 ^ p * 2 ^ p + 2 ^ q) / 2 ^ q ≡ (x / 2 ^ p * 2 ^ p) / 2 ^ q + 1 = add-div_right (x / 2 ^ p * 2 ^ p) (pow_pos q) in
    let zero_off : (x / 2 ^ p * 2 ^ p + 0) / 2 ^ q ≡ (x / 2 ^ p * 2 ^ p) / 2 ^ q = ap (λ k. k / 2 ^ q) (omega arith) in
    omega arith

-- the test of free bits and of the bits held fast
pub within_when : (x p y q u v : ℕ) → p ≤ q → u ≡ x / 2 ^ q → v ≡ y / 2 ^ q
    → (IsTrue (eqb u v) → (n : ℕ) → n / 2 ^ p ≡ x / 2 ^ p → n / 2 ^ q ≡ y / 2 ^ q) × (((n : ℕ) → n / 2 ^ p ≡ x / 2 ^ p → n / 2 ^ q ≡ y / 2 ^ q) → IsTrue (eqb u v))
within_when x p y q u v le a b =
    (λ t. within_from x p y q le (sym a ∙ (eqb-true u v t ∙ b)), λ h. eq-eqb u v (a ∙ (h x refl ∙ sym b)))

pub within_unless : (x p y q : ℕ) → q < p
    → (IsTrue (leb p q) → (n : ℕ) → n / 2 ^ p ≡ x / 2 ^ p → n / 2 ^ q ≡ y / 2 ^ q) × (((n : ℕ) → n / 2 ^ p ≡ x / 2 ^ p → n / 2 ^ q ≡ y / 2 ^ q) → IsTrue (leb p q))
within_unless x p y q lt = (λ t. absurd (let le = leb-true p q t in omega arith), λ h. absurd (not_within x p y q lt h))
