-- Carries, comparisons and rows by their recursions are those by plain integers.
use Rattle.std.proofs.Common.{◌≡◌, ℕ, ◌+◌, ◌-◌, ◌*◌, ◌%◌, ◌^◌, ◌<◌, ◌≤◌, min, leb, Bool, true, false, ℤ, pos, negsuc, ap, sym, ◌∙◌, arith, SFits, mod-eq_of_lt, ⊎_elim}
use Rattle.std.proofs.Math.Nat.{mod-lt, add-mul-mod_self_right}
use Rattle.std.proofs.lemmas.Nat.{pow-add}
use Rattle.std.proofs.lemmas.Bool.{cases_lt}
use Rattle.std.proofs.lemmas.Bool.Decides.{nat_tests}
use Rattle.std.specs.Int.{w64}
use Rattle.sc_laws.proofs.BoolLaws.{same_truth}
use Rattle.sc_bits.specs.Bits.{digit, number, nat_bit, bit64}
use Rattle.sc_bits.specs.Adders.{carry, carry_of_sum, carry_of_difference, added, complement}
use Rattle.sc_bits.specs.Orders.{low}
use Rattle.sc_bits.specs.Products.{extended, partial, prow, pcar}
use Rattle.sc_bits.specs.Plain.{residue, sum_carry, difference_carry, low_bits_less, row_sum, partial_product, row_bit, row_carry}
use Rattle.sc_bits.proofs.NumberLaws.{number-lt, number-same, number-injective, number-nat_bit, number-not, number-add}
use Rattle.sc_bits.proofs.IntegerLaws.{bit64-sign}
use Rattle.sc_bits.proofs.AdderLaws.{number-added}
use Rattle.sc_bits.proofs.OrderLaws.{low-decides}
use Rattle.sc_bits.proofs.ProductLaws.{row-product, number-shift}

-- ---- remainders

pub number-residue : (z : ℤ) (n : ℕ) → number (bit64 z) n ≡ residue z n
number-residue (pos m) n = number-nat_bit m n
number-residue (negsuc m) n = omega (arith, number-not (nat_bit m) n, number-nat_bit m n)

pub residue-lt : (z : ℤ) (n : ℕ) → residue z n < 2 ^ n
residue-lt z n = omega (arith, number-residue z n, number-lt (bit64 z) n)

-- the lowest bits of so many
lowest : (f : ℕ → Bool) (n k : ℕ) → k ≤ n → number f n % 2 ^ k ≡ number f k
lowest f n k le =
    let h = number-add f k (n - k) in
    let whole : k + (n - k) ≡ n = omega arith in
    ap (λ x. number f x % 2 ^ k) (sym whole) ∙ ap (λ x. x % 2 ^ k) h.1 ∙ add-mul-mod_self_right (number f k) h.0 (2 ^ k) ∙ mod-eq_of_lt (number-lt f k)

-- ---- carries

-- what is over in a column
carried : (x s k : ℕ) (c : Bool) → s < k → x ≡ s + digit c * k → leb k x ≡ c
carried x s k true small e = grind (arith, nat_tests)
carried x s k false small e = grind (arith, nat_tests)

carry_by : (first : Bool) (a b : ℕ → Bool) (i : ℕ) → leb (2 ^ i) (number a i + number b i + digit first) ≡ carry first a b i
carry_by first a b i = carried (number a i + number b i + digit first) (number (added first a b) i) (2 ^ i) (carry first a b i) (number-lt (added first a b) i) (number-added first a b i)

pub carry_of_sum-plain : (a b : ℤ) (i : ℕ) → carry_of_sum a b i ≡ sum_carry a b i
carry_of_sum-plain a b i =
    let same : number (bit64 a) i + number (bit64 b) i + digit false ≡ residue a i + residue b i = omega (arith, number-residue a i, number-residue b i) in
    sym (carry_by false (bit64 a) (bit64 b) i) ∙ ap (leb (2 ^ i)) same

same_test : (x y m n : ℕ) → (x ≤ y → m ≤ n) → (m ≤ n → x ≤ y) → leb x y ≡ leb m n
same_test x y m n f g = same_truth (leb x y) (leb m n) (λ t. f (grind (arith, nat_tests)), λ h. let k = g h in grind (arith, nat_tests)) (λ t. grind (arith, nat_tests), λ h. grind (arith, nat_tests))

pub carry_of_difference-plain : (a b : ℤ) (i : ℕ) → carry_of_difference a b i ≡ difference_carry a b i
carry_of_difference-plain a b i =
    let sum = number (bit64 a) i + number (complement (bit64 b)) i + digit true in
    let turned = number-not (bit64 b) i in
    let x = number-residue a i in
    let y = number-residue b i in
    sym (carry_by true (bit64 a) (complement (bit64 b)) i)
    ∙ same_test (2 ^ i) sum (residue b i) (residue a i) (λ over. omega arith) (λ below. omega arith)

-- ---- comparisons

pub low-plain : (a b : ℤ) (i : ℕ) → low (bit64 a) (bit64 b) i ≡ low_bits_less a b i
low-plain a b i =
    let h = low-decides (bit64 a) (bit64 b) i in
    let x = number-residue a i in
    let y = number-residue b i in
    same_truth (low (bit64 a) (bit64 b) i) (low_bits_less a b i) (λ t. let l = h.0 t in grind (arith, nat_tests), λ t. h.1 (grind (arith, nat_tests)))
    (λ t. t, λ t. t)

-- ---- rows

extended-bit64 : (z : ℤ) → SFits w64 z → (i : ℕ) → extended (bit64 z) i ≡ bit64 z i
extended-bit64 z f i = ⊎_elim
    (λ below. let e : min i 63 ≡ i = omega arith in ap (bit64 z) e)
    (λ above. let e : min i 63 ≡ 63 = omega arith in ap (bit64 z) e ∙ sym (bit64-sign w64 z f i (omega arith)))
    (cases_lt i 63)

number-extended : (z : ℤ) → SFits w64 z → (n : ℕ) → number (extended (bit64 z)) n ≡ residue z n
number-extended z f n = number-same (extended (bit64 z)) (bit64 z) n (λ i l. extended-bit64 z f i) ∙ number-residue z n

number-row : (a b : ℤ) → SFits w64 a → SFits w64 b → (i : ℕ) → i ≤ 128 → number (prow (bit64 a) (bit64 b) i) 128 ≡ row_sum a b i
number-row a b f g i le =
    let p = prow (bit64 a) (bit64 b) i in
    let h = row-product (bit64 a) (bit64 b) 128 i le in
    sym (mod-eq_of_lt (number-lt p 128)) ∙ sym (add-mul-mod_self_right (number p 128) h.0 (2 ^ 128)) ∙ ap (λ x. x % 2 ^ 128) h.1
    ∙ (λ k. number-extended a f 128 k * number-extended b g i k % 2 ^ 128)

pub prow-plain : (a b : ℤ) → SFits w64 a → SFits w64 b → (i j : ℕ) → i ≤ 128 → j < 128 → prow (bit64 a) (bit64 b) i j ≡ row_bit a b i j
prow-plain a b f g i j le below =
    let small : row_sum a b i < 2 ^ 128 = mod-lt (residue a 128 * residue b i) (omega arith) in
    number-injective (prow (bit64 a) (bit64 b) i) (nat_bit (row_sum a b i)) 128
    (number-row a b f g i le ∙ sym (number-nat_bit (row_sum a b i) 128 ∙ mod-eq_of_lt small)) j below

-- a shifted number of which the highest bits are cut off
cut_off : (t x m q y z N P : ℕ) → x ≡ m + q * y → N ≡ y * z → P ≡ t * m * z → t * x * z ≡ P + t * q * N
cut_off t x m q y z N P e power part =
    let spread = ap (λ k. t * k * z) e in
    let over = ap (λ k. t * q * k) power in
    omega arith

number-partial : (a b : ℤ) → SFits w64 a → SFits w64 b → (i : ℕ) → i ≤ 128 → number (partial (bit64 a) (bit64 b) i) 128 ≡ partial_product a b i
number-partial a b f g i le =
    let x = extended (bit64 a) in
    let t = extended (bit64 b) i in
    let m = 128 - i in
    let part = number (partial (bit64 a) (bit64 b) i) 128 in
    let whole : 128 - i + i ≡ 128 = omega arith in
    let shifted : part ≡ digit t * number x m * 2 ^ i = ap (number (partial (bit64 a) (bit64 b) i)) (sym whole) ∙ number-shift i x t m in
    let cut = number-add x m i in
    let all : residue a 128 ≡ number x m + cut.0 * 2 ^ m = sym (number-extended a f 128) ∙ ap (number x) (sym whole) ∙ cut.1 in
    let power : 2 ^ 128 ≡ 2 ^ m * 2 ^ i = ap (λ k. 2 ^ k) (sym whole) ∙ pow-add 2 m i in
    sym (ap (λ c. digit c * residue a 128 * 2 ^ i % 2 ^ 128) (sym (extended-bit64 b g i))
    ∙ ap (λ k. k % 2 ^ 128) (cut_off (digit t) (residue a 128) (number x m) cut.0 (2 ^ m) (2 ^ i) (2 ^ 128) part all power shifted)
    ∙ add-mul-mod_self_right part (digit t * cut.0) (2 ^ 128)
    ∙ mod-eq_of_lt (number-lt (partial (bit64 a) (bit64 b) i) 128))

pub pcar-plain : (a b : ℤ) → SFits w64 a → SFits w64 b → (i j : ℕ) → i < 128 → j ≤ 128 → pcar (bit64 a) (bit64 b) i j ≡ row_carry a b i j
pcar-plain a b f g i j below le =
    let p = prow (bit64 a) (bit64 b) i in
    let q = partial (bit64 a) (bit64 b) i in
    let row : number p j ≡ row_sum a b i % 2 ^ j = sym (lowest p 128 j le) ∙ ap (λ k. k % 2 ^ j) (number-row a b f g i (omega arith)) in
    let part : number q j ≡ partial_product a b i % 2 ^ j = sym (lowest q 128 j le) ∙ ap (λ k. k % 2 ^ j) (number-partial a b f g i (omega arith)) in
    let sum : number p j + number q j + digit false ≡ row_sum a b i % 2 ^ j + partial_product a b i % 2 ^ j = omega arith in
    sym (carry_by false p q j) ∙ ap (leb (2 ^ j)) sum
