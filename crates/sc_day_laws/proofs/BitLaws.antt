-- The clauses over bits are those over the numbers that the bits are of.
use Rattle.std.proofs.Common.{◌≡◌, ℕ, Bool, true, false, ℤ, pos, negsuc, ◌+ℤ◌, ◌*ℤ◌, refl, ap, sym, ◌∙◌, arith, SFits, int_lt}
use Rattle.std.specs.Int.{w64, int_wrap}
use Rattle.sc_bits.specs.Bits.{bit64, of_bits}
use Rattle.sc_bits.specs.Adders.{carry, added}
use Rattle.sc_bits.specs.Orders.{low}
use Rattle.sc_bits.specs.Products.{prow, pcar}
use Rattle.sc_bits.proofs.IntegerLaws.{of_bits-bit64, of_bits-same}
use Rattle.sc_bits.proofs.AdderLaws.{sum_rebuilt, sum-bit, adder_of}
use Rattle.sc_bits.proofs.OrderLaws.{slt_rebuilt, slt_is, low_of}
use Rattle.sc_bits.proofs.ProductLaws.{product_rebuilt, product-bit, multiplier_of}
use Rattle.sc_dates.specs.Days.{day, days_of, time_of}
use Rattle.sc_day_laws.specs.Clauses.{first_day, last_day, KeepsClauses}
use Rattle.sc_day_laws.specs.SplitBits.{IsLess, IsSum, KeepsBits}
use Rattle.sc_day_laws.proofs.ClauseLaws.{holds, clauses_only}

fits_days : (z : ℤ) → SFits w64 z → SFits w64 (days_of z)
fits_days (pos n) f = let s = f.sfits in record { sfits = omega arith }
fits_days (negsuc n) f = let s = f.sfits in record { sfits = omega arith }

fits_time : (z : ℤ) → SFits w64 (time_of z)
fits_time (pos n) = record { sfits = omega arith }
fits_time (negsuc n) = record { sfits = omega arith }

-- ---- from bits to numbers

sum_of_bits : (n d t : ℕ → Bool) (p c : ℕ → ℕ → Bool) (m k s : ℕ → Bool) → IsSum n d t p c m k s
    → int_wrap w64 (int_wrap w64 (of_bits w64 d *ℤ pos day) +ℤ of_bits w64 t) ≡ of_bits w64 n
sum_of_bits n d t p c m k s h =
    let length = of_bits-bit64 w64 (pos day) (record { sfits = omega arith }) in
    let product = of_bits-same w64 m (p 128) h.last_row ∙ product_rebuilt 64 d (bit64 (pos day)) p c (omega arith) h.multiplied
    ∙ ap (λ x. int_wrap w64 (of_bits w64 d *ℤ x)) length in
    ap (λ x. int_wrap w64 (x +ℤ of_bits w64 t)) (sym product) ∙ sym (sum_rebuilt w64 m t k s h.added) ∙ of_bits-same w64 s n h.same

less_than : (a low : ℕ → Bool) (b : ℤ) (answer : Bool) → SFits w64 b → IsLess a (bit64 b) low answer → int_lt (of_bits w64 a) b ≡ answer
less_than a low b answer f h =
    ap (int_lt (of_bits w64 a)) (sym (of_bits-bit64 w64 b f)) ∙ sym (slt_rebuilt a (bit64 b) low h.lower) ∙ h.is

more_than : (a low : ℕ → Bool) (b : ℤ) (answer : Bool) → SFits w64 b → IsLess (bit64 b) a low answer → int_lt b (of_bits w64 a) ≡ answer
more_than a low b answer f h =
    ap (λ x. int_lt x (of_bits w64 a)) (sym (of_bits-bit64 w64 b f)) ∙ sym (slt_rebuilt (bit64 b) a low h.lower) ∙ h.is

pub clauses_of_bits : (n d t : ℕ → Bool) (p c : ℕ → ℕ → Bool) (m k s l1 l2 l3 l4 l5 l6 : ℕ → Bool)
    → KeepsBits n d t p c m k s l1 l2 l3 l4 l5 l6 → KeepsClauses (of_bits w64 n) (of_bits w64 d) (of_bits w64 t)
clauses_of_bits n d t p c m k s l1 l2 l3 l4 l5 l6 h =
    let zero : SFits w64 (pos 0) = record { sfits = omega arith } in
    record {
      sum = sum_of_bits n d t p c m k s h.is_sum;
      not_negative = less_than t l1 (pos 0) false zero h.not_negative;
      below_day = less_than t l2 (pos day) true (record { sfits = omega arith }) h.below_day;
      not_before = less_than d l3 first_day false (record { sfits = omega arith }) h.not_before;
      not_after = more_than d l4 last_day false (record { sfits = omega arith }) h.not_after;
      sign = less_than d l5 (pos 0) _ zero (record { lower = h.days_lower; is = h.sign })
          ∙ sym (less_than n l6 (pos 0) _ zero (record { lower = h.number_lower; is = refl }));
    }

pub bits_only : (n d t : ℕ → Bool) (p c : ℕ → ℕ → Bool) (m k s l1 l2 l3 l4 l5 l6 : ℕ → Bool)
    → KeepsBits n d t p c m k s l1 l2 l3 l4 l5 l6 → (of_bits w64 d ≡ days_of (of_bits w64 n)) × (of_bits w64 t ≡ time_of (of_bits w64 n))
bits_only n d t p c m k s l1 l2 l3 l4 l5 l6 h = clauses_only _ _ _ (clauses_of_bits n d t p c m k s l1 l2 l3 l4 l5 l6 h)

-- ---- from numbers to bits

tells : (a b : ℤ) (answer : Bool) → SFits w64 a → SFits w64 b → int_lt a b ≡ answer → IsLess (bit64 a) (bit64 b) (low (bit64 a) (bit64 b)) answer
tells a b answer f g h = record { lower = low_of 63 (bit64 a) (bit64 b); is = slt_is a b f g ∙ h }

pub bits_hold : (z : ℤ) → SFits w64 z →
    let n = bit64 z in let d = bit64 (days_of z) in let t = bit64 (time_of z) in let zero = bit64 (pos 0) in
    let m = bit64 (int_wrap w64 (days_of z *ℤ pos day)) in
    KeepsBits n d t (prow d (bit64 (pos day))) (pcar d (bit64 (pos day))) m (carry false m t) (added false m t)
    (low t zero) (low t (bit64 (pos day))) (low d (bit64 first_day)) (low (bit64 last_day) d) (low d zero) (low n zero)
bits_hold z f =
    let h = holds z f in
    let fd = fits_days z f in let ft = fits_time z in let f0 : SFits w64 (pos 0) = record { sfits = omega arith } in
    let d = bit64 (days_of z) in let t = bit64 (time_of z) in
    let product = int_wrap w64 (days_of z *ℤ pos day) in
    record {
      is_sum = record {
        multiplied = multiplier_of 64 d (bit64 (pos day));
        last_row = product-bit (days_of z) (pos day);
        added = adder_of false 64 (bit64 product) t;
        same = λ i l. sym (sum-bit w64 product (time_of z) i l) ∙ ap (λ x. bit64 x i) h.sum;
      };
      not_negative = tells (time_of z) (pos 0) false ft f0 h.not_negative;
      below_day = tells (time_of z) (pos day) true ft (record { sfits = omega arith }) h.below_day;
      not_before = tells (days_of z) first_day false fd (record { sfits = omega arith }) h.not_before;
      not_after = tells last_day (days_of z) false (record { sfits = omega arith }) fd h.not_after;
      days_lower = low_of 63 d (bit64 (pos 0));
      number_lower = low_of 63 (bit64 z) (bit64 (pos 0));
      sign = slt_is (days_of z) (pos 0) fd f0 ∙ h.sign ∙ sym (slt_is z (pos 0) f f0);
    }
