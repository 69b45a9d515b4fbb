-- What bits, carries, rows of products and comparisons of numbers are, told by those that stand before them.
use Rattle.std.proofs.Common.{◌≡◌, ◌<◌, ◌≤◌, ◌-◌, ◌&&◌, ℕ, suc, min, refl, cond, nat_le, Bool, true, false, not, sym, ap, ◌∙◌, arith}
use Rattle.std.specs.Prelude.{ℤ, ◌+ℤ◌, ◌-ℤ◌, ◌*ℤ◌, int_lt}
use Rattle.std.specs.Int.{w64, int_wrap}
use Rattle.sc_bits.specs.Adders.{odd, majority, carry, complement, leaves64, sum_overflows, difference_overflows}
use Rattle.sc_bits.specs.Bits.{bit64}
use Rattle.sc_bits.specs.Orders.{is_below, low}
use Rattle.sc_bits.specs.Plain.{sum_carry, difference_carry, low_bits_less, row_bit, row_carry}
use Rattle.sc_bits.specs.Products.{partial, prow, pcar}
use Rattle.sc_bits.proofs.AdderLaws.{carry-zero, carry-suc, sum-bit, difference-bit, sum_leaves, difference_leaves}
use Rattle.sc_bits.proofs.OrderLaws.{low-zero, low-suc, slt_is}
use Rattle.sc_bits.proofs.PlainLaws.{carry_of_sum-plain, carry_of_difference-plain, low-plain, prow-plain, pcar-plain}
use Rattle.sc_bits.proofs.ProductLaws.{prow-zero, prow-suc, product-bit}
use Rattle.sc_values.specs.declared.value.Value.{Value, Value-F}
use Rattle.sc_values.specs.declared.value.Value.TheVariants as value
use Rattle.sc_values.proofs.OutLaws.{out_Long}
use Rattle.sc_world.specs.declared.world.World.{World}
use Rattle.sc_sorts.specs.declared.node.UnaryOp.TheVariants as unary
use Rattle.sc_sorts.specs.declared.node.BinaryOp.TheVariants as binary
use Rattle.sc_terms.specs.Trees.{Tree, one, two}
use Rattle.sc_terms.specs.Folds.{truth_term, and_term, bit_term}
use Rattle.sc_terms.specs.Values.{it, yes, val, truth, level, number_in, bit_seen}
use Rattle.sc_terms.proofs.FoldValues.{truth_yes, truth_is, one_is, bit_is, and_is, and_truth}
use Rattle.sc_term_definitions.specs.Definitions.{product_row, partial_term}
use Rattle.sc_term_definitions.specs.Truths.{is_true}
use Rattle.sc_term_definitions.proofs.ValueLaws.{IsNumber}

module _ (w : World) where
  -- a bit of any term
  pub bit_value : (t : Tree) (i : ℕ) → val (bit_term t i) w ≡ yes (bit_seen (level (val t w)) i)
  bit_value t i = bit_is t i w ∙ one_is (unary.Bit i) t w

  pub bit_told : (t : Tree) (i : ℕ) → is_true (bit_term t i) w ≡ bit_seen (level (val t w)) i
  bit_told t i = ap truth (bit_value t i) ∙ truth_yes (bit_seen (level (val t w)) i)

  -- a bit of a whole number that is calculated
  long_bit : (z : ℤ) (i : ℕ) → truth (yes (bit_seen (level (it (value.Long z))) i)) ≡ bit64 z i
  long_bit z i = truth_yes (bit_seen (level (it (value.Long z))) i) ∙ ap (λ (l : Value-F Value). bit_seen l i) (out_Long z)

  false_told : is_true (truth_term false) w ≡ false
  false_told = ap truth (truth_is false w) ∙ truth_yes false

  both_folded : (a b : Tree) → is_true (and_term a b) w ≡ (is_true a w && is_true b w)
  both_folded a b = ap truth (and_is a b w) ∙ and_truth (val a w) (val b w)

  module _ (a b : Tree) (m n : ℤ → Value) (is_a : IsNumber m (val a w)) (is_b : IsNumber n (val b w)) where
    abbrev x : ℤ
    x = number_in (val a w)

    abbrev y : ℤ
    y = number_in (val b w)

    abbrev left : ℕ → Bool
    left = bit64 (number_in (val a w))

    abbrev right : ℕ → Bool
    right = bit64 (number_in (val b w))

    left_bit : (i : ℕ) → left i ≡ is_true (bit_term a i) w
    left_bit i = sym (bit_told a i ∙ is_a.bits i)

    right_bit : (i : ℕ) → right i ≡ is_true (bit_term b i) w
    right_bit i = sym (bit_told b i ∙ is_b.bits i)

    -- ---- sums

    sum_carry_told : (i : ℕ) → carry false left right i ≡ is_true (one (unary.CarryIn i) (two binary.Add a b)) w
    unfolding val
    sum_carry_told i = carry_of_sum-plain x y i ∙ sym (truth_yes (sum_carry x y i))

    pub sum_carry_first : is_true (one (unary.CarryIn 0) (two binary.Add a b)) w ≡ false
    sum_carry_first = sym (sum_carry_told 0) ∙ carry-zero false left right

    pub sum_carry_next : (i : ℕ) → is_true (one (unary.CarryIn (suc i)) (two binary.Add a b)) w
        ≡ majority (is_true (bit_term a i) w) (is_true (bit_term b i) w) (is_true (one (unary.CarryIn i) (two binary.Add a b)) w)
    sum_carry_next i = sym (sum_carry_told (suc i)) ∙ carry-suc false left right i ∙ (λ j. majority (left_bit i j) (right_bit i j) (sum_carry_told i j))

    pub sum_bit : (i : ℕ) → i < 64 → is_true (one (unary.Bit i) (two binary.Add a b)) w
        ≡ odd (is_true (bit_term a i) w) (is_true (bit_term b i) w) (is_true (one (unary.CarryIn i) (two binary.Add a b)) w)
    unfolding val
    sum_bit i h = long_bit (int_wrap w64 (x +ℤ y)) i ∙ sum-bit w64 x y i h ∙ (λ j. odd (left_bit i j) (right_bit i j) (sum_carry_told i j))

    sum_sign : bit64 (int_wrap w64 (x +ℤ y)) 63 ≡ is_true (bit_term (two binary.Add a b) 63) w
    unfolding val
    sum_sign = sym (bit_told (two binary.Add a b) 63 ∙ ap (λ (l : Value-F Value). bit_seen l 63) (out_Long (int_wrap w64 (x +ℤ y))))

    pub sum_overflow : is_true (two binary.AddOverflows a b) w
        ≡ sum_overflows (is_true (bit_term a 63) w) (is_true (bit_term b 63) w) (is_true (bit_term (two binary.Add a b) 63) w)
    unfolding val
    sum_overflow = truth_yes (leaves64 (x +ℤ y)) ∙ sym (sum_leaves x y is_a.fits is_b.fits) ∙ (λ j. sum_overflows (left_bit 63 j) (right_bit 63 j) (sum_sign j))

    -- ---- differences

    difference_carry_told : (i : ℕ) → carry true left (complement right) i ≡ is_true (one (unary.CarryIn i) (two binary.Subtract a b)) w
    unfolding val
    difference_carry_told i = carry_of_difference-plain x y i ∙ sym (truth_yes (difference_carry x y i))

    pub difference_carry_first : is_true (one (unary.CarryIn 0) (two binary.Subtract a b)) w ≡ true
    difference_carry_first = sym (difference_carry_told 0) ∙ carry-zero true left (complement right)

    pub difference_carry_next : (i : ℕ) → is_true (one (unary.CarryIn (suc i)) (two binary.Subtract a b)) w
        ≡ majority (is_true (bit_term a i) w) (not (is_true (bit_term b i) w)) (is_true (one (unary.CarryIn i) (two binary.Subtract a b)) w)
    difference_carry_next i =
        sym (difference_carry_told (suc i)) ∙ carry-suc true left (complement right) i ∙ (λ j. majority (left_bit i j) (not (right_bit i j)) (difference_carry_told i j))

    pub difference_bit : (i : ℕ) → i < 64 → is_true (one (unary.Bit i) (two binary.Subtract a b)) w
        ≡ odd (is_true (bit_term a i) w) (not (is_true (bit_term b i) w)) (is_true (one (unary.CarryIn i) (two binary.Subtract a b)) w)
    unfolding val
    difference_bit i h =
        long_bit (int_wrap w64 (x -ℤ y)) i ∙ difference-bit w64 x y i h ∙ (λ j. odd (left_bit i j) (not (right_bit i j)) (difference_carry_told i j))

    difference_sign : bit64 (int_wrap w64 (x -ℤ y)) 63 ≡ is_true (bit_term (two binary.Subtract a b) 63) w
    unfolding val
    difference_sign = sym (bit_told (two binary.Subtract a b) 63 ∙ ap (λ (l : Value-F Value). bit_seen l 63) (out_Long (int_wrap w64 (x -ℤ y))))

    pub difference_overflow : is_true (two binary.SubtractOverflows a b) w
        ≡ difference_overflows (is_true (bit_term a 63) w) (is_true (bit_term b 63) w) (is_true (bit_term (two binary.Subtract a b) 63) w)
    unfolding val
    difference_overflow =
        truth_yes (leaves64 (x -ℤ y)) ∙ sym (difference_leaves x y is_a.fits is_b.fits) ∙ (λ j. difference_overflows (left_bit 63 j) (right_bit 63 j) (difference_sign j))

    -- ---- products

    abbrev product_carry : ℕ → ℕ → Tree
    product_carry i j = one (unary.ProductCarry i j) (two binary.Multiply a b)

    pub row_value : (i j : ℕ) → val (product_row a b i j) w ≡ yes (row_bit x y i j)
    unfolding val
    row_value i j = refl

    pub row_told : (i j : ℕ) → i ≤ 128 → j < 128 → prow left right i j ≡ is_true (product_row a b i j) w
    row_told i j p q = prow-plain x y is_a.fits is_b.fits i j p q ∙ sym (ap truth (row_value i j) ∙ truth_yes (row_bit x y i j))

    product_carry_told : (i j : ℕ) → i < 128 → j ≤ 128 → pcar left right i j ≡ is_true (product_carry i j) w
    unfolding val
    product_carry_told i j p q = pcar-plain x y is_a.fits is_b.fits i j p q ∙ sym (truth_yes (row_carry x y i j))

    partial_by : (c : Bool) (i j : ℕ) → (c && (left i && right j)) ≡ is_true (cond c (and_term (bit_term a i) (bit_term b j)) (truth_term false)) w
    partial_by true i j = (λ k. left_bit i k && right_bit j k) ∙ sym (both_folded (bit_term a i) (bit_term b j))
    partial_by false i j = sym false_told

    partial_told : (i j : ℕ) → partial left right i j ≡ is_true (partial_term a b i j) w
    partial_told i j = partial_by (nat_le i j) (min (j - i) 63) (min i 63)

    pub row_first : (j : ℕ) → j < 128 → is_true (product_row a b 0 j) w ≡ false
    row_first j q = sym (row_told 0 j (omega arith) q) ∙ prow-zero left right j

    pub row_next : (i j : ℕ) → i < 128 → j < 128 → is_true (product_row a b (suc i) j) w
        ≡ odd (is_true (product_row a b i j) w) (is_true (partial_term a b i j) w) (is_true (product_carry i j) w)
    row_next i j p q =
        sym (row_told (suc i) j (omega (arith, p)) q) ∙ prow-suc left right i j
        ∙ (λ k. odd (row_told i j (omega (arith, p)) q k) (partial_told i j k) (product_carry_told i j p (omega (arith, q)) k))

    pub product_carry_first : (i : ℕ) → i < 128 → is_true (product_carry i 0) w ≡ false
    product_carry_first i p = sym (product_carry_told i 0 p (omega arith)) ∙ carry-zero false (prow left right i) (partial left right i)

    pub product_carry_next : (i j : ℕ) → i < 128 → j < 128 → is_true (product_carry i (suc j)) w
        ≡ majority (is_true (product_row a b i j) w) (is_true (partial_term a b i j) w) (is_true (product_carry i j) w)
    product_carry_next i j p q =
        sym (product_carry_told i (suc j) p (omega (arith, q))) ∙ carry-suc false (prow left right i) (partial left right i) j
        ∙ (λ k. majority (row_told i j (omega (arith, p)) q k) (partial_told i j k) (product_carry_told i j p (omega (arith, q)) k))

    pub product_bit : (i : ℕ) → i < 64 → is_true (one (unary.Bit i) (two binary.Multiply a b)) w ≡ is_true (product_row a b 128 i) w
    unfolding val
    product_bit i h = long_bit (int_wrap w64 (x *ℤ y)) i ∙ product-bit x y i h ∙ row_told 128 i (omega arith) (omega (arith, h))

    -- ---- comparisons

    low_told : (i : ℕ) → low left right i ≡ is_true (two (binary.Low i) a b) w
    unfolding val
    low_told i = low-plain x y i ∙ sym (truth_yes (low_bits_less x y i))

    pub low_first : is_true (two (binary.Low 0) a b) w ≡ false
    low_first = sym (low_told 0) ∙ low-zero left right

    pub low_next : (i : ℕ) → is_true (two (binary.Low (suc i)) a b) w
        ≡ is_below (is_true (bit_term a i) w) (is_true (bit_term b i) w) (is_true (two (binary.Low i) a b) w)
    low_next i = sym (low_told (suc i)) ∙ low-suc left right i ∙ (λ j. is_below (left_bit i j) (right_bit i j) (low_told i j))

    pub less_told : is_true (two binary.Less a b) w
        ≡ is_below (is_true (bit_term b 63) w) (is_true (bit_term a 63) w) (is_true (two (binary.Low 63) a b) w)
    unfolding val
    less_told = truth_yes (int_lt x y) ∙ sym (slt_is x y is_a.fits is_b.fits) ∙ (λ j. is_below (right_bit 63 j) (left_bit 63 j) (low_told 63 j))
