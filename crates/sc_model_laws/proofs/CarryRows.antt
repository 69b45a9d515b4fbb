-- Carries and comparisons of lowest bits have their values where the numbers have theirs.
use Rattle.std.proofs.Common.{◌≡◌, ◌≤◌, ◌<◌, inl, inr, ℕ, zero, suc, arith, Bool, true, false, not, ℤ, List, refl, sym, ap, ◌∙◌}
use Rattle.std.specs.Int.{w64}
use Rattle.sc_names.specs.declared.uid.Uid.{Uid}
use Rattle.sc_schema.specs.declared.declarations.Env.{Env}
use Rattle.sc_schema.specs.Declarations.{Declarations}
use Rattle.sc_world.specs.declared.world.World.{World}
use Rattle.sc_sorts.specs.declared.sort.Sort.{Sort}
use Rattle.sc_sorts.specs.declared.sort.Sort.TheVariants as sort
use Rattle.sc_sorts.specs.declared.node.UnaryOp.TheVariants as unary
use Rattle.sc_sorts.specs.declared.node.BinaryOp.{BinaryOp}
use Rattle.sc_sorts.specs.declared.node.BinaryOp.TheVariants as binary
use Rattle.sc_bits.specs.Adders.{majority, carry, complement}
use Rattle.sc_bits.specs.Bits.{bit64, of_bits64}
use Rattle.sc_bits.specs.Orders.{is_below, IsLow}
use Rattle.sc_bits.specs.Plain.{sum_carry, difference_carry, low_bits_less}
use Rattle.sc_bits.proofs.AdderLaws.{carry-zero, carry-suc}
use Rattle.sc_bits.proofs.IntegerLaws.{bit64-of_bits}
use Rattle.sc_bits.proofs.OrderLaws.{low_is}
use Rattle.sc_bits.proofs.PlainLaws.{carry_of_sum-plain, carry_of_difference-plain, low-plain}
use Rattle.sc_terms.specs.Trees.{Tree, one, two}
use Rattle.sc_terms.specs.TreeSorts.{tree_sort}
use Rattle.sc_terms.specs.Values.{yes, val, number_in}
use Rattle.sc_terms.proofs.FoldValues.{two_is}
use Rattle.sc_term_definitions.specs.Definitions.{definition, is_difference, carry_at}
use Rattle.sc_term_laws.specs.Judging.{IsNumberSort, IsSum}
use Rattle.sc_term_laws.specs.Judging as judged
use Rattle.sc_closure_rules.specs.Closure.{Closed}
use Rattle.sc_model_laws.specs.Assignments.{lit}
use Rattle.sc_model_laws.specs.Vals.{Model, bits_of}
use Rattle.sc_model_laws.specs.Models.{IsModel}
use Rattle.sc_model_laws.specs.Rows.{IsRight}
use Rattle.sc_model_laws.proofs.ClaimLaws.{AreTerms, AreAddresses, by_definition, input_of}
use Rattle.sc_model_laws.proofs.RowLaws.{right_truth}
use Rattle.sc_model_laws.proofs.SumRows.{long_number, number_right, lows}

abbrev carry_term : BinaryOp → Tree → Tree → ℕ → Tree
carry_term o a b i = one (unary.CarryIn i) (two o a b)

-- bits that are added: of a difference the complement
abbrev turned_bits : Bool → (ℕ → Bool) → ℕ → Bool
turned_bits true f = complement f
turned_bits false f = f

turned_alike : (t : Bool) (f g : ℕ → Bool) (i : ℕ) → f i ≡ g i → turned_bits t f i ≡ turned_bits t g i
turned_alike true f g i e = ap not e
turned_alike false f g i e = e

carry_is : (o : BinaryOp) (a b : Tree) (i : ℕ) → IsSum o → definition (carry_term o a b i) ≡ carry_at o a b i
unfolding definition
carry_is _ a b i judged.addition = refl
carry_is _ a b i judged.subtraction = refl

sum_carry_value : (a b : Tree) (i : ℕ) (w : World) → val (carry_term binary.Add a b i) w ≡ yes (sum_carry (number_in (val a w)) (number_in (val b w)) i)
unfolding val
sum_carry_value a b i w = refl

difference_carry_value : (a b : Tree) (i : ℕ) (w : World) → val (carry_term binary.Subtract a b i) w ≡ yes (difference_carry (number_in (val a w)) (number_in (val b w)) i)
unfolding val
difference_carry_value a b i w = refl

module _ (d : Declarations) (env : Env) (literals : List Uid) (goal : Tree) (addresses : AreAddresses) (terms : AreTerms d env literals goal) (m : Model) (is : IsModel d env goal m) (w : World) where
  -- the number that bits stand for has these bits
  own_bit : (a : Tree) (i : ℕ) → i < 64 → bits_of m a i ≡ bit64 (of_bits64 (bits_of m a)) i
  own_bit a i h = sym (bit64-of_bits w64 (bits_of m a) i h)

  -- ---- comparisons of lowest bits

  pub right_low : (k : Sort) (i : ℕ) (a b : Tree) → IsNumberSort k → i ≤ 64 → tree_sort a ≡ k → tree_sort b ≡ k → Closed d env goal (two (binary.Low i) a b) → IsRight m w a → IsRight m w b → IsRight m w (two (binary.Low i) a b)
  unfolding tree_sort
  right_low k i a b n p e f c r q =
      let x : ℤ = of_bits64 (bits_of m a) in
      let y : ℤ = of_bits64 (bits_of m b) in
      let tests : IsLow i (bits_of m a) (bits_of m b) (λ j. lit m.truths (two (binary.Low j) a b)) = lows d env literals goal addresses terms m is w a b i c in
      let whole : IsLow i (bit64 x) (bit64 y) (λ j. lit m.truths (two (binary.Low j) a b)) = record {
        start = tests.start;
        next = λ j h. tests.next j h ∙ (λ t. is_below (own_bit a j (omega (arith, h, p)) t) (own_bit b j (omega (arith, h, p)) t) (lit m.truths (two (binary.Low j) a b)));
      } in
      right_truth d env literals goal addresses terms m is w (two (binary.Low i) a b) (low_bits_less x y i) refl
      (two_is (binary.Low i) a b w
      ∙ (λ t. yes (low_bits_less (number_right d env literals goal addresses terms m is w k a n e r t) (number_right d env literals goal addresses terms m is w k b n f q t) i)))
      (sym (low-plain x y i) ∙ sym (low_is i (bit64 x) (bit64 y) (λ j. lit m.truths (two (binary.Low j) a b)) whole i (omega arith)))

  -- ---- carries

  module _ (o : BinaryOp) (sum : IsSum o) (a b : Tree) where
    carry_start : Closed d env goal (carry_term o a b 0) → lit m.truths (carry_term o a b 0) ≡ is_difference o
    unfolding tree_sort
    carry_start c = by_definition d env literals goal addresses terms m is (carry_term o a b 0) (carry_at o a b 0) refl (carry_is o a b 0 sum) c

    carry_before : (i : ℕ) → Closed d env goal (carry_term o a b (suc i)) → Closed d env goal (carry_term o a b i)
    carry_before i c = input_of d env literals goal addresses terms m is (carry_term o a b (suc i)) (carry_at o a b (suc i)) (carry_term o a b i) (carry_is o a b (suc i) sum) c (inr (inr (inl refl)))

  carry_next : (o : BinaryOp) (a b : Tree) (i : ℕ) → IsSum o → Closed d env goal (carry_term o a b (suc i))
      → lit m.truths (carry_term o a b (suc i)) ≡ majority (bits_of m a i) (turned_bits (is_difference o) (bits_of m b) i) (lit m.truths (carry_term o a b i))
  unfolding tree_sort
  carry_next _ a b i judged.addition c =
      by_definition d env literals goal addresses terms m is (carry_term binary.Add a b (suc i)) (carry_at binary.Add a b (suc i)) refl (carry_is binary.Add a b (suc i) judged.addition) c
  carry_next _ a b i judged.subtraction c =
      by_definition d env literals goal addresses terms m is (carry_term binary.Subtract a b (suc i)) (carry_at binary.Subtract a b (suc i)) refl (carry_is binary.Subtract a b (suc i) judged.subtraction) c

  carries : (o : BinaryOp) (a b : Tree) (i : ℕ) → IsSum o → i ≤ 64 → Closed d env goal (carry_term o a b i)
      → lit m.truths (carry_term o a b i) ≡ carry (is_difference o) (bit64 (of_bits64 (bits_of m a))) (turned_bits (is_difference o) (bit64 (of_bits64 (bits_of m b)))) i
  carries o a b zero s p c =
      carry_start o s a b c ∙ sym (carry-zero (is_difference o) (bit64 (of_bits64 (bits_of m a))) (turned_bits (is_difference o) (bit64 (of_bits64 (bits_of m b)))))
  carries o a b (suc i) s p c =
      let below : i < 64 = omega (arith, p) in
      let before = carries o a b i s (omega (arith, p)) (carry_before o s a b i c) in
      let turned = turned_alike (is_difference o) (bits_of m b) (bit64 (of_bits64 (bits_of m b))) i (own_bit b i below) in
      carry_next o a b i s c ∙ (λ t. majority (own_bit a i below t) (turned t) (before t))
      ∙ sym (carry-suc (is_difference o) (bit64 (of_bits64 (bits_of m a))) (turned_bits (is_difference o) (bit64 (of_bits64 (bits_of m b)))) i)

  pub right_carry : (o : BinaryOp) (i : ℕ) (a b : Tree) → IsSum o → i ≤ 64 → tree_sort a ≡ sort.Long → tree_sort b ≡ sort.Long → Closed d env goal (carry_term o a b i) → IsRight m w a → IsRight m w b → IsRight m w (carry_term o a b i)
  unfolding tree_sort
  right_carry _ i a b judged.addition p e f c r q =
      let x : ℤ = of_bits64 (bits_of m a) in
      let y : ℤ = of_bits64 (bits_of m b) in
      right_truth d env literals goal addresses terms m is w (carry_term binary.Add a b i) (sum_carry x y i) refl
      (sum_carry_value a b i w ∙ (λ t. yes (sum_carry (long_number d env literals goal addresses terms m is w a e r t) (long_number d env literals goal addresses terms m is w b f q t) i)))
      (sym (carry_of_sum-plain x y i) ∙ sym (carries binary.Add a b i judged.addition p c))
  right_carry _ i a b judged.subtraction p e f c r q =
      let x : ℤ = of_bits64 (bits_of m a) in
      let y : ℤ = of_bits64 (bits_of m b) in
      right_truth d env literals goal addresses terms m is w (carry_term binary.Subtract a b i) (difference_carry x y i) refl
      (difference_carry_value a b i w ∙ (λ t. yes (difference_carry (long_number d env literals goal addresses terms m is w a e r t) (long_number d env literals goal addresses terms m is w b f q t) i)))
      (sym (carry_of_difference-plain x y i) ∙ sym (carries binary.Subtract a b i judged.subtraction p c))
