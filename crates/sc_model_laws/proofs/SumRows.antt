-- Sums, differences and comparisons of numbers have their values where their parts have theirs.
use Rattle.std.proofs.Common.{◌≡◌, ◌<◌, ◌≤◌, ◌+◌, ◌-◌, inl, inr, ℕ, zero, suc, arith, true, false, ◌+ℤ◌, ◌-ℤ◌, int_lt, List, [], ◌∷◌, refl, sym, ap, ◌∙◌, subst}
use Rattle.std.specs.Int.{w64, int_wrap}
use Rattle.sc_lists.specs.Members.{Has}
use Rattle.sc_names.specs.declared.uid.Uid.{Uid}
use Rattle.sc_schema.specs.declared.declarations.Env.{Env}
use Rattle.sc_schema.specs.Declarations.{Declarations}
use Rattle.sc_values.specs.declared.value.Value.TheVariants as value
use Rattle.sc_values.proofs.OutLaws as out
use Rattle.sc_world.specs.declared.world.World.{World}
use Rattle.sc_sorts.specs.declared.sort.Sort.{Sort}
use Rattle.sc_sorts.specs.declared.sort.Sort.TheVariants as sort
use Rattle.sc_sorts.specs.declared.node.UnaryOp.TheVariants as unary
use Rattle.sc_sorts.specs.declared.node.BinaryOp.TheVariants as binary
use Rattle.sc_bits.specs.Adders.{complement, IsAdder, leaves64}
use Rattle.sc_bits.specs.Bits.{of_bits64}
use Rattle.sc_bits.specs.Orders.{IsLow}
use Rattle.sc_bits.proofs.AdderLaws.{sum_rebuilt, difference_rebuilt, sum_leaves_rebuilt, difference_leaves_rebuilt}
use Rattle.sc_bits.proofs.OrderLaws.{slt_rebuilt}
use Rattle.sc_terms.specs.Trees.{Tree, one, two}
use Rattle.sc_terms.specs.TreeSorts.{tree_sort}
use Rattle.sc_terms.specs.Folds.{bit_term}
use Rattle.sc_terms.specs.Values.{it, yes, val, number_in, number_seen}
use Rattle.sc_terms.proofs.FoldValues.{two_is}
use Rattle.sc_term_definitions.specs.Definitions.{Definition, definition, added_at, carry_at, table, low_at}
use Rattle.sc_term_definitions.specs.declared.function.Function.TheVariants.{Odd, SignedBelow, SumOverflows, DifferenceOverflows}
use Rattle.sc_term_laws.specs.Judging.{IsNumberSort}
use Rattle.sc_term_laws.specs.Judging as judged
use Rattle.sc_closure_rules.specs.Closure.{Closed}
use Rattle.sc_model_laws.specs.Assignments.{lit}
use Rattle.sc_model_laws.specs.Vals.{Model, bits_of}
use Rattle.sc_model_laws.specs.Models.{IsModel}
use Rattle.sc_model_laws.specs.Rows.{IsRight}
use Rattle.sc_model_laws.proofs.ClaimLaws.{AreTerms, AreAddresses, by_definition, input_of}
use Rattle.sc_model_laws.proofs.ClosedLaws.{of_part, long_bit}
use Rattle.sc_model_laws.proofs.RowLaws.{at_sort, from_sort, right_truth}
use Rattle.sc_model_laws.proofs.ValLaws.{val_Long, val_Decimal}

module _ (d : Declarations) (env : Env) (literals : List Uid) (goal : Tree) (addresses : AreAddresses) (terms : AreTerms d env literals goal) (m : Model) (is : IsModel d env goal m) (w : World) where
  -- the number that a term has
  pub long_number : (a : Tree) → tree_sort a ≡ sort.Long → IsRight m w a → number_in (val a w) ≡ of_bits64 (bits_of m a)
  long_number a e r =
      ap number_in (at_sort d env literals goal addresses terms m is w sort.Long a e r ∙ val_Long m a) ∙ ap number_seen (out.out_Long (of_bits64 (bits_of m a)))

  decimal_number : (a : Tree) → tree_sort a ≡ sort.Decimal → IsRight m w a → number_in (val a w) ≡ of_bits64 (bits_of m a)
  decimal_number a e r =
      ap number_in (at_sort d env literals goal addresses terms m is w sort.Decimal a e r ∙ val_Decimal m a) ∙ ap number_seen (out.out_Decimal (of_bits64 (bits_of m a)))

  pub number_right : (k : Sort) (a : Tree) → IsNumberSort k → tree_sort a ≡ k → IsRight m w a → number_in (val a w) ≡ of_bits64 (bits_of m a)
  number_right _ a judged.long e r = long_number a e r
  number_right _ a judged.decimal e r = decimal_number a e r

  input : (x : Tree) (D : Definition) (t : Tree) → definition x ≡ D → Closed d env goal x → Has D.inputs t → Closed d env goal t
  input x D t e c h = input_of d env literals goal addresses terms m is x D t e c h

  -- ---- sums

  module _ (a b : Tree) (c : Closed d env goal (two binary.Add a b)) where
    sum_bit : (i : ℕ) → i < 64 → Closed d env goal (one (unary.Bit i) (two binary.Add a b))
    unfolding tree_sort bit_term
    sum_bit i h = long_bit d env goal (two binary.Add a b) i refl c h

    sum_bit_is : (i : ℕ) → definition (one (unary.Bit i) (two binary.Add a b)) ≡ added_at Odd binary.Add a b i
    unfolding definition
    sum_bit_is i = refl

    sum_carry_is : (i : ℕ) → definition (one (unary.CarryIn i) (two binary.Add a b)) ≡ carry_at binary.Add a b i
    unfolding definition
    sum_carry_is i = refl

    sum_carry : (i : ℕ) → i < 64 → Closed d env goal (one (unary.CarryIn i) (two binary.Add a b))
    sum_carry i h =
        input (one (unary.Bit i) (two binary.Add a b)) (added_at Odd binary.Add a b i) (one (unary.CarryIn i) (two binary.Add a b)) (sum_bit_is i) (sum_bit i h) (inr (inr (inl refl)))

    pub sum_adder : IsAdder false 64 (bits_of m a) (bits_of m b) (λ i. lit m.truths (one (unary.CarryIn i) (two binary.Add a b))) (bits_of m (two binary.Add a b))
    unfolding tree_sort bit_term
    sum_adder = record {
      start = by_definition d env literals goal addresses terms m is (one (unary.CarryIn 0) (two binary.Add a b)) (carry_at binary.Add a b 0) refl (sum_carry_is 0) (sum_carry 0 (omega arith));
      next = λ i h. by_definition d env literals goal addresses terms m is (one (unary.CarryIn (suc i)) (two binary.Add a b)) (carry_at binary.Add a b (suc i)) refl (sum_carry_is (suc i)) (sum_carry (suc i) h);
      result = λ i h. by_definition d env literals goal addresses terms m is (one (unary.Bit i) (two binary.Add a b)) (added_at Odd binary.Add a b i) refl (sum_bit_is i) (sum_bit i h);
    }

  pub right_add : (a b : Tree) → tree_sort a ≡ sort.Long → tree_sort b ≡ sort.Long → Closed d env goal (two binary.Add a b) → IsRight m w a → IsRight m w b → IsRight m w (two binary.Add a b)
  unfolding tree_sort
  right_add a b e f c r q =
      from_sort d env literals goal addresses terms m is w sort.Long (two binary.Add a b) refl
      (two_is binary.Add a b w ∙ (λ i. it (value.Long (int_wrap w64 (long_number a e r i +ℤ long_number b f q i))))
      ∙ ap (λ z. it (value.Long z)) (sym (sum_rebuilt w64 (bits_of m a) (bits_of m b) (λ i. lit m.truths (one (unary.CarryIn i) (two binary.Add a b))) (bits_of m (two binary.Add a b)) (sum_adder a b c)))
      ∙ sym (val_Long m (two binary.Add a b)))

  -- ---- differences

  module _ (a b : Tree) (c : Closed d env goal (two binary.Subtract a b)) where
    difference_bit : (i : ℕ) → i < 64 → Closed d env goal (one (unary.Bit i) (two binary.Subtract a b))
    unfolding tree_sort bit_term
    difference_bit i h = long_bit d env goal (two binary.Subtract a b) i refl c h

    difference_bit_is : (i : ℕ) → definition (one (unary.Bit i) (two binary.Subtract a b)) ≡ added_at Odd binary.Subtract a b i
    unfolding definition
    difference_bit_is i = refl

    difference_carry_is : (i : ℕ) → definition (one (unary.CarryIn i) (two binary.Subtract a b)) ≡ carry_at binary.Subtract a b i
    unfolding definition
    difference_carry_is i = refl

    difference_carry : (i : ℕ) → i < 64 → Closed d env goal (one (unary.CarryIn i) (two binary.Subtract a b))
    difference_carry i h =
        input (one (unary.Bit i) (two binary.Subtract a b)) (added_at Odd binary.Subtract a b i) (one (unary.CarryIn i) (two binary.Subtract a b)) (difference_bit_is i) (difference_bit i h) (inr (inr (inl refl)))

    pub difference_adder : IsAdder true 64 (bits_of m a) (complement (bits_of m b)) (λ i. lit m.truths (one (unary.CarryIn i) (two binary.Subtract a b))) (bits_of m (two binary.Subtract a b))
    unfolding tree_sort bit_term
    difference_adder = record {
      start = by_definition d env literals goal addresses terms m is (one (unary.CarryIn 0) (two binary.Subtract a b)) (carry_at binary.Subtract a b 0) refl (difference_carry_is 0) (difference_carry 0 (omega arith));
      next = λ i h. by_definition d env literals goal addresses terms m is (one (unary.CarryIn (suc i)) (two binary.Subtract a b)) (carry_at binary.Subtract a b (suc i)) refl (difference_carry_is (suc i)) (difference_carry (suc i) h);
      result = λ i h. by_definition d env literals goal addresses terms m is (one (unary.Bit i) (two binary.Subtract a b)) (added_at Odd binary.Subtract a b i) refl (difference_bit_is i) (difference_bit i h);
    }

  pub right_subtract : (a b : Tree) → tree_sort a ≡ sort.Long → tree_sort b ≡ sort.Long → Closed d env goal (two binary.Subtract a b) → IsRight m w a → IsRight m w b → IsRight m w (two binary.Subtract a b)
  unfolding tree_sort
  right_subtract a b e f c r q =
      from_sort d env literals goal addresses terms m is w sort.Long (two binary.Subtract a b) refl
      (two_is binary.Subtract a b w ∙ (λ i. it (value.Long (int_wrap w64 (long_number a e r i -ℤ long_number b f q i))))
      ∙ ap (λ z. it (value.Long z)) (sym (difference_rebuilt w64 (bits_of m a) (bits_of m b) (λ i. lit m.truths (one (unary.CarryIn i) (two binary.Subtract a b))) (bits_of m (two binary.Subtract a b)) (difference_adder a b c)))
      ∙ sym (val_Long m (two binary.Subtract a b)))

  -- ---- whether they leave the range

  sum_leaves_is : (a b : Tree) → definition (two binary.AddOverflows a b) ≡ table SumOverflows (bit_term a 63 ∷ bit_term b 63 ∷ bit_term (two binary.Add a b) 63 ∷ [])
  unfolding definition
  sum_leaves_is a b = refl

  sum_there : (a b : Tree) → Closed d env goal (two binary.AddOverflows a b) → Closed d env goal (two binary.Add a b)
  unfolding bit_term
  sum_there a b c =
      of_part d env goal (one (unary.Bit 63) (two binary.Add a b)) (two binary.Add a b)
      (input (two binary.AddOverflows a b) (table SumOverflows (bit_term a 63 ∷ bit_term b 63 ∷ bit_term (two binary.Add a b) 63 ∷ [])) (one (unary.Bit 63) (two binary.Add a b)) (sum_leaves_is a b) c (inr (inr (inl refl))))
      (inl refl)

  pub right_add_overflows : (a b : Tree) → tree_sort a ≡ sort.Long → tree_sort b ≡ sort.Long → Closed d env goal (two binary.AddOverflows a b) → IsRight m w a → IsRight m w b → IsRight m w (two binary.AddOverflows a b)
  unfolding tree_sort
  right_add_overflows a b e f c r q =
      right_truth d env literals goal addresses terms m is w (two binary.AddOverflows a b) (leaves64 (of_bits64 (bits_of m a) +ℤ of_bits64 (bits_of m b))) refl
      (two_is binary.AddOverflows a b w ∙ (λ i. yes (leaves64 (long_number a e r i +ℤ long_number b f q i))))
      (sym (sum_leaves_rebuilt (bits_of m a) (bits_of m b) (λ i. lit m.truths (one (unary.CarryIn i) (two binary.Add a b))) (bits_of m (two binary.Add a b)) (sum_adder a b (sum_there a b c)))
      ∙ sym (by_definition d env literals goal addresses terms m is (two binary.AddOverflows a b) (table SumOverflows (bit_term a 63 ∷ bit_term b 63 ∷ bit_term (two binary.Add a b) 63 ∷ [])) refl (sum_leaves_is a b) c))

  difference_leaves_is : (a b : Tree) → definition (two binary.SubtractOverflows a b) ≡ table DifferenceOverflows (bit_term a 63 ∷ bit_term b 63 ∷ bit_term (two binary.Subtract a b) 63 ∷ [])
  unfolding definition
  difference_leaves_is a b = refl

  difference_there : (a b : Tree) → Closed d env goal (two binary.SubtractOverflows a b) → Closed d env goal (two binary.Subtract a b)
  unfolding bit_term
  difference_there a b c =
      of_part d env goal (one (unary.Bit 63) (two binary.Subtract a b)) (two binary.Subtract a b)
      (input (two binary.SubtractOverflows a b) (table DifferenceOverflows (bit_term a 63 ∷ bit_term b 63 ∷ bit_term (two binary.Subtract a b) 63 ∷ [])) (one (unary.Bit 63) (two binary.Subtract a b)) (difference_leaves_is a b) c (inr (inr (inl refl))))
      (inl refl)

  pub right_subtract_overflows : (a b : Tree) → tree_sort a ≡ sort.Long → tree_sort b ≡ sort.Long → Closed d env goal (two binary.SubtractOverflows a b) → IsRight m w a → IsRight m w b → IsRight m w (two binary.SubtractOverflows a b)
  unfolding tree_sort
  right_subtract_overflows a b e f c r q =
      right_truth d env literals goal addresses terms m is w (two binary.SubtractOverflows a b) (leaves64 (of_bits64 (bits_of m a) -ℤ of_bits64 (bits_of m b))) refl
      (two_is binary.SubtractOverflows a b w ∙ (λ i. yes (leaves64 (long_number a e r i -ℤ long_number b f q i))))
      (sym (difference_leaves_rebuilt (bits_of m a) (bits_of m b) (λ i. lit m.truths (one (unary.CarryIn i) (two binary.Subtract a b))) (bits_of m (two binary.Subtract a b)) (difference_adder a b (difference_there a b c)))
      ∙ sym (by_definition d env literals goal addresses terms m is (two binary.SubtractOverflows a b) (table DifferenceOverflows (bit_term a 63 ∷ bit_term b 63 ∷ bit_term (two binary.Subtract a b) 63 ∷ [])) refl (difference_leaves_is a b) c))

  -- ---- comparisons

  low_is : (a b : Tree) (i : ℕ) → definition (two (binary.Low i) a b) ≡ low_at a b i
  unfolding definition
  low_is a b i = refl

  less_is : (a b : Tree) → definition (two binary.Less a b) ≡ table SignedBelow (bit_term a 63 ∷ bit_term b 63 ∷ two (binary.Low 63) a b ∷ [])
  unfolding definition
  less_is a b = refl

  -- with the test of some lowest bits those of fewer
  lower : (a b : Tree) (k n : ℕ) → Closed d env goal (two (binary.Low (k + n)) a b) → Closed d env goal (two (binary.Low n) a b)
  lower a b zero n c = let same : zero + n ≡ n = omega arith in subst (λ (j : ℕ). Closed d env goal (two (binary.Low j) a b)) same c
  lower a b (suc k) n c =
      let sum : suc k + n ≡ suc (k + n) = omega arith in
      let more : Closed d env goal (two (binary.Low (suc (k + n))) a b) = subst (λ (j : ℕ). Closed d env goal (two (binary.Low j) a b)) sum c in
      lower a b k n (input (two (binary.Low (suc (k + n))) a b) (low_at a b (suc (k + n))) (two (binary.Low (k + n)) a b) (low_is a b (suc (k + n))) more (inr (inr (inl refl))))

  low_there : (a b : Tree) (n i : ℕ) → i ≤ n → Closed d env goal (two (binary.Low n) a b) → Closed d env goal (two (binary.Low i) a b)
  low_there a b n i h c =
      let sum : n ≡ n - i + i = omega (arith, h) in
      lower a b (n - i) i (subst (λ (j : ℕ). Closed d env goal (two (binary.Low j) a b)) sum c)

  pub lows : (a b : Tree) (n : ℕ) → Closed d env goal (two (binary.Low n) a b) → IsLow n (bits_of m a) (bits_of m b) (λ i. lit m.truths (two (binary.Low i) a b))
  unfolding tree_sort
  lows a b n c = record {
    start = by_definition d env literals goal addresses terms m is (two (binary.Low 0) a b) (low_at a b 0) refl (low_is a b 0) (low_there a b n 0 (omega arith) c);
    next = λ i h. by_definition d env literals goal addresses terms m is (two (binary.Low (suc i)) a b) (low_at a b (suc i)) refl (low_is a b (suc i)) (low_there a b n (suc i) (omega (arith, h)) c);
  }

  pub right_less : (k : Sort) (a b : Tree) → IsNumberSort k → tree_sort a ≡ k → tree_sort b ≡ k → Closed d env goal (two binary.Less a b) → IsRight m w a → IsRight m w b → IsRight m w (two binary.Less a b)
  unfolding tree_sort
  right_less k a b n e f c r q =
      let low : Closed d env goal (two (binary.Low 63) a b) =
      input (two binary.Less a b) (table SignedBelow (bit_term a 63 ∷ bit_term b 63 ∷ two (binary.Low 63) a b ∷ [])) (two (binary.Low 63) a b) (less_is a b) c (inr (inr (inl refl))) in
      right_truth d env literals goal addresses terms m is w (two binary.Less a b) (int_lt (of_bits64 (bits_of m a)) (of_bits64 (bits_of m b))) refl
      (two_is binary.Less a b w ∙ (λ i. yes (int_lt (number_right k a n e r i) (number_right k b n f q i))))
      (sym (slt_rebuilt (bits_of m a) (bits_of m b) (λ i. lit m.truths (two (binary.Low i) a b)) (lows a b 63 low))
      ∙ sym (by_definition d env literals goal addresses terms m is (two binary.Less a b) (table SignedBelow (bit_term a 63 ∷ bit_term b 63 ∷ two (binary.Low 63) a b ∷ [])) refl (less_is a b) c))
