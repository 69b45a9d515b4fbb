-- Products, the rows of partial products and the carries between them have their values where the factors have theirs.
use Rattle.std.proofs.Common.{◌≡◌, ◌+◌, ◌-◌, ◌≤◌, ◌<◌, inl, inr, ℕ, zero, suc, min, nat_le, arith, Bool, true, false, not, ◌&&◌, ℤ, ◌*ℤ◌, SFits, List, [], ◌∷◌, map, refl, sym, ap, ◌∙◌, subst}
use Rattle.std.specs.Int.{w64, int_wrap}
use Rattle.std.specs.List.{list_all}
use Rattle.sc_lists.proofs.MemberLaws.{Has-map, map-Has}
use Rattle.sc_lists.specs.Members.{Has}
use Rattle.sc_names.specs.declared.uid.Uid.{Uid}
use Rattle.sc_schema.specs.declared.declarations.Env.{Env}
use Rattle.sc_schema.specs.Declarations.{Declarations}
use Rattle.sc_values.specs.declared.value.Value.TheVariants as value
use Rattle.sc_world.specs.declared.world.World.{World}
use Rattle.sc_sorts.specs.declared.sort.Sort.TheVariants as sort
use Rattle.sc_sorts.specs.declared.node.UnaryOp.TheVariants as unary
use Rattle.sc_sorts.specs.declared.node.BinaryOp.TheVariants as binary
use Rattle.sc_bits.specs.Adders.{differ, odd, majority, leaves64}
use Rattle.sc_bits.specs.Bits.{bit64, of_bits64}
use Rattle.sc_bits.specs.Plain.{row_bit, row_carry}
use Rattle.sc_bits.specs.Products.{extended, partial, prow, pcar, RepeatsSign}
use Rattle.sc_bits.proofs.AdderLaws.{carry-zero, carry-suc}
use Rattle.sc_bits.proofs.IntegerLaws.{bit64-of_bits, fits-of_bits, of_bits-bit64, of_bits-same}
use Rattle.sc_bits.proofs.PlainLaws.{prow-plain, pcar-plain}
use Rattle.sc_bits.proofs.ProductLaws.{prow-zero, prow-suc, product_is, product_leaves}
use Rattle.sc_terms.specs.Trees.{Tree, one, two}
use Rattle.sc_terms.specs.TreeSorts.{tree_sort}
use Rattle.sc_terms.specs.Folds.{literal_of, equal_term, bit_term}
use Rattle.sc_terms.specs.Values.{it, yes, val, number_in}
use Rattle.sc_terms.proofs.FoldValues.{two_is}
use Rattle.sc_term_definitions.specs.Definitions.{Definition, definition, table, counted, product_row, partial_term, row_inputs, row_at, row_carry_at, upper_bits}
use Rattle.sc_term_definitions.specs.declared.function.Function.TheVariants.{Itself}
use Rattle.sc_term_definitions.specs.declared.function.Shape.TheVariants.{NotAll}
use Rattle.sc_term_definitions.proofs.EquationLaws.{alike, alike_back}
use Rattle.sc_rule_laws.proofs.MemberLaws.{all_has, has_all}
use Rattle.sc_closure_rules.specs.Closure.{Closed}
use Rattle.sc_model_laws.specs.Assignments.{lit}
use Rattle.sc_model_laws.specs.Vals.{Model, bits_of}
use Rattle.sc_model_laws.specs.Models.{IsModel}
use Rattle.sc_model_laws.specs.Rows.{IsRight}
use Rattle.sc_model_laws.proofs.ClaimLaws.{AreTerms, AreAddresses, by_definition, input_of, counted_below, lit_equal}
use Rattle.sc_model_laws.proofs.ClosedLaws.{of_part, counted_has, long_bit}
use Rattle.sc_model_laws.proofs.EquationTerms.{Equation, is_one, are_literals, is_straight, is_turned, equation_of}
use Rattle.sc_model_laws.proofs.FoldedBits.{partial_told}
use Rattle.sc_model_laws.proofs.RowLaws.{from_sort, right_truth}
use Rattle.sc_model_laws.proofs.SumRows.{long_number}
use Rattle.sc_model_laws.proofs.ValLaws.{val_Long}

-- a test that fails just where another passes
opposite : (b c : Bool) → (b ≡ false → c ≡ true) → (c ≡ true → b ≡ false) → b ≡ not c
opposite true true f g = absurd (let both : true ≡ false = g refl in cc)
opposite true false f g = refl
opposite false true f g = refl
opposite false false f g = f refl

-- the place that a row's bit stands at
abbrev column : Tree → ℕ
column (one (unary.ProductRow i j) t) = j
column _ = 0

-- what is counted is counted from the first number on
counted_from : (n from i : ℕ) → Has (counted from n) i → from ≤ i
unfolding counted
counted_from zero from i h = absurd h
counted_from (suc n) from i (inl is) = omega (arith, is)
counted_from (suc n) from i (inr later) = let least : suc from ≤ i = counted_from n (suc from) i later in omega (arith, least)

counted_at : (n from i : ℕ) → from ≤ i → i < from + n → Has (counted from n) i
counted_at n from i p q =
    let same : from + (i - from) ≡ i = omega (arith, p) in
    let below : i - from < n = omega (arith, p, q) in
    subst (Has (counted from n)) same (counted_has n from (i - from) below)

abbrev carry_term : Tree → Tree → ℕ → ℕ → Tree
carry_term a b i j = one (unary.ProductCarry i j) (two binary.Multiply a b)

-- ---- definitions and values

module _ (a b : Tree) where
  row_is : (i j : ℕ) → definition (product_row a b i j) ≡ row_at a b i j
  unfolding definition
  row_is i j = refl

  carry_is : (i j : ℕ) → definition (carry_term a b i j) ≡ row_carry_at a b i j
  unfolding definition
  carry_is i j = refl

  bit_is : (i : ℕ) → definition (one (unary.Bit i) (two binary.Multiply a b)) ≡ table Itself (product_row a b 128 i ∷ [])
  unfolding definition
  bit_is i = refl

  abbrev leaving : Definition
  leaving = record { shape = NotAll; inputs = upper_bits a b }

  leaves_is : definition (two binary.MultiplyOverflows a b) ≡ leaving
  unfolding definition
  leaves_is = refl

  row_value : (i j : ℕ) (w : World) → val (product_row a b i j) w ≡ yes (row_bit (number_in (val a w)) (number_in (val b w)) i j)
  unfolding val
  row_value i j w = refl

  carry_value : (i j : ℕ) (w : World) → val (carry_term a b i j) w ≡ yes (row_carry (number_in (val a w)) (number_in (val b w)) i j)
  unfolding val
  carry_value i j w = refl

module _ (d : Declarations) (env : Env) (literals : List Uid) (goal : Tree) (addresses : AreAddresses) (terms : AreTerms d env literals goal) (m : Model) (is : IsModel d env goal m) (w : World) where
  -- ---- rows and carries by their definitions

  module _ (a b : Tree) where
    abbrev x : ℤ
    x = of_bits64 (bits_of m a)

    abbrev y : ℤ
    y = of_bits64 (bits_of m b)

    abbrev left : ℕ → Bool
    left = bit64 (of_bits64 (bits_of m a))

    abbrev right : ℕ → Bool
    right = bit64 (of_bits64 (bits_of m b))

    -- the number that bits stand for has these bits
    extended_alike : (f : ℕ → Bool) (i : ℕ) → extended f i ≡ extended (bit64 (of_bits64 f)) i
    extended_alike f i = let below : min i 63 < 64 = omega arith in sym (bit64-of_bits w64 f (min i 63) below)

    partial_is : (i j : ℕ) → Closed d env goal (partial_term a b i j) → lit m.truths (partial_term a b i j) ≡ partial left right i j
    partial_is i j c =
        (partial_told d env literals goal addresses terms m is a b i j).of_closed c
        ∙ (λ t. nat_le i j && (extended_alike (bits_of m a) (j - i) t && extended_alike (bits_of m b) i t))

    module _ (i j : ℕ) where
      carry_input : Closed d env goal (carry_term a b i (suc j)) → (t : Tree) → Has (row_inputs a b i j) t → Closed d env goal t
      carry_input c t h = input_of d env literals goal addresses terms m is (carry_term a b i (suc j)) (row_carry_at a b i (suc j)) t (carry_is a b i (suc j)) c h

      row_input : Closed d env goal (product_row a b (suc i) j) → (t : Tree) → Has (row_inputs a b i j) t → Closed d env goal t
      row_input c t h = input_of d env literals goal addresses terms m is (product_row a b (suc i) j) (row_at a b (suc i) j) t (row_is a b (suc i) j) c h

    abbrev RowIs : ℕ → Type 0
    RowIs i = (j : ℕ) → j < 128 → Closed d env goal (product_row a b i j) → lit m.truths (product_row a b i j) ≡ prow left right i j

    carries : (i : ℕ) → RowIs i → (j : ℕ) → j ≤ 128 → Closed d env goal (carry_term a b i j) → lit m.truths (carry_term a b i j) ≡ pcar left right i j
    unfolding tree_sort
    carries i row zero p c =
        by_definition d env literals goal addresses terms m is (carry_term a b i 0) (row_carry_at a b i 0) refl (carry_is a b i 0) c
        ∙ sym (carry-zero false (prow left right i) (partial left right i))
    carries i row (suc j) p c =
        let upper = row j (omega (arith, p)) (carry_input i j c (product_row a b i j) (inl refl)) in
        let part = partial_is i j (carry_input i j c (partial_term a b i j) (inr (inl refl))) in
        let before = carries i row j (omega (arith, p)) (carry_input i j c (carry_term a b i j) (inr (inr (inl refl)))) in
        by_definition d env literals goal addresses terms m is (carry_term a b i (suc j)) (row_carry_at a b i (suc j)) refl (carry_is a b i (suc j)) c
        ∙ (λ t. majority (upper t) (part t) (before t)) ∙ sym (carry-suc false (prow left right i) (partial left right i) j)

    rows : (i : ℕ) → RowIs i
    unfolding tree_sort
    rows zero j p c =
        by_definition d env literals goal addresses terms m is (product_row a b 0 j) (row_at a b 0 j) refl (row_is a b 0 j) c ∙ sym (prow-zero left right j)
    rows (suc i) j p c =
        let upper = rows i j p (row_input i j c (product_row a b i j) (inl refl)) in
        let part = partial_is i j (row_input i j c (partial_term a b i j) (inr (inl refl))) in
        let over = carries i (rows i) j (omega (arith, p)) (row_input i j c (carry_term a b i j) (inr (inr (inl refl)))) in
        by_definition d env literals goal addresses terms m is (product_row a b (suc i) j) (row_at a b (suc i) j) refl (row_is a b (suc i) j) c
        ∙ (λ t. odd (upper t) (part t) (over t)) ∙ sym (prow-suc left right i j)

    left_fits : SFits w64 x
    left_fits = fits-of_bits w64 (bits_of m a)

    right_fits : SFits w64 y
    right_fits = fits-of_bits w64 (bits_of m b)

    -- ---- products

    product_bit : (i : ℕ) → i < 64 → Closed d env goal (two binary.Multiply a b) → bits_of m (two binary.Multiply a b) i ≡ prow left right 128 i
    unfolding tree_sort bit_term
    product_bit i h c =
        let bit : Closed d env goal (one (unary.Bit i) (two binary.Multiply a b)) = long_bit d env goal (two binary.Multiply a b) i refl c h in
        by_definition d env literals goal addresses terms m is (one (unary.Bit i) (two binary.Multiply a b)) (table Itself (product_row a b 128 i ∷ [])) refl (bit_is a b i) bit
        ∙ rows 128 i (omega (arith, h))
        (input_of d env literals goal addresses terms m is (one (unary.Bit i) (two binary.Multiply a b)) (table Itself (product_row a b 128 i ∷ [])) (product_row a b 128 i) (bit_is a b i) bit (inl refl))

    product_number : Closed d env goal (two binary.Multiply a b) → of_bits64 (bits_of m (two binary.Multiply a b)) ≡ int_wrap w64 (x *ℤ y)
    product_number c =
        of_bits-same w64 (bits_of m (two binary.Multiply a b)) (prow left right 128) (λ i h. product_bit i h c) ∙ product_is left right
        ∙ (λ t. int_wrap w64 (of_bits-bit64 w64 x left_fits t *ℤ of_bits-bit64 w64 y right_fits t))

    -- ---- whether a product leaves the range

    abbrev last : ℕ → Tree
    last j = product_row a b 128 j

    -- the equation of two places of the last row doesn't fold
    last_closed : (j : ℕ) → 64 ≤ j → Closed d env goal (equal_term (product_row a b 128 63) (product_row a b 128 j)) → Closed d env goal (product_row a b 128 63) × Closed d env goal (product_row a b 128 j)
    last_closed j p c = by (equal_term (last 63) (last j)) c (equation_of (last 63) (last j) refl refl) where
      by : (z : Tree) → Closed d env goal z → Equation (last 63) (last j) z → Closed d env goal (last 63) × Closed d env goal (last j)
      by _ c (is_one h) = let same : 63 ≡ j = ap column h in absurd (omega (arith, p, same))
      by _ c (are_literals k l h i) = let both = ap literal_of h in absurd cc
      by _ c (is_straight h) = (
        of_part d env goal (two binary.Equal (last 63) (last j)) (last 63) c (inl refl),
        of_part d env goal (two binary.Equal (last 63) (last j)) (last j) c (inr (inl refl)),
      )
      by _ c (is_turned h) = (
        of_part d env goal (two binary.Equal (last j) (last 63)) (last 63) c (inr (inl refl)),
        of_part d env goal (two binary.Equal (last j) (last 63)) (last j) c (inl refl),
      )

    module _ (c : Closed d env goal (two binary.MultiplyOverflows a b)) where
      abbrev upper : ℕ → Tree
      upper j = equal_term (product_row a b 128 63) (product_row a b 128 j)

      leaves_told : lit m.truths (two binary.MultiplyOverflows a b) ≡ not (list_all (λ (u : Bool). u) (map (lit m.truths) (upper_bits a b)))
      unfolding tree_sort
      leaves_told = by_definition d env literals goal addresses terms m is (two binary.MultiplyOverflows a b) (leaving a b) refl (leaves_is a b) c

      upper_there : (j : ℕ) → 64 ≤ j → j < 128 → Has (upper_bits a b) (upper j)
      upper_there j p q = Has-map upper (counted 64 64) j (counted_at 64 64 j p (omega (arith, q)))

      upper_closed : (j : ℕ) → 64 ≤ j → j < 128 → Closed d env goal (upper j)
      upper_closed j p q = input_of d env literals goal addresses terms m is (two binary.MultiplyOverflows a b) (leaving a b) (upper j) (leaves_is a b) c (upper_there j p q)

      upper_told : (j : ℕ) → 64 ≤ j → j < 128 → lit m.truths (upper j) ≡ not (differ (prow left right 128 63) (prow left right 128 j))
      unfolding tree_sort
      upper_told j p q =
          let there = upper_closed j p q in
          let both = last_closed j p there in
          lit_equal d env literals goal addresses terms m is (last 63) (last j) refl refl there
          ∙ (λ t. not (differ (rows 128 63 (omega arith) both.0 t) (rows 128 j q both.1 t)))

      repeats : list_all (λ (u : Bool). u) (map (lit m.truths) (upper_bits a b)) ≡ true → RepeatsSign (prow left right 128)
      repeats all j p q =
          sym (alike (prow left right 128 63) (prow left right 128 j)
          (sym (upper_told j p q) ∙ all_has (λ (u : Bool). u) (map (lit m.truths) (upper_bits a b)) (lit m.truths (upper j)) all (Has-map (lit m.truths) (upper_bits a b) (upper j) (upper_there j p q))))

      all_repeat : RepeatsSign (prow left right 128) → list_all (λ (u : Bool). u) (map (lit m.truths) (upper_bits a b)) ≡ true
      all_repeat h = has_all (λ (u : Bool). u) (map (lit m.truths) (upper_bits a b)) (λ u k.
          let t = map-Has (lit m.truths) (upper_bits a b) u k in
          let j = map-Has upper (counted 64 64) t.0 t.1 in
          let least : 64 ≤ j.0 = counted_from 64 64 j.0 j.1 in
          let within : j.0 < 64 + 64 = counted_below 64 64 j.0 j.1 in
          let below : j.0 < 128 = omega (arith, within) in
          sym t.2 ∙ ap (lit m.truths) (sym j.2) ∙ upper_told j.0 least below
          ∙ alike_back (prow left right 128 63) (prow left right 128 j.0) (sym (h j.0 least below)))

      leaves_so : leaves64 (x *ℤ y) ≡ lit m.truths (two binary.MultiplyOverflows a b)
      leaves_so =
          let told = product_leaves x y left_fits right_fits in
          opposite (leaves64 (x *ℤ y)) (list_all (λ (u : Bool). u) (map (lit m.truths) (upper_bits a b))) (λ e. all_repeat (told.0 e)) (λ e. told.1 (repeats e)) ∙ sym leaves_told

  -- ---- values

  module _ (a b : Tree) (e : tree_sort a ≡ sort.Long) (f : tree_sort b ≡ sort.Long) (r : IsRight m w a) (q : IsRight m w b) where
    first_number : number_in (val a w) ≡ of_bits64 (bits_of m a)
    first_number = long_number d env literals goal addresses terms m is w a e r

    second_number : number_in (val b w) ≡ of_bits64 (bits_of m b)
    second_number = long_number d env literals goal addresses terms m is w b f q

    pub right_row : (i j : ℕ) → i ≤ 128 → j < 128 → Closed d env goal (product_row a b i j) → IsRight m w (product_row a b i j)
    unfolding tree_sort
    right_row i j p l c =
        right_truth d env literals goal addresses terms m is w (product_row a b i j) (row_bit (x a b) (y a b) i j) refl
        (row_value a b i j w ∙ (λ t. yes (row_bit (first_number t) (second_number t) i j)))
        (sym (prow-plain (x a b) (y a b) (left_fits a b) (right_fits a b) i j p l) ∙ sym (rows a b i j l c))

    pub right_product_carry : (i j : ℕ) → i < 128 → j ≤ 128 → Closed d env goal (carry_term a b i j) → IsRight m w (carry_term a b i j)
    unfolding tree_sort
    right_product_carry i j p l c =
        right_truth d env literals goal addresses terms m is w (carry_term a b i j) (row_carry (x a b) (y a b) i j) refl
        (carry_value a b i j w ∙ (λ t. yes (row_carry (first_number t) (second_number t) i j)))
        (sym (pcar-plain (x a b) (y a b) (left_fits a b) (right_fits a b) i j p l) ∙ sym (carries a b i (rows a b i) j l c))

    pub right_multiply : Closed d env goal (two binary.Multiply a b) → IsRight m w (two binary.Multiply a b)
    unfolding tree_sort
    right_multiply c =
        from_sort d env literals goal addresses terms m is w sort.Long (two binary.Multiply a b) refl
        (two_is binary.Multiply a b w ∙ (λ t. it (value.Long (int_wrap w64 (first_number t *ℤ second_number t))))
        ∙ ap (λ z. it (value.Long z)) (sym (product_number a b c)) ∙ sym (val_Long m (two binary.Multiply a b)))

    pub right_multiply_overflows : Closed d env goal (two binary.MultiplyOverflows a b) → IsRight m w (two binary.MultiplyOverflows a b)
    unfolding tree_sort
    right_multiply_overflows c =
        right_truth d env literals goal addresses terms m is w (two binary.MultiplyOverflows a b) (leaves64 (x a b *ℤ y a b)) refl
        (two_is binary.MultiplyOverflows a b w ∙ (λ t. yes (leaves64 (first_number t *ℤ second_number t)))) (leaves_so a b c)
