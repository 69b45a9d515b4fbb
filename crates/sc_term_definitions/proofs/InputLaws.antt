-- The inputs of every truth value are truth values.
use Rattle.std.proofs.Common.{◌≡◌, ◌<◌, ◌≤◌, ◌+◌, ◌-◌, ◌&&◌, ℕ, zero, suc, min, Bool, true, false, nat_le, nat_lt, cond, List, [], ◌∷◌, map, Contains, refl, ◌∙◌, subst, arith}
use Rattle.std.specs.List.{AllByRecursion}
use Rattle.sc_laws.proofs.BoolLaws.{and_first, and_second}
use Rattle.sc_lists.proofs.ListLaws.{all_element}
use Rattle.sc_names.specs.declared.uid.Uid.{Uid}
use Rattle.sc_schema.specs.declared.declarations.Env.{Env}
use Rattle.sc_schema.specs.Declarations.{Declarations}
use Rattle.sc_sorts.specs.declared.sort.Sort.{Sort, Sort-F, out-Sort}
use Rattle.sc_sorts.specs.declared.sort.Sort.TheVariants as sort
use Rattle.sc_sorts.specs.declared.sort.Sort.TheVariants.{rolls-Bool, rolls-Long, rolls-Decimal, rolls-Ip}
use Rattle.sc_sorts.specs.declared.sort.Sort.TheOpen as s
use Rattle.sc_sorts.specs.declared.node.Leaf.{Leaf}
use Rattle.sc_sorts.specs.declared.node.Leaf.TheVariants.{Literal}
use Rattle.sc_sorts.specs.declared.node.Literal.TheVariants.{Bool as bool}
use Rattle.sc_sorts.specs.declared.node.UnaryOp.{UnaryOp}
use Rattle.sc_sorts.specs.declared.node.UnaryOp.TheVariants as unary
use Rattle.sc_sorts.specs.declared.node.BinaryOp.{BinaryOp}
use Rattle.sc_sorts.specs.declared.node.BinaryOp.TheVariants as binary
use Rattle.sc_terms.specs.Trees.{Tree, leaf, one, two, choice, many}
use Rattle.sc_terms.specs.TreeSorts.{tree_sort}
use Rattle.sc_terms.specs.Folds.{truth_term, and_term, bit_term, equal_term}
use Rattle.sc_term_laws.specs.Judging.{IsTermOf, IsTerm, IsSum, HasPlace, IsNumberSort, long, decimal, of_long, of_decimal, of_ip}
use Rattle.sc_term_laws.specs.Judging as judged
use Rattle.sc_term_laws.specs.Tests.{both_numbers, has_place, is_sum, is_product, unary_test, binary_test}
use Rattle.sc_term_laws.proofs.BinaryJudged.{binary_kept, choice_kept}
use Rattle.sc_term_laws.proofs.MadeLaws.{not_made, and_made, or_made, equal_made, bit_made}
use Rattle.sc_term_laws.proofs.TestLaws.{at_level, bool_sort}
use Rattle.sc_term_laws.proofs.UnaryJudged.{unary_kept}
use Rattle.sc_term_definitions.specs.Definitions.{counted, definition, inputs_of, bit_over, carry_over, row_over, row_carry_over, product_row, row_inputs, place_agrees, range_inputs, upper_bits, low_at, equal_of, chosen_of, over_leaf, over_one, over_two}
use Rattle.sc_term_definitions.proofs.PartLaws.{long_place, longs, bools, ips, second_alike, numbers, carry_place, row_places, product_carry_places}

module _ (d : Declarations) (env : Env) (written : List Uid) where
  abbrev Is : Sort → Tree → Type 0
  Is k t = IsTermOf d env written k t

  abbrev Term : Tree → Type 0
  Term t = IsTerm d env written t

  abbrev AreTruths : List Tree → Type 0
  AreTruths = AllByRecursion (Is sort.Bool)

  -- ---- terms that definitions name

  counted_truths : (f : ℕ → Tree) (from n : ℕ) → ((i : ℕ) → from ≤ i → i < from + n → Is sort.Bool (f i)) → AreTruths (map f (counted from n))
  unfolding counted
  counted_truths f from zero each = tt
  counted_truths f from (suc n) each = (each from (omega arith) (omega arith), counted_truths f (suc from) n (λ i p q. each i (omega (arith, p)) (omega (arith, q))))

  bit : (k : Sort) (i : ℕ) (a : Tree) → HasPlace k i → Is k a → Is sort.Bool (bit_term a i)
  bit k i a p h = bit_made d env written k i a p h

  same_bits : (k : Sort) (i : ℕ) (a b : Tree) → HasPlace k i → Is k a → Is k b → Is sort.Bool (equal_term (bit_term a i) (bit_term b i))
  same_bits k i a b p g h = equal_made d env written sort.Bool (bit_term a i) (bit_term b i) (bit k i a p g) (bit k i b p h)

  long_bit : (i : ℕ) (a : Tree) → i < 64 → Is sort.Long a → Is sort.Bool (bit_term a i)
  long_bit i a l h = bit sort.Long i a (of_long l) h

  product_of : (a b : Tree) → Is sort.Long a → Is sort.Long b → Is sort.Long (two binary.Multiply a b)
  product_of a b g h = judged.of_arithmetic binary.Multiply a b judged.multiplication g h

  row : (i j : ℕ) (a b : Tree) → i ≤ 128 → j < 128 → Is sort.Long a → Is sort.Long b → Is sort.Bool (product_row a b i j)
  row i j a b p q g h = judged.of_row i j a b p q (product_of a b g h)

  capped : (i : ℕ) → min i 63 < 64
  capped i = omega arith

  partial : (c : Bool) (i j : ℕ) (a b : Tree) → Is sort.Long a → Is sort.Long b → Is sort.Bool (cond c (and_term (bit_term a (min i 63)) (bit_term b (min j 63))) (truth_term false))
  partial true i j a b g h = and_made d env written (bit_term a (min i 63)) (bit_term b (min j 63)) (long_bit (min i 63) a (capped i) g) (long_bit (min j 63) b (capped j) h)
  partial false i j a b g h = judged.of_truth false

  row_truths : (i j : ℕ) (a b : Tree) → i < 128 → j < 128 → Is sort.Long a → Is sort.Long b → AreTruths (row_inputs a b i j)
  row_truths i j a b p q g h = (
    row i j a b (omega (arith, p)) q g h,
    (partial (nat_le i j) (j - i) i a b g h, (judged.of_product_carry i j a b p (omega (arith, q)) (product_of a b g h), tt)),
  )

  number_bit : (k : Sort) (i : ℕ) (a : Tree) → IsNumberSort k → i < 64 → Is k a → Is sort.Bool (bit_term a i)
  number_bit _ i a long l h = bit sort.Long i a (of_long l) h
  number_bit _ i a decimal l h = bit sort.Decimal i a (of_decimal l) h

  agrees : (j : ℕ) (a b : Tree) → j < 128 → Is sort.Ip a → Is sort.Ip b → Is sort.Bool (place_agrees a b j)
  agrees j a b l g h =
      let mask : 1 + j < 257 = omega (arith, l) in
      let place : 129 + j < 257 = omega (arith, l) in
      let alike = same_bits sort.Ip (129 + j) a b (of_ip place) g h in
      or_made d env written _ _ (not_made d env written _ (bit sort.Ip (1 + j) b (of_ip mask) h)) (and_made d env written _ _ (bit sort.Ip (1 + j) a (of_ip mask) g) alike)

  range_truths : (a b : Tree) → Is sort.Ip a → Is sort.Ip b → AreTruths (range_inputs a b)
  range_truths a b g h =
      (same_bits sort.Ip 0 a b (of_ip (omega arith)) g h, counted_truths (place_agrees a b) 0 128 (λ j p q. agrees j a b (omega (arith, q)) g h))

  upper_truths : (a b : Tree) → Is sort.Long a → Is sort.Long b → AreTruths (upper_bits a b)
  upper_truths a b g h =
      counted_truths (λ (j : ℕ). equal_term (product_row a b 128 63) (product_row a b 128 j)) 64 64
      (λ j p q. equal_made d env written sort.Bool _ _ (row 128 63 a b (omega arith) (omega arith) g h) (row 128 j a b (omega arith) (omega (arith, q)) g h))

  -- ---- by operator

  sum_truths : (o : BinaryOp) (i : ℕ) (a b : Tree) → IsSum o → i < 64 → Is sort.Long a → Is sort.Long b → AreTruths (bit_term a i ∷ bit_term b i ∷ one (unary.CarryIn i) (two o a b) ∷ [])
  sum_truths o i a b k l g h =
      (long_bit i a l g, (long_bit i b l h, (judged.of_carry o i a b k (omega (arith, l)) (judged.of_arithmetic o a b (judged.of_sum o k) g h), tt)))

  parts : (o : BinaryOp) (a b : Tree) → Term (two o a b) → Term a × Term b × (binary_test d o (tree_sort a) (tree_sort b) a b ≡ true)
  parts o a b h = binary_kept d env written (tree_sort (two o a b)) o a b h

  bit_truths : (i : ℕ) (t : Tree) → Term t → has_place (tree_sort t) i ≡ true → AreTruths ((bit_over i t).inputs)
  unfolding tree_sort
  bit_truths i (two binary.Add a b) h e =
      let p = parts binary.Add a b h in let q = longs d env written a b p.0 p.1 p.2 in sum_truths binary.Add i a b judged.addition (long_place i e) q.0 q.1
  bit_truths i (two binary.Subtract a b) h e =
      let p = parts binary.Subtract a b h in let q = longs d env written a b p.0 p.1 p.2 in sum_truths binary.Subtract i a b judged.subtraction (long_place i e) q.0 q.1
  bit_truths i (two binary.Multiply a b) h e =
      let p = parts binary.Multiply a b h in
      let q = longs d env written a b p.0 p.1 p.2 in
      let place : i < 64 = long_place i e in
      (row 128 i a b (omega arith) (omega (arith, place)) q.0 q.1, tt)
  bit_truths i _ h e = tt

  carry_truths : (i : ℕ) (t : Tree) → Term t → (is_sum t && nat_le i 64) ≡ true → AreTruths ((carry_over i t).inputs)
  carry_truths zero (two binary.Add a b) h e = tt
  carry_truths (suc i) (two binary.Add a b) h e =
      let p = parts binary.Add a b h in
      let q = longs d env written a b p.0 p.1 p.2 in
      let place : suc i ≤ 64 = carry_place true (suc i) e in
      sum_truths binary.Add i a b judged.addition (omega (arith, place)) q.0 q.1
  carry_truths zero (two binary.Subtract a b) h e = tt
  carry_truths (suc i) (two binary.Subtract a b) h e =
      let p = parts binary.Subtract a b h in
      let q = longs d env written a b p.0 p.1 p.2 in
      let place : suc i ≤ 64 = carry_place true (suc i) e in
      sum_truths binary.Subtract i a b judged.subtraction (omega (arith, place)) q.0 q.1
  carry_truths i _ h e = tt

  row_over_truths : (i j : ℕ) (t : Tree) → Term t → (is_product t && (nat_le i 128 && nat_lt j 128)) ≡ true → AreTruths ((row_over i j t).inputs)
  row_over_truths zero j (two binary.Multiply a b) h e = tt
  row_over_truths (suc i) j (two binary.Multiply a b) h e =
      let p = parts binary.Multiply a b h in
      let q = longs d env written a b p.0 p.1 p.2 in
      let places = row_places true (suc i) j e in
      row_truths i j a b (omega (arith, places.0)) places.1 q.0 q.1
  row_over_truths i j _ h e = tt

  row_carry_truths : (i j : ℕ) (t : Tree) → Term t → (is_product t && (nat_lt i 128 && nat_le j 128)) ≡ true → AreTruths ((row_carry_over i j t).inputs)
  row_carry_truths i zero (two binary.Multiply a b) h e = tt
  row_carry_truths i (suc j) (two binary.Multiply a b) h e =
      let p = parts binary.Multiply a b h in
      let q = longs d env written a b p.0 p.1 p.2 in
      let places = product_carry_places true i (suc j) e in
      row_truths i j a b places.0 (omega (arith, places.1)) q.0 q.1
  row_carry_truths i j _ h e = tt

  one_truths : (u : UnaryOp) (t : Tree) → Term t → unary_test d u (tree_sort t) t ≡ true → AreTruths ((over_one u t).inputs)
  one_truths (unary.Bit i) t h e = bit_truths i t h (and_first _ _ e)
  one_truths (unary.CarryIn i) t h e = carry_truths i t h e
  one_truths (unary.ProductRow i j) t h e = row_over_truths i j t h e
  one_truths (unary.ProductCarry i j) t h e = row_carry_truths i j t h e
  one_truths _ t h e = tt

  -- of two terms of a sort
  equal_truths : (a b : Tree) → Term a → Is (tree_sort a) b → (k : Sort-F Sort) → out-Sort (tree_sort a) ≡ k → AreTruths ((equal_of k a b).inputs)
  equal_truths a b g h s.Bool e =
      let same : tree_sort a ≡ sort.Bool = at_level (tree_sort a) s.Bool e ∙ rolls-Bool in
      (subst (λ (k : Sort). Is k a) same g, (subst (λ (k : Sort). Is k b) same h, tt))
  equal_truths a b g h s.Long e =
      let same : tree_sort a ≡ sort.Long = at_level (tree_sort a) s.Long e ∙ rolls-Long in
      counted_truths (λ (i : ℕ). equal_term (bit_term a i) (bit_term b i)) 0 64
      (λ i p q. same_bits sort.Long i a b (of_long (omega (arith, q))) (subst (λ (k : Sort). Is k a) same g) (subst (λ (k : Sort). Is k b) same h))
  equal_truths a b g h s.Decimal e =
      let same : tree_sort a ≡ sort.Decimal = at_level (tree_sort a) s.Decimal e ∙ rolls-Decimal in
      counted_truths (λ (i : ℕ). equal_term (bit_term a i) (bit_term b i)) 0 64
      (λ i p q. same_bits sort.Decimal i a b (of_decimal (omega (arith, q))) (subst (λ (k : Sort). Is k a) same g) (subst (λ (k : Sort). Is k b) same h))
  equal_truths a b g h s.Ip e =
      let same : tree_sort a ≡ sort.Ip = at_level (tree_sort a) s.Ip e ∙ rolls-Ip in
      counted_truths (λ (i : ℕ). equal_term (bit_term a i) (bit_term b i)) 0 257
      (λ i p q. same_bits sort.Ip i a b (of_ip (omega (arith, q))) (subst (λ (k : Sort). Is k a) same g) (subst (λ (k : Sort). Is k b) same h))
  equal_truths a b g h _ e = tt

  low_truths : (i : ℕ) (a b : Tree) (k : Sort) → IsNumberSort k → i ≤ 64 → Is k a → Is k b → AreTruths ((low_at a b i).inputs)
  low_truths zero a b k n l g h = tt
  low_truths (suc i) a b k n l g h =
      (number_bit k i a n (omega (arith, l)) g, (number_bit k i b n (omega (arith, l)) h, (judged.of_low k i a b n (omega (arith, l)) g h, tt)))

  less_truths : (a b : Tree) (k : Sort) → IsNumberSort k → Is k a → Is k b → AreTruths ((over_two binary.Less a b).inputs)
  less_truths a b k n g h = (number_bit k 63 a n (omega arith) g, (number_bit k 63 b n (omega arith) h, (judged.of_low k 63 a b n (omega arith) g h, tt)))

  sign_truths : (o : BinaryOp) (a b : Tree) → IsSum o → Is sort.Long a → Is sort.Long b → AreTruths (bit_term a 63 ∷ bit_term b 63 ∷ bit_term (two o a b) 63 ∷ [])
  sign_truths o a b k g h =
      (long_bit 63 a (omega arith) g, (long_bit 63 b (omega arith) h, (long_bit 63 (two o a b) (omega arith) (judged.of_arithmetic o a b (judged.of_sum o k) g h), tt)))

  two_truths : (o : BinaryOp) (a b : Tree) → Term a → Term b → binary_test d o (tree_sort a) (tree_sort b) a b ≡ true → AreTruths ((over_two o a b).inputs)
  two_truths binary.And a b g h e = let p = bools d env written a b g h (and_first _ _ e) in (p.0, (p.1, tt))
  two_truths binary.Or a b g h e = let p = bools d env written a b g h (and_first _ _ e) in (p.0, (p.1, tt))
  two_truths binary.Equal a b g h e = equal_truths a b g (second_alike d env written a b g h (and_first _ _ e)) (out-Sort (tree_sort a)) refl
  two_truths binary.AddOverflows a b g h e = let p = longs d env written a b g h e in sign_truths binary.Add a b judged.addition p.0 p.1
  two_truths binary.SubtractOverflows a b g h e = let p = longs d env written a b g h e in sign_truths binary.Subtract a b judged.subtraction p.0 p.1
  two_truths binary.MultiplyOverflows a b g h e = let p = longs d env written a b g h e in upper_truths a b p.0 p.1
  two_truths binary.Less a b g h e = let p = numbers d env written a b g h e in less_truths a b (tree_sort a) p.0 p.1 p.2
  two_truths binary.InRange a b g h e = let p = ips d env written a b g h e in range_truths a b p.0 p.1
  two_truths (binary.Low i) a b g h e =
      let p = numbers d env written a b g h (and_first _ _ e) in low_truths i a b (tree_sort a) p.0 (carry_place (both_numbers (tree_sort a) (tree_sort b)) i e) p.1 p.2
  two_truths _ a b g h e = tt

  -- of a condition and two terms of a sort
  chosen_truths : (c a b : Tree) → Is sort.Bool c → Term a → Is (tree_sort a) b → (k : Sort-F Sort) → out-Sort (tree_sort a) ≡ k → AreTruths ((chosen_of k c a b).inputs)
  chosen_truths c a b f g h s.Bool e =
      let same : tree_sort a ≡ sort.Bool = at_level (tree_sort a) s.Bool e ∙ rolls-Bool in
      (f, (subst (λ (k : Sort). Is k a) same g, (subst (λ (k : Sort). Is k b) same h, tt)))
  chosen_truths c a b f g h _ e = tt

  -- ---- all terms

  leaf_truths : (l : Leaf) → AreTruths ((over_leaf l).inputs)
  leaf_truths (Literal (bool true)) = tt
  leaf_truths _ = tt

  pub truths : (k : Sort) (x : Tree) → Is k x → AreTruths (inputs_of x)
  unfolding definition
  truths k (leaf l) h = leaf_truths l
  truths k (one u t) h = let p = unary_kept d env written k u t h in one_truths u t p.0 p.1
  truths k (two o a b) h = let p = binary_kept d env written k o a b h in two_truths o a b p.0 p.1 p.2
  truths k (choice c a b) h =
      let p = choice_kept d env written k c a b h in
      let condition = subst (λ (z : Sort). Is z c) (bool_sort (tree_sort c) (and_first _ _ p.3)) p.0 in
      chosen_truths c a b condition p.1 (second_alike d env written a b p.1 p.2 (and_first _ _ (and_second _ _ p.3))) (out-Sort (tree_sort a)) refl
  truths k (many o ts) h = tt

  pub input_is : (x t : Tree) → Is sort.Bool x → Contains (inputs_of x) t → Is sort.Bool t
  input_is x t h has = all_element (Is sort.Bool) (inputs_of x) t (truths sort.Bool x h) has
