-- In a well-formed world of a lawful schema each truth value is what its definition makes of its inputs, and the bits of each address
-- are those of an address.
use Rattle.std.proofs.Common.{◌≡◌, ◌<◌, ◌↔◌, ◌&&◌, ℕ, ℤ, zero, suc, true, nat_le, nat_lt, List, IfSome, IsTrue, refl, sym, ◌∙◌, subst, arith}
use Rattle.sc_laws.proofs.BoolLaws.{and_first}
use Rattle.sc_names.specs.declared.uid.Uid.{Uid}
use Rattle.sc_ip.specs.declared.ip.Ip.{Ip}
use Rattle.sc_ip.specs.Addresses.{IsIp, is_in_range}
use Rattle.sc_schema.specs.declared.declarations.Env.{Env}
use Rattle.sc_schema.specs.Declarations.{Declarations}
use Rattle.sc_schema.specs.Lawful.{IsLawful}
use Rattle.sc_values.specs.declared.value.Value.{Value}
use Rattle.sc_values.specs.declared.value.Value.TheVariants as value
use Rattle.sc_world.specs.declared.world.World.{World}
use Rattle.sc_world.specs.WellFormed.{IsWellFormed}
use Rattle.sc_sorts.specs.declared.sort.Sort.{Sort, Sort-F, out-Sort}
use Rattle.sc_sorts.specs.declared.sort.Sort.TheVariants as sort
use Rattle.sc_sorts.specs.declared.sort.Sort.TheVariants.{rolls-Bool, rolls-Long, rolls-Decimal, rolls-Ip}
use Rattle.sc_sorts.specs.declared.sort.Sort.TheOpen as s
use Rattle.sc_bits.specs.Addresses.{ip_bit}
use Rattle.sc_bits.specs.Blocks.{AgreeInRange, AreBlockBits}
use Rattle.sc_sorts.specs.declared.node.Leaf.TheVariants.{Literal}
use Rattle.sc_sorts.specs.declared.node.Literal.TheVariants.{Bool as bool}
use Rattle.sc_sorts.specs.declared.node.UnaryOp.{UnaryOp}
use Rattle.sc_sorts.specs.declared.node.UnaryOp.TheVariants as unary
use Rattle.sc_sorts.specs.declared.node.BinaryOp.{BinaryOp}
use Rattle.sc_sorts.specs.declared.node.BinaryOp.TheVariants as binary
use Rattle.sc_terms.specs.Trees.{Tree, leaf, one, two, choice}
use Rattle.sc_terms.specs.TreeSorts.{tree_sort}
use Rattle.sc_terms.specs.Folds.{bit_term}
use Rattle.sc_terms.specs.Values.{yes, val, level, bit_seen, ip_in}
use Rattle.sc_term_laws.specs.Fitting.{Fits, TermsFit}
use Rattle.sc_term_laws.specs.Judging.{IsTermOf, IsTerm}
use Rattle.sc_term_laws.specs.Tests.{both_long, both_numbers, has_place, is_product, unary_test, binary_test}
use Rattle.sc_term_laws.proofs.BinaryJudged.{binary_kept}
use Rattle.sc_term_laws.proofs.TestLaws.{at_level}
use Rattle.sc_term_laws.proofs.UnaryJudged.{unary_kept}
use Rattle.sc_term_definitions.specs.Definitions.{Definition, definition, bit_over, carry_over, row_over, row_carry_over, low_at, equal_of, chosen_of, over_one, over_two}
use Rattle.sc_term_definitions.specs.Truths.{is_true, truths_of, defined, IsAsDefined}
use Rattle.sc_term_definitions.proofs.EquationLaws.{numbers_equal, addresses_equal, product_overflow, range_told}
use Rattle.sc_term_definitions.proofs.PartLaws.{long_place, longs, ips, second_alike, numbers, row_places, product_carry_places}
use Rattle.sc_term_definitions.proofs.RowLaws as row
use Rattle.sc_term_definitions.proofs.TruthLaws.{true_told, both_told, either_told, chosen_told, same_told}
use Rattle.sc_term_definitions.proofs.ValueLaws.{IsNumber, IsAddress, truth_is, long_is, decimal_is, address_is, number_is}

abbrev pub RangesTold : Type 0
RangesTold = (p q : Ip) → IsIp p → IsIp q → IsTrue (is_in_range p q) ↔ AgreeInRange (ip_bit p) (ip_bit q)

abbrev pub BitsTell : Type 0
BitsTell = (p q : Ip) → IsIp p → IsIp q → ((k : ℕ) → k < 257 → ip_bit p k ≡ ip_bit q k) → p ≡ q

abbrev pub BitsAreOfAddresses : Type 0
BitsAreOfAddresses = (p : Ip) → IsIp p → AreBlockBits (ip_bit p)

module _ (fit : TermsFit) (range : RangesTold) (only : BitsTell) (d : Declarations) (env : Env) (written : List Uid) (w : World) (lawful : IsLawful d) (well : IsWellFormed d env written w) where
  abbrev Is : Sort → Tree → Type 0
  Is k t = IsTermOf d env written k t

  abbrev Term : Tree → Type 0
  Term t = IsTerm d env written t

  fitting : (k : Sort) (t : Tree) → Is k t → Fits d w.store k (val t w)
  fitting k t h = fit d env written w k t lawful well h

  abbrev AsSaid : Definition → Tree → Type 0
  AsSaid q x = IfSome (defined q.shape (truths_of q.inputs w)) (λ b. is_true x w ≡ b)

  -- ---- what parts are in the world

  truth : (t : Tree) → Is sort.Bool t → val t w ≡ yes (is_true t w)
  truth t h = truth_is d w.store (val t w) (fitting sort.Bool t h)

  long : (t : Tree) → Is sort.Long t → IsNumber value.Long (val t w)
  long t h = long_is d w.store (val t w) (fitting sort.Long t h)

  address : (t : Tree) → Is sort.Ip t → IsAddress (val t w)
  address t h = address_is d w.store (val t w) (fitting sort.Ip t h)

  abbrev AreLong : Tree → Tree → Type 0
  AreLong a b = IsNumber value.Long (val a w) × IsNumber value.Long (val b w)

  long_parts : (a b : Tree) → Term a → Term b → both_long (tree_sort a) (tree_sort b) ≡ true → AreLong a b
  long_parts a b g h t = let p = longs d env written a b g h t in (long a p.0, long b p.1)

  -- the parts of a sum, a difference or a product
  sum_parts : (a b : Tree) → Term (two binary.Add a b) → AreLong a b
  sum_parts a b h = let p = binary_kept d env written (tree_sort (two binary.Add a b)) binary.Add a b h in long_parts a b p.0 p.1 p.2

  difference_parts : (a b : Tree) → Term (two binary.Subtract a b) → AreLong a b
  difference_parts a b h = let p = binary_kept d env written (tree_sort (two binary.Subtract a b)) binary.Subtract a b h in long_parts a b p.0 p.1 p.2

  product_parts : (a b : Tree) → Term (two binary.Multiply a b) → AreLong a b
  product_parts a b h = let p = binary_kept d env written (tree_sort (two binary.Multiply a b)) binary.Multiply a b h in long_parts a b p.0 p.1 p.2

  -- ---- operators on one term

  bit_said : (i : ℕ) (t : Tree) → Term t → has_place (tree_sort t) i ≡ true → AsSaid (bit_over i t) (one (unary.Bit i) t)
  unfolding tree_sort
  bit_said i (two binary.Add a b) h e = let p = sum_parts a b h in row.sum_bit w a b value.Long value.Long p.0 p.1 i (long_place i e)
  bit_said i (two binary.Subtract a b) h e = let p = difference_parts a b h in row.difference_bit w a b value.Long value.Long p.0 p.1 i (long_place i e)
  bit_said i (two binary.Multiply a b) h e = let p = product_parts a b h in row.product_bit w a b value.Long value.Long p.0 p.1 i (long_place i e)
  bit_said i _ h e = tt

  carry_said : (i : ℕ) (t : Tree) → Term t → AsSaid (carry_over i t) (one (unary.CarryIn i) t)
  carry_said zero (two binary.Add a b) h = let p = sum_parts a b h in row.sum_carry_first w a b value.Long value.Long p.0 p.1
  carry_said (suc i) (two binary.Add a b) h = let p = sum_parts a b h in row.sum_carry_next w a b value.Long value.Long p.0 p.1 i
  carry_said zero (two binary.Subtract a b) h = let p = difference_parts a b h in row.difference_carry_first w a b value.Long value.Long p.0 p.1
  carry_said (suc i) (two binary.Subtract a b) h = let p = difference_parts a b h in row.difference_carry_next w a b value.Long value.Long p.0 p.1 i
  carry_said i _ h = tt

  row_said : (i j : ℕ) (t : Tree) → Term t → (is_product t && (nat_le i 128 && nat_lt j 128)) ≡ true → AsSaid (row_over i j t) (one (unary.ProductRow i j) t)
  row_said zero j (two binary.Multiply a b) h e = let p = product_parts a b h in row.row_first w a b value.Long value.Long p.0 p.1 j (row_places true 0 j e).1
  row_said (suc i) j (two binary.Multiply a b) h e =
      let p = product_parts a b h in
      let places = row_places true (suc i) j e in
      row.row_next w a b value.Long value.Long p.0 p.1 i j (omega (arith, places.0)) places.1
  row_said i j _ h e = tt

  product_carry_said : (i j : ℕ) (t : Tree) → Term t → (is_product t && (nat_lt i 128 && nat_le j 128)) ≡ true → AsSaid (row_carry_over i j t) (one (unary.ProductCarry i j) t)
  product_carry_said i zero (two binary.Multiply a b) h e =
      let p = product_parts a b h in row.product_carry_first w a b value.Long value.Long p.0 p.1 i (product_carry_places true i 0 e).0
  product_carry_said i (suc j) (two binary.Multiply a b) h e =
      let p = product_parts a b h in
      let places = product_carry_places true i (suc j) e in
      row.product_carry_next w a b value.Long value.Long p.0 p.1 i j places.0 (omega (arith, places.1))
  product_carry_said i j _ h e = tt

  one_said : (u : UnaryOp) (t : Tree) → Term t → unary_test d u (tree_sort t) t ≡ true → AsSaid (over_one u t) (one u t)
  one_said (unary.Bit i) t h e = bit_said i t h (and_first _ _ e)
  one_said (unary.CarryIn i) t h e = carry_said i t h
  one_said (unary.ProductRow i j) t h e = row_said i j t h e
  one_said (unary.ProductCarry i j) t h e = product_carry_said i j t h e
  one_said _ t h e = tt

  -- ---- equations

  equal_said : (a b : Tree) → Term a → Is (tree_sort a) b → (k : Sort-F Sort) → out-Sort (tree_sort a) ≡ k → AsSaid (equal_of k a b) (two binary.Equal a b)
  equal_said a b g h s.Bool e =
      let bool : tree_sort a ≡ sort.Bool = at_level (tree_sort a) s.Bool e ∙ rolls-Bool in
      same_told w a b (truth a (subst (λ (k : Sort). Is k a) bool g)) (truth b (subst (λ (k : Sort). Is k b) bool h))
  equal_said a b g h s.Long e =
      let is : tree_sort a ≡ sort.Long = at_level (tree_sort a) s.Long e ∙ rolls-Long in
      numbers_equal w value.Long a b (long a (subst (λ (k : Sort). Is k a) is g)) (long b (subst (λ (k : Sort). Is k b) is h))
  equal_said a b g h s.Decimal e =
      let is : tree_sort a ≡ sort.Decimal = at_level (tree_sort a) s.Decimal e ∙ rolls-Decimal in
      let decimal = λ (t : Tree) (k : Is sort.Decimal t). decimal_is d w.store (val t w) (fitting sort.Decimal t k) in
      numbers_equal w value.Decimal a b (decimal a (subst (λ (k : Sort). Is k a) is g)) (decimal b (subst (λ (k : Sort). Is k b) is h))
  equal_said a b g h s.Ip e =
      let is : tree_sort a ≡ sort.Ip = at_level (tree_sort a) s.Ip e ∙ rolls-Ip in
      addresses_equal w only a b (address a (subst (λ (k : Sort). Is k a) is g)) (address b (subst (λ (k : Sort). Is k b) is h))
  equal_said a b g h _ e = tt

  -- ---- operators on two terms

  -- two numbers of one sort
  number_parts : (a b : Tree) → Term a → Term b → both_numbers (tree_sort a) (tree_sort b) ≡ true → (m : ℤ → Value) × (n : ℤ → Value) × IsNumber m (val a w) × IsNumber n (val b w)
  number_parts a b g h e =
      let kinds = numbers d env written a b g h e in
      let first = number_is d w.store (tree_sort a) (val a w) kinds.0 (fitting (tree_sort a) a kinds.1) in
      let second = number_is d w.store (tree_sort a) (val b w) kinds.0 (fitting (tree_sort a) b kinds.2) in
      (first.0, second.0, first.1, second.1)

  low_said : (i : ℕ) (a b : Tree) (m n : ℤ → Value) → IsNumber m (val a w) → IsNumber n (val b w) → AsSaid (low_at a b i) (two (binary.Low i) a b)
  low_said zero a b m n g h = row.low_first w a b m n g h
  low_said (suc i) a b m n g h = row.low_next w a b m n g h i

  two_said : (o : BinaryOp) (a b : Tree) → Term a → Term b → binary_test d o (tree_sort a) (tree_sort b) a b ≡ true → AsSaid (over_two o a b) (two o a b)
  two_said binary.And a b g h e = both_told w a b
  two_said binary.Or a b g h e = either_told w a b
  two_said binary.Equal a b g h e = equal_said a b g (second_alike d env written a b g h (and_first _ _ e)) (out-Sort (tree_sort a)) refl
  two_said binary.AddOverflows a b g h e = let p = long_parts a b g h e in row.sum_overflow w a b value.Long value.Long p.0 p.1
  two_said binary.SubtractOverflows a b g h e = let p = long_parts a b g h e in row.difference_overflow w a b value.Long value.Long p.0 p.1
  two_said binary.MultiplyOverflows a b g h e = let p = long_parts a b g h e in product_overflow w a b value.Long value.Long p.0 p.1
  two_said binary.Less a b g h e = let p = number_parts a b g h e in row.less_told w a b p.0 p.1 p.2 p.3
  two_said binary.InRange a b g h e = let p = ips d env written a b g h e in range_told w range a b (address a p.0) (address b p.1)
  two_said (binary.Low i) a b g h e = let p = number_parts a b g h (and_first _ _ e) in low_said i a b p.0 p.1 p.2 p.3
  two_said _ a b g h e = tt

  -- ---- choices, and all terms

  chosen_said : (c a b : Tree) (k : Sort-F Sort) → AsSaid (chosen_of k c a b) (choice c a b)
  chosen_said c a b s.Bool = chosen_told w c a b
  chosen_said c a b _ = tt

  pub said : (k : Sort) (x : Tree) → Is k x → IsAsDefined x w
  unfolding definition
  said k (leaf (Literal (bool true))) h = true_told w
  said k (one u t) h = let p = unary_kept d env written k u t h in one_said u t p.0 p.1
  said k (two o a b) h = let p = binary_kept d env written k o a b h in two_said o a b p.0 p.1 p.2
  said k (choice c a b) h = chosen_said c a b (out-Sort (tree_sort a))
  said k _ h = tt

  pub addressed : BitsAreOfAddresses → (x : Tree) → Is sort.Ip x → AreBlockBits (λ i. is_true (bit_term x i) w)
  addressed bits x h =
      let is = address x h in
      let told : (λ (i : ℕ). is_true (bit_term x i) w) ≡ bit_seen (level (val x w)) = λ k i. row.bit_told w x i k in
      subst AreBlockBits (sym (told ∙ is.bits)) (bits (ip_in (val x w)) is.is)
