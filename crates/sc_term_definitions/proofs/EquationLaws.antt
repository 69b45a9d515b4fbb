-- Equations by bits, products that leave 64 bits, and ranges: each is true where all of many equations are.
use Rattle.std.proofs.Common.{◌≡◌, ◌<◌, ◌≤◌, ◌+◌, ◌↔◌, ◌&&◌, ◌||◌, ℕ, zero, suc, Bool, true, false, not, List, map, None, IsTrue, ⊎_elim, eq-or-lt_of_le, refl, sym, ap, ◌∙◌, subst, arith}
use Rattle.std.specs.List.{list_all}
use Rattle.std.specs.Prelude.{ℤ, ◌*ℤ◌}
use Rattle.std.specs.Cmp.Derive.{both_true}
use Rattle.sc_laws.proofs.BoolLaws.{and_first, and_second, same_truth}
use Rattle.sc_ip.specs.declared.ip.Ip.{Ip}
use Rattle.sc_ip.specs.Addresses.{IsIp, is_in_range}
use Rattle.sc_bits.specs.Adders.{differ, leaves64}
use Rattle.sc_bits.specs.Bits.{bit64}
use Rattle.sc_bits.specs.Addresses.{ip_bit}
use Rattle.sc_bits.specs.Blocks.{AgreeInRange, agrees_at}
use Rattle.sc_bits.specs.Plain.{row_bit}
use Rattle.sc_bits.specs.Products.{prow, RepeatsSign}
use Rattle.sc_bits.proofs.IntegerLaws.{same_from_bits}
use Rattle.sc_bits.proofs.PlainLaws.{prow-plain}
use Rattle.sc_bits.proofs.ProductLaws.{product_leaves}
use Rattle.std.specs.Int.{w64}
use Rattle.sc_values.specs.declared.value.Value.{Value}
use Rattle.sc_values.specs.declared.value.Value.TheVariants as value
use Rattle.sc_world.specs.declared.world.World.{World}
use Rattle.sc_sorts.specs.declared.node.BinaryOp.TheVariants as binary
use Rattle.sc_terms.specs.Trees.{Tree, two}
use Rattle.sc_terms.specs.Folds.{not_term, and_term, equal_term, bit_term}
use Rattle.sc_terms.specs.Values.{Val, it, yes, val, truth, seen, level, number_in, ip_in, bit_seen, val_eq, not_value, equal_value}
use Rattle.sc_terms.proofs.EqualValues.{val_eq-same, equal_is, equal_others, val_eq-exact}
use Rattle.sc_terms.proofs.FoldValues.{truth_yes, seen_yes, not_yes, not_is, and_is, and_truth, or_is, or_truth}
use Rattle.sc_term_definitions.specs.Definitions.{counted, equal_bits, product_row, upper_bits, place_agrees, range_inputs}
use Rattle.sc_term_definitions.specs.Truths.{is_true, truths_of}
use Rattle.sc_term_definitions.proofs.ValueLaws.{IsNumber, IsAddress}
use Rattle.sc_term_definitions.proofs.RowLaws.{bit_value, bit_told, row_value}

-- ---- truth values and values that are one

pub alike : (b c : Bool) → not (differ b c) ≡ true → b ≡ c
alike true true h = refl
alike true false h = absurd cc
alike false true h = absurd cc
alike false false h = refl

pub alike_back : (b c : Bool) → b ≡ c → not (differ b c) ≡ true
alike_back true true h = refl
alike_back true false h = absurd cc
alike_back false true h = absurd cc
alike_back false false h = refl

pub same_of : (b c : Bool) → truth (equal_value (yes b) (yes c)) ≡ not (differ b c)
unfolding equal_value
same_of true true = rw (seen_yes true) (truth_yes true)
same_of true false = rw (seen_yes true) (truth_yes false)
same_of false true = rw (seen_yes false) (ap truth (not_yes true) ∙ truth_yes false)
same_of false false = rw (seen_yes false) (ap truth (not_yes false) ∙ truth_yes true)

opposite : {P : Type 0} (b c : Bool) → ((b ≡ false) ↔ P) → ((c ≡ true) ↔ P) → b ≡ not c
opposite true true p q = p.1 (q.0 refl)
opposite true false p q = refl
opposite false true p q = refl
opposite false false p q = q.1 (p.0 refl)

module _ (w : World) where
  abbrev all_true : List Tree → Bool
  all_true ts = list_all (λ u. u) (truths_of ts w)

  -- ---- all of many, counted

  all_told : (f : ℕ → Tree) (from n : ℕ) → all_true (map f (counted from n)) ≡ true → (i : ℕ) → from ≤ i → i < from + n → is_true (f i) w ≡ true
  unfolding counted
  all_told f from zero h i p q = absurd (omega (arith, p, q))
  all_told f from (suc n) h i p q =
      ⊎_elim (λ (e : from ≡ i). subst (λ (k : ℕ). is_true (f k) w ≡ true) e (and_first _ _ h))
      (λ (l : from < i). all_told f (suc from) n (and_second (is_true (f from) w) _ h) i (omega (arith, l)) (omega (arith, q))) (eq-or-lt_of_le p)

  told_all : (f : ℕ → Tree) (from n : ℕ) → ((i : ℕ) → from ≤ i → i < from + n → is_true (f i) w ≡ true) → all_true (map f (counted from n)) ≡ true
  unfolding counted
  told_all f from zero each = refl
  told_all f from (suc n) each = both_true (each from (omega arith) (omega arith)) (told_all f (suc from) n (λ i p q. each i (omega (arith, p)) (omega (arith, q))))

  -- ---- equations

  pub equal_told : (p q : Tree) (b c : Bool) → val p w ≡ yes b → val q w ≡ yes c → is_true (equal_term p q) w ≡ not (differ b c)
  equal_told p q b c e f = ap truth (equal_is p q w ∙ (λ i. equal_value (e i) (f i))) ∙ same_of b c

  bits_equal : (a b : Tree) (i : ℕ) → is_true (equal_term (bit_term a i) (bit_term b i)) w ≡ not (differ (bit_seen (level (val a w)) i) (bit_seen (level (val b w)) i))
  bits_equal a b i = equal_told (bit_term a i) (bit_term b i) (bit_seen (level (val a w)) i) (bit_seen (level (val b w)) i) (bit_value w a i) (bit_value w b i)

  -- of two values that are one where so many bits are alike
  by_bits : (n : ℕ) (a b : Tree) → seen (val a w) ≡ None → seen (val b w) ≡ None
      → (((i : ℕ) → i < n → bit_seen (level (val a w)) i ≡ bit_seen (level (val b w)) i) → val a w ≡ val b w) → is_true (two binary.Equal a b) w ≡ all_true (equal_bits a b n)
  unfolding val
  by_bits n a b e f only =
      let each = λ (i : ℕ). equal_term (bit_term a i) (bit_term b i) in
      let told : truth (equal_value (val a w) (val b w)) ≡ val_eq (val a w) (val b w) = ap truth (equal_others (val a w) (val b w) e f) ∙ truth_yes (val_eq (val a w) (val b w)) in
      told
      ∙ same_truth {P = val a w ≡ val b w} (val_eq (val a w) (val b w)) (all_true (equal_bits a b n))
      (λ h. val_eq-exact (val a w) (val b w) h, λ h. subst (λ (z : Val). val_eq (val a w) z ≡ true) h (val_eq-same (val a w))) (
        λ h. only (λ i l. alike (bit_seen (level (val a w)) i) (bit_seen (level (val b w)) i) (sym (bits_equal a b i) ∙ all_told each 0 n h i (omega arith) (omega (arith, l)))),
        λ h. told_all each 0 n (λ i p q. bits_equal a b i ∙ alike_back (bit_seen (level (val a w)) i) (bit_seen (level (val b w)) i) (ap (λ (z : Val). bit_seen (level z) i) h)),
      )

  pub numbers_equal : (make : ℤ → Value) (a b : Tree) → IsNumber make (val a w) → IsNumber make (val b w) → is_true (two binary.Equal a b) w ≡ all_true (equal_bits a b 64)
  numbers_equal make a b is_a is_b =
      by_bits 64 a b is_a.unseen is_b.unseen
      (λ bits.
      let same = same_from_bits w64 (number_in (val a w)) (number_in (val b w)) is_a.fits is_b.fits (λ i l. sym (is_a.bits i) ∙ bits i l ∙ is_b.bits i) in
      is_a.shown ∙ ap (λ (z : ℤ). it (make z)) same ∙ sym is_b.shown)

  -- the law of addresses comes from below
  pub addresses_equal : ((p q : Ip) → IsIp p → IsIp q → ((k : ℕ) → k < 257 → ip_bit p k ≡ ip_bit q k) → p ≡ q) → (a b : Tree) → IsAddress (val a w) → IsAddress (val b w)
      → is_true (two binary.Equal a b) w ≡ all_true (equal_bits a b 257)
  addresses_equal only a b is_a is_b =
      by_bits 257 a b is_a.unseen is_b.unseen
      (λ bits.
      let same = only (ip_in (val a w)) (ip_in (val b w)) is_a.is is_b.is (λ i l. ap (λ (f : ℕ → Bool). f i) (sym is_a.bits) ∙ bits i l ∙ ap (λ (f : ℕ → Bool). f i) is_b.bits) in
      is_a.shown ∙ ap (λ (p : Ip). it (value.Ip p)) same ∙ sym is_b.shown)

  -- ---- products

  module _ (a b : Tree) (m n : ℤ → Value) (is_a : IsNumber m (val a w)) (is_b : IsNumber n (val b w)) where
    abbrev x : ℤ
    x = number_in (val a w)

    abbrev y : ℤ
    y = number_in (val b w)

    abbrev upper : ℕ → Tree
    upper j = equal_term (product_row a b 128 63) (product_row a b 128 j)

    upper_told : (j : ℕ) → is_true (upper j) w ≡ not (differ (row_bit x y 128 63) (row_bit x y 128 j))
    upper_told j = equal_told (product_row a b 128 63) (product_row a b 128 j) (row_bit x y 128 63) (row_bit x y 128 j) (row_value w a b m n is_a is_b 128 63) (row_value w a b m n is_a is_b 128 j)

    last_row : (j : ℕ) → j < 128 → prow (bit64 x) (bit64 y) 128 j ≡ row_bit x y 128 j
    last_row j q = prow-plain x y is_a.fits is_b.fits 128 j (omega arith) q

    pub product_overflow : is_true (two binary.MultiplyOverflows a b) w ≡ not (all_true (upper_bits a b))
    unfolding val
    product_overflow =
        truth_yes (leaves64 (x *ℤ y))
        ∙ opposite {P = RepeatsSign (prow (bit64 x) (bit64 y) 128)} (leaves64 (x *ℤ y)) (all_true (upper_bits a b)) (product_leaves x y is_a.fits is_b.fits) (
          λ h j p q. last_row j q ∙ sym (alike (row_bit x y 128 63) (row_bit x y 128 j) (sym (upper_told j) ∙ all_told upper 64 64 h j p (omega (arith, q)))) ∙ sym (last_row 63 (omega arith)),
          λ h. told_all upper 64 64 (λ j p q. upper_told j ∙ alike_back (row_bit x y 128 63) (row_bit x y 128 j) (sym (last_row 63 (omega arith)) ∙ sym (h j p (omega (arith, q))) ∙ last_row j (omega (arith, q)))),
        )

  -- ---- ranges

  module _ (range : (p q : Ip) → IsIp p → IsIp q → IsTrue (is_in_range p q) ↔ AgreeInRange (ip_bit p) (ip_bit q)) (a b : Tree) (is_a : IsAddress (val a w)) (is_b : IsAddress (val b w)) where
    abbrev left : ℕ → Bool
    left = bit_seen (level (val a w))

    abbrev right : ℕ → Bool
    right = bit_seen (level (val b w))

    free_told : (k : ℕ) → is_true (not_term (bit_term b k)) w ≡ not (right k)
    free_told k = ap truth (not_is (bit_term b k) w ∙ ap not_value (bit_value w b k) ∙ not_yes (right k)) ∙ truth_yes (not (right k))

    also_told : (k i : ℕ) → is_true (and_term (bit_term a k) (equal_term (bit_term a i) (bit_term b i))) w ≡ (left k && not (differ (left i) (right i)))
    also_told k i =
        ap truth (and_is (bit_term a k) (equal_term (bit_term a i) (bit_term b i)) w) ∙ and_truth (val (bit_term a k) w) (val (equal_term (bit_term a i) (bit_term b i)) w)
        ∙ (λ j. bit_told w a k j && bits_equal a b i j)

    place_told : (j : ℕ) → is_true (place_agrees a b j) w ≡ agrees_at left right j
    place_told j =
        ap truth (or_is (not_term (bit_term b (1 + j))) (and_term (bit_term a (1 + j)) (equal_term (bit_term a (129 + j)) (bit_term b (129 + j)))) w)
        ∙ or_truth (val (not_term (bit_term b (1 + j))) w) (val (and_term (bit_term a (1 + j)) (equal_term (bit_term a (129 + j)) (bit_term b (129 + j)))) w)
        ∙ (λ i. free_told (1 + j) i || also_told (1 + j) (129 + j) i)

    agree : IsTrue (all_true (range_inputs a b)) ↔ AgreeInRange left right
    agree = (
      λ h. record {
        version = sym (bits_equal a b 0) ∙ and_first _ _ h;
        places = λ j l. sym (place_told j) ∙ all_told (place_agrees a b) 0 128 (and_second (is_true (equal_term (bit_term a 0) (bit_term b 0)) w) _ h) j (omega arith) (omega (arith, l));
      },
      λ h. both_true (bits_equal a b 0 ∙ h.version) (told_all (place_agrees a b) 0 128 (λ j p q. place_told j ∙ h.places j (omega (arith, q)))),
    )

    in_range : IsTrue (is_in_range (ip_in (val a w)) (ip_in (val b w))) ↔ AgreeInRange left right
    in_range =
        subst (λ (f : ℕ → Bool). IsTrue (is_in_range (ip_in (val a w)) (ip_in (val b w))) ↔ AgreeInRange f right) (sym is_a.bits)
        (subst (λ (g : ℕ → Bool). IsTrue (is_in_range (ip_in (val a w)) (ip_in (val b w))) ↔ AgreeInRange (ip_bit (ip_in (val a w))) g) (sym is_b.bits)
        (range (ip_in (val a w)) (ip_in (val b w)) is_a.is is_b.is))

    pub range_told : is_true (two binary.InRange a b) w ≡ all_true (range_inputs a b)
    unfolding val
    range_told =
        truth_yes (is_in_range (ip_in (val a w)) (ip_in (val b w)))
        ∙ same_truth {P = AgreeInRange left right} (is_in_range (ip_in (val a w)) (ip_in (val b w))) (all_true (range_inputs a b)) in_range agree
