-- The bits of addresses: which bits they are, that they tell addresses apart, and when ranges lie within one another.
use Rattle.std.proofs.Common.{◌≡◌, ℕ, zero, suc, ◌+◌, ◌-◌, ◌/◌, ◌%◌, ◌^◌, ◌<◌, ◌≤◌, ltb, leb, eqb, cond, Bool, true, false, not, ◌&&◌, ◌||◌, ◌↔◌, IsTrue, refl, ap, sym, ◌∙◌, arith, subst, mod-eq_of_lt, ⊎_elim}
use Rattle.std.proofs.lemmas.Bool.{false≢true, cases_lt, cases_order, ne_eqb, lt-ltb, le-ltb, ltb-true, le-leb, lt-leb, leb-true, eq-eqb, eqb-true, and_parts, and_from}
use Rattle.std.proofs.lemmas.Nat.{shr-shr, shr_below}
use Rattle.sc_bits.specs.Bits.{number, nat_bit}
use Rattle.sc_bits.specs.Adders.{differ}
use Rattle.sc_bits.specs.Blocks.{Block, width_by, width_of, IsBlock, mask_bit, address_bit, block_bit, block_in_range, AgreeInRange, AreBlockBits, length_below, block_of}
use Rattle.sc_bits.proofs.NumberLaws.{number-lt, number-same, number-injective, number-nat_bit}

alike : (x y : Bool) → IsTrue (not (differ x y)) → x ≡ y
alike true true t = refl
alike true false t = absurd (false≢true t)
alike false true t = absurd (false≢true t)
alike false false t = refl

alike_from : (x y : Bool) → x ≡ y → IsTrue (not (differ x y))
alike_from true y e = ap (λ z. not (not z)) (sym e)
alike_from false y e = ap not (sym e)

-- a clause of two literals
follows : (x y : Bool) → IsTrue (not x || y) → x ≡ true → y ≡ true
follows true y t e = t
follows false y t e = absurd (false≢true e)

follows_from : (x y : Bool) → (x ≡ true → y ≡ true) → IsTrue (not x || y)
follows_from true y h = h refl
follows_from false y h = refl

none_from : (x y : Bool) → IsTrue (x || not y) → x ≡ false → y ≡ false
none_from true y t e = absurd (false≢true (sym e))
none_from false true t e = absurd (false≢true t)
none_from false false t e = refl

unless : (x y : Bool) → (x ≡ false → y ≡ false) → IsTrue (x || not y)
unless true y h = refl
unless false y h = ap not (h refl)

-- ---- the bits at their places

pub block_bit-mask : (a : Block) (j : ℕ) → j < 128 → block_bit a (1 + j) ≡ mask_bit a j
block_bit-mask a j l =
    let e : 1 + j - 1 ≡ j = omega arith in
    ap (λ b. cond b a.is_v6 (cond (leb (1 + j) 128) (mask_bit a (1 + j - 1)) (address_bit a (1 + j - 129)))) (ne_eqb (1 + j) 0 (λ z. absurd (omega arith)))
    ∙ ap (λ b. cond b (mask_bit a (1 + j - 1)) (address_bit a (1 + j - 129))) (le-leb (1 + j) 128 (omega arith))
    ∙ ap (mask_bit a) e

pub block_bit-address : (a : Block) (j : ℕ) → block_bit a (129 + j) ≡ address_bit a j
block_bit-address a j =
    let e : 129 + j - 129 ≡ j = omega arith in
    ap (λ b. cond b a.is_v6 (cond (leb (129 + j) 128) (mask_bit a (129 + j - 1)) (address_bit a (129 + j - 129)))) (ne_eqb (129 + j) 0 (λ z. absurd (omega arith)))
    ∙ ap (λ b. cond b (mask_bit a (129 + j - 1)) (address_bit a (129 + j - 129))) (lt-leb (129 + j) 128 (omega arith))
    ∙ ap (address_bit a) e

-- ---- every address meets the clauses

pub width-le : (b : Bool) → width_by b ≤ 128
width-le true = omega arith
width-le false = omega arith

width-false : (a : Block) → a.is_v6 ≡ false → width_of a ≡ 32
width-false a e = ap width_by e

pub bits_of_block : (a : Block) → IsBlock a → AreBlockBits (block_bit a)
bits_of_block a h = record {
  mask = λ j l. follows_from (block_bit a (2 + j)) (block_bit a (1 + j)) (λ t.
      let e : 2 + j ≡ 1 + (1 + j) = omega arith in
      let above = ltb-true (1 + j) a.prefix (sym (ap (block_bit a) e ∙ block_bit-mask a (1 + j) (omega arith)) ∙ t) in
      block_bit-mask a j (omega arith) ∙ lt-ltb j a.prefix (omega arith));
  short_mask = λ j from below. unless a.is_v6 (block_bit a (1 + j)) (λ v4.
      let w = width-false a v4 in
      block_bit-mask a j below ∙ le-ltb j a.prefix (omega (arith, h.prefix_fits)));
  short_address = λ j from below. unless a.is_v6 (block_bit a (129 + j)) (λ v4.
      let w = width-false a v4 in
      block_bit-address a j ∙ ap (λ b. b && nat_bit a.address (width_of a - 1 - j)) (le-ltb j (width_of a) (omega arith)));
}

-- ---- bits that meet the clauses are those of an address

pub length-zero : (g : ℕ → Bool) → length_below g 0 ≡ 0
unfolding length_below
length-zero g = refl

pub length-true : (g : ℕ → Bool) (n : ℕ) → g n ≡ true → length_below g (suc n) ≡ suc n
unfolding length_below
length-true g n e = ap (λ b. cond b (suc n) (length_below g n)) e

pub length-false : (g : ℕ → Bool) (n : ℕ) → g n ≡ false → length_below g (suc n) ≡ length_below g n
unfolding length_below
length-false g n e = ap (λ b. cond b (suc n) (length_below g n)) e

length-le_by : (g : ℕ → Bool) (n m : ℕ) (b : Bool) → g n ≡ b → ((j : ℕ) → m ≤ j → j < suc n → g j ≡ false) → length_below g n ≤ m → length_below g (suc n) ≤ m
length-le_by g n m true e none rest = ⊎_elim
    (λ l. omega (arith, length-true g n e))
    (λ l. absurd (false≢true (sym (none n l (omega arith)) ∙ e)))
    (cases_lt n m)
length-le_by g n m false e none rest = omega (arith, length-false g n e)

-- no bit from m on is set
length-le : (g : ℕ → Bool) (n m : ℕ) → ((j : ℕ) → m ≤ j → j < n → g j ≡ false) → length_below g n ≤ m
length-le g zero m none = omega (arith, length-zero g)
length-le g (suc n) m none = length-le_by g n m (g n) refl none (length-le g n m (λ j l r. none j l (omega arith)))

-- below a set bit all are set
fall : (g : ℕ → Bool) (n : ℕ) → ((j : ℕ) → suc j < suc n → g (suc j) ≡ true → g j ≡ true) → g n ≡ true → (j : ℕ) → j < suc n → g j ≡ true
fall g zero down e j l = let z : j ≡ 0 = omega arith in ap g z ∙ e
fall g (suc n) down e j l = ⊎_elim
    (λ low. fall g n (λ i r. down i (omega arith)) (down n (omega arith) e) j low)
    (λ high. let z : j ≡ suc n = omega arith in ap g z ∙ e)
    (cases_lt j (suc n))

length-decides_by : (g : ℕ → Bool) (n : ℕ) (b : Bool) → g n ≡ b → ((j : ℕ) → suc j < suc n → g (suc j) ≡ true → g j ≡ true)
    → ((j : ℕ) → j < n → ltb j (length_below g n) ≡ g j) → (j : ℕ) → j < suc n → ltb j (length_below g (suc n)) ≡ g j
length-decides_by g n true e down rest j l =
    ap (ltb j) (length-true g n e) ∙ lt-ltb j (suc n) l ∙ sym (fall g n down e j l)
length-decides_by g n false e down rest j l = ⊎_elim
    (λ low. ap (ltb j) (length-false g n e) ∙ rest j low)
    (λ high. let z : j ≡ n = omega arith in
    let short = length-le g n n (λ i a b. absurd (omega arith)) in
    ap (ltb j) (length-false g n e) ∙ le-ltb j (length_below g n) (omega arith) ∙ sym (ap g z ∙ e))
    (cases_lt j n)

length-decides : (g : ℕ → Bool) (n : ℕ) → ((j : ℕ) → suc j < n → g (suc j) ≡ true → g j ≡ true) → (j : ℕ) → j < n → ltb j (length_below g n) ≡ g j
length-decides g zero down j l = absurd (omega arith)
length-decides g (suc n) down j l =
    length-decides_by g n (g n) refl down (length-decides g n (λ i r. down i (omega arith))) j l

short_by : (f : ℕ → Bool) → AreBlockBits f → (b : Bool) → f 0 ≡ b → length_below (λ j. f (1 + j)) 128 ≤ width_by b
short_by f h true e = length-le (λ j. f (1 + j)) 128 128 (λ j l r. absurd (omega arith))
short_by f h false e = length-le (λ j. f (1 + j)) 128 32 (λ j l r. none_from (f 0) (f (1 + j)) (h.short_mask j l r) e)

pub block_of-fits : (f : ℕ → Bool) → AreBlockBits f → IsBlock (block_of f)
block_of-fits f h = record {
  address_fits = number-lt (λ i. f (129 + (width_by (f 0) - 1 - i))) (width_by (f 0));
  prefix_fits = short_by f h (f 0) refl;
}

-- the bits of a number made of bits
nat_bit-number : (g : ℕ → Bool) (n i : ℕ) → i < n → nat_bit (number g n) i ≡ g i
nat_bit-number g n i l = number-injective (nat_bit (number g n)) g n (number-nat_bit (number g n) n ∙ mod-eq_of_lt (number-lt g n)) i l

address_by : (f : ℕ → Bool) → AreBlockBits f → (j : ℕ) → j < 128 → (b : Bool) → f 0 ≡ b
    → (ltb j (width_by b) && nat_bit (number (λ i. f (129 + (width_by b - 1 - i))) (width_by b)) (width_by b - 1 - j)) ≡ f (129 + j)
address_by f h j l b e = ⊎_elim
    (λ low.
    let back : 129 + (width_by b - 1 - (width_by b - 1 - j)) ≡ 129 + j = omega arith in
    ap (λ t. t && nat_bit (number (λ i. f (129 + (width_by b - 1 - i))) (width_by b)) (width_by b - 1 - j)) (lt-ltb j (width_by b) low)
    ∙ nat_bit-number (λ i. f (129 + (width_by b - 1 - i))) (width_by b) (width_by b - 1 - j) (omega arith)
    ∙ ap f back)
    (λ high. ap (λ t. t && nat_bit (number (λ i. f (129 + (width_by b - 1 - i))) (width_by b)) (width_by b - 1 - j)) (le-ltb j (width_by b) high)
    ∙ sym (none b e high))
    (cases_lt j (width_by b))
  where
    none : (b : Bool) → f 0 ≡ b → width_by b ≤ j → f (129 + j) ≡ false
    none true e high = absurd (omega arith)
    none false e high = none_from (f 0) (f (129 + j)) (h.short_address j high l) e

pub block_of-mask : (f : ℕ → Bool) → AreBlockBits f → (j : ℕ) → j < 128 → block_bit (block_of f) (1 + j) ≡ f (1 + j)
block_of-mask f h j l =
    block_bit-mask (block_of f) j l
    ∙ length-decides (λ i. f (1 + i)) 128 (λ i r t.
    let e : 1 + suc i ≡ 2 + i = omega arith in
    follows (f (2 + i)) (f (1 + i)) (h.mask i (omega arith)) (sym (ap f e) ∙ t)) j l

pub block_of-address : (f : ℕ → Bool) → AreBlockBits f → (j : ℕ) → j < 128 → block_bit (block_of f) (129 + j) ≡ f (129 + j)
block_of-address f h j l = block_bit-address (block_of f) j ∙ address_by f h j l (f 0) refl

at_place : (f g : ℕ → Bool) → f 0 ≡ g 0 → ((j : ℕ) → j < 128 → f (1 + j) ≡ g (1 + j)) → ((j : ℕ) → j < 128 → f (129 + j) ≡ g (129 + j))
    → (k : ℕ) → k < 257 → f k ≡ g k
at_place f g zeroth mask address zero l = zeroth
at_place f g zeroth mask address (suc k) l = ⊎_elim
    (λ low. let e : suc k ≡ 1 + k = omega arith in ap f e ∙ mask k low ∙ ap g (sym e))
    (λ high. let e : suc k ≡ 129 + (k - 128) = omega arith in ap f e ∙ address (k - 128) (omega arith) ∙ ap g (sym e))
    (cases_lt k 128)

pub block_of-bits : (f : ℕ → Bool) → AreBlockBits f → (k : ℕ) → k < 257 → block_bit (block_of f) k ≡ f k
block_of-bits f h = at_place (block_bit (block_of f)) f refl (block_of-mask f h) (block_of-address f h)

-- ---- bits tell addresses apart

same_length : (p q n : ℕ) → p ≤ n → q ≤ n → ((j : ℕ) → j < n → ltb j p ≡ ltb j q) → p ≡ q
same_length p q n a b h = ⊎_elim (λ e. e) (λ o. ⊎_elim
    (λ l. absurd (false≢true (sym (le-ltb p p (omega arith)) ∙ h p (omega arith) ∙ lt-ltb p q l)))
    (λ l. absurd (false≢true (sym (le-ltb q q (omega arith)) ∙ sym (h q (omega arith)) ∙ lt-ltb q p l)))
    o) (cases_order p q)

nat_bits_same : (x y n : ℕ) → x < 2 ^ n → y < 2 ^ n → ((i : ℕ) → i < n → nat_bit x i ≡ nat_bit y i) → x ≡ y
nat_bits_same x y n a b h =
    sym (mod-eq_of_lt a) ∙ sym (number-nat_bit x n) ∙ number-same (nat_bit x) (nat_bit y) n h ∙ number-nat_bit y n ∙ mod-eq_of_lt b

-- the address bit j is the number's bit so many places below the width
address_at : (a : Block) (i : ℕ) → i < width_of a → address_bit a (width_of a - 1 - i) ≡ nat_bit a.address i
address_at a i l =
    let e : width_of a - 1 - (width_of a - 1 - i) ≡ i = omega arith in
    ap (λ t. t && nat_bit a.address (width_of a - 1 - (width_of a - 1 - i))) (lt-ltb (width_of a - 1 - i) (width_of a) (omega arith)) ∙ ap (nat_bit a.address) e

pub same_from_block_bits : (a b : Block) → IsBlock a → IsBlock b → ((k : ℕ) → k < 257 → block_bit a k ≡ block_bit b k) → a ≡ b
same_from_block_bits a b f g h =
    let version : a.is_v6 ≡ b.is_v6 = h 0 (omega arith) in
    let wide : width_of a ≡ width_of b = ap width_by version in
    let long : a.prefix ≡ b.prefix = same_length a.prefix b.prefix 128 (omega (arith, f.prefix_fits, width-le a.is_v6)) (omega (arith, g.prefix_fits, width-le b.is_v6))
    (λ j l. sym (block_bit-mask a j l) ∙ h (1 + j) (omega arith) ∙ block_bit-mask b j l) in
    let fits : b.address < 2 ^ width_of a = subst (λ w. b.address < 2 ^ w) (sym wide) g.address_fits in
    let number_same : a.address ≡ b.address = nat_bits_same a.address b.address (width_of a) f.address_fits fits (λ i l.
    let j = width_of a - 1 - i in
    let r : i < width_of b = omega arith in
    sym (address_at a i l) ∙ sym (block_bit-address a j) ∙ h (129 + j) (omega (arith, width-le a.is_v6)) ∙ block_bit-address b j
    ∙ ap (λ w. address_bit b (w - 1 - i)) wide ∙ address_at b i r) in
    λ i. record { is_v6 = version i; address = number_same i; prefix = long i }

-- ---- a range within another

-- place j of the address is bit i of what is left of the number behind the prefix
quotient_bit : (a : Block) (s i : ℕ) → i < width_of a - s → nat_bit (a.address / 2 ^ s) i ≡ address_bit a (width_of a - 1 - (s + i))
quotient_bit a s i l =
    ap (λ x. eqb (x % 2) 1) (shr-shr a.address s i) ∙ sym (address_at a (s + i) (omega arith))

pub in_range_from : (a b : Block) → IsBlock a → IsBlock b → AgreeInRange (block_bit a) (block_bit b) → IsTrue (block_in_range a b)
in_range_from a b f g h =
    let version : a.is_v6 ≡ b.is_v6 = alike a.is_v6 b.is_v6 h.version in
    let wide : width_of a ≡ width_of b = ap width_by version in
    let w = width_of b in
    let small = width-le b.is_v6 in
    let place : (j : ℕ) → j < 128 → j < b.prefix → (mask_bit a j && not (differ (address_bit a j) (address_bit b j))) ≡ true = λ j l p.
    let t = follows (block_bit b (1 + j)) (block_bit a (1 + j) && not (differ (block_bit a (129 + j)) (block_bit b (129 + j)))) (h.places j l) (block_bit-mask b j l ∙ lt-ltb j b.prefix p) in
    ap (λ x. x && not (differ (address_bit a j) (address_bit b j))) (sym (block_bit-mask a j l))
    ∙ ap (λ x. block_bit a (1 + j) && not (differ x (address_bit b j))) (sym (block_bit-address a j))
    ∙ ap (λ x. block_bit a (1 + j) && not (differ (block_bit a (129 + j)) x)) (sym (block_bit-address b j))
    ∙ t in
    let order : b.prefix ≤ a.prefix = ⊎_elim
    (λ l. let t = and_parts (mask_bit a a.prefix) (not (differ (address_bit a a.prefix) (address_bit b a.prefix))) (place a.prefix (omega (arith, g.prefix_fits)) l) in
    absurd (false≢true (sym (le-ltb a.prefix a.prefix (omega arith)) ∙ t.0)))
    (λ l. l) (cases_lt a.prefix b.prefix) in
    let s = w - b.prefix in
    let q = b.prefix in
    let sum : q + (w - b.prefix) ≡ w = omega (arith, g.prefix_fits) in
    let below_a : a.address < 2 ^ (q + (w - b.prefix)) = subst (λ k. a.address < 2 ^ k) (wide ∙ sym sum) f.address_fits in
    let below_b : b.address < 2 ^ (q + (w - b.prefix)) = subst (λ k. b.address < 2 ^ k) (sym sum) g.address_fits in
    let same : a.address / 2 ^ s ≡ b.address / 2 ^ s = nat_bits_same (a.address / 2 ^ s) (b.address / 2 ^ s) q
    (shr_below a.address q s below_a) (shr_below b.address q s below_b) (λ i l.
    let j = w - 1 - (s + i) in
    let t = and_parts (mask_bit a j) (not (differ (address_bit a j) (address_bit b j))) (place j (omega arith) (omega (arith, g.prefix_fits))) in
    quotient_bit a s i (omega (arith, g.prefix_fits)) ∙ ap (λ k. address_bit a (k - 1 - (s + i))) wide
    ∙ alike (address_bit a j) (address_bit b j) t.1
    ∙ sym (quotient_bit b s i (omega (arith, g.prefix_fits)))) in
    and_from (not (differ a.is_v6 b.is_v6)) (leb (w - a.prefix) (w - b.prefix) && eqb (a.address / 2 ^ s) (b.address / 2 ^ s)) (alike_from a.is_v6 b.is_v6 version)
    (and_from (leb (w - a.prefix) (w - b.prefix)) (eqb (a.address / 2 ^ s) (b.address / 2 ^ s)) (le-leb (w - a.prefix) (w - b.prefix) (omega arith)) (eq-eqb (a.address / 2 ^ s) (b.address / 2 ^ s) same))

pub agree_from : (a b : Block) → IsBlock a → IsBlock b → IsTrue (block_in_range a b) → AgreeInRange (block_bit a) (block_bit b)
agree_from a b f g t =
    let w = width_of b in
    let s = w - b.prefix in
    let parts = and_parts (not (differ a.is_v6 b.is_v6)) (leb (w - a.prefix) (w - b.prefix) && eqb (a.address / 2 ^ s) (b.address / 2 ^ s)) t in
    let more = and_parts (leb (w - a.prefix) (w - b.prefix)) (eqb (a.address / 2 ^ s) (b.address / 2 ^ s)) parts.1 in
    let version : a.is_v6 ≡ b.is_v6 = alike a.is_v6 b.is_v6 parts.0 in
    let wide : width_of a ≡ width_of b = ap width_by version in
    let free : w - a.prefix ≤ w - b.prefix = leb-true (w - a.prefix) (w - b.prefix) more.0 in
    let quotients : a.address / 2 ^ s ≡ b.address / 2 ^ s = eqb-true (a.address / 2 ^ s) (b.address / 2 ^ s) more.1 in
    record {
      version = parts.0;
      places = λ j l. follows_from (block_bit b (1 + j)) (block_bit a (1 + j) && not (differ (block_bit a (129 + j)) (block_bit b (129 + j)))) (λ held.
          let p : j < b.prefix = ltb-true j b.prefix (sym (block_bit-mask b j l) ∙ held) in
          let i = b.prefix - 1 - j in
          let at : w - 1 - (s + i) ≡ j = omega (arith, g.prefix_fits) in
          and_from (block_bit a (1 + j)) (not (differ (block_bit a (129 + j)) (block_bit b (129 + j))))
          (block_bit-mask a j l ∙ lt-ltb j a.prefix (omega (arith, f.prefix_fits, g.prefix_fits)))
          (alike_from (block_bit a (129 + j)) (block_bit b (129 + j))
          (block_bit-address a j ∙ ap (address_bit a) (sym at) ∙ ap (λ k. address_bit a (k - 1 - (s + i))) (sym wide)
          ∙ sym (quotient_bit a s i (omega (arith, g.prefix_fits))) ∙ ap (λ x. nat_bit x i) quotients ∙ quotient_bit b s i (omega (arith, g.prefix_fits))
          ∙ ap (address_bit b) at ∙ sym (block_bit-address b j))));
    }

pub in_range_decides : (a b : Block) → IsBlock a → IsBlock b → IsTrue (block_in_range a b) ↔ AgreeInRange (block_bit a) (block_bit b)
in_range_decides a b f g = (agree_from a b f g, in_range_from a b f g)

-- bits that are equal agree alike
agree_at : (f g u v : ℕ → Bool) → ((k : ℕ) → k < 257 → f k ≡ u k) → ((k : ℕ) → k < 257 → g k ≡ v k) → AgreeInRange f g → AgreeInRange u v
agree_at f g u v e d h = record {
  version = subst (λ x. IsTrue (not (differ (u 0) x))) (d 0 (omega arith)) (subst (λ x. IsTrue (not (differ x (g 0)))) (e 0 (omega arith)) h.version);
  places = λ j l. subst IsTrue (λ k. not (d (1 + j) (omega arith) k) || (e (1 + j) (omega arith) k && not (differ (e (129 + j) (omega arith) k) (d (129 + j) (omega arith) k)))) (h.places j l);
}

pub in_range_rebuilt : (f g : ℕ → Bool) → AreBlockBits f → AreBlockBits g → IsTrue (block_in_range (block_of f) (block_of g)) ↔ AgreeInRange f g
in_range_rebuilt f g p q =
    let h = in_range_decides (block_of f) (block_of g) (block_of-fits f p) (block_of-fits g q) in (
      λ t. agree_at (block_bit (block_of f)) (block_bit (block_of g)) f g (block_of-bits f p) (block_of-bits g q) (h.0 t),
      λ a. h.1 (agree_at f g (block_bit (block_of f)) (block_bit (block_of g)) (λ k l. sym (block_of-bits f p k l)) (λ k l. sym (block_of-bits g q k l)) a),
    )
