-- Bits in a row, and the numbers and addresses that depend on no further ones.
use Rattle.std.proofs.Common.{◌≡◌, ◌<◌, ◌≤◌, ◌+◌, ◌-◌, ◌++◌, ℤ, w64, to_z, of_z, SFits, ℕ, zero, suc, Bool, false, List, [], ◌∷◌, map, length, get_or, refl, sym, ap, ◌∙◌, subst, arith}
use Rattle.std.proofs.lemmas.Int.{to_z-of_z}
use Rattle.sc_bits.specs.Bits.{number, of_bits64}
use Rattle.sc_bits.proofs.IntegerLaws.{fits-of_bits}
use Rattle.sc_bits.specs.Blocks.{width_by, length_below}
use Rattle.sc_bits.specs.Addresses.{ip_of}
use Rattle.sc_bits.proofs.NumberLaws.{number-same}
use Rattle.sc_term_definitions.specs.Definitions.{counted}
use Rattle.sc_bits.proofs.BlockLaws.{width-le}

module _ (f : ℕ → Bool) where
  bits_length : (from n : ℕ) → length (map f (counted from n)) ≡ n
  unfolding counted
  bits_length from zero = refl
  bits_length from (suc n) = ap suc (bits_length (suc from) n)

  bits_get : (from n i : ℕ) → i < n → get_or (map f (counted from n)) i false ≡ f (from + i)
  unfolding counted
  bits_get from zero i h = absurd (omega (arith, h))
  bits_get from (suc n) zero h = let same : from ≡ from + zero = omega arith in ap f same
  bits_get from (suc n) (suc i) h = let same : suc from + i ≡ from + suc i = omega arith in bits_get (suc from) n i (omega (arith, h)) ∙ ap f same

  bits_push : (from n : ℕ) → map f (counted from (suc n)) ≡ map f (counted from n) ++ f (from + n) ∷ []
  unfolding counted
  bits_push from zero = let same : from ≡ from + zero = omega arith in ap (λ (i : ℕ). f i ∷ []) same
  bits_push from (suc n) =
      let same : suc from + n ≡ from + suc n = omega arith in
      ap (λ (bs : List Bool). f from ∷ bs) (bits_push (suc from) n ∙ ap (λ (i : ℕ). map f (counted (suc from) n) ++ f i ∷ []) same)

  pub no_bit : (bs : List Bool) → bs ≡ [] → bs ≡ map f (counted 0 0)
  unfolding counted
  no_bit bs e = e

  pub next_bit : (n : ℕ) (bs new : List Bool) (b : Bool) → new ≡ bs ++ b ∷ [] → bs ≡ map f (counted 0 n) → b ≡ f n → new ≡ map f (counted 0 (n + 1))
  next_bit n bs new b put e g =
      let more : suc n ≡ n + 1 = omega arith in
      let same : 0 + n ≡ n = omega arith in
      put ∙ ap (λ (cs : List Bool). cs ++ b ∷ []) e ∙ ap (λ (c : Bool). map f (counted 0 n) ++ c ∷ []) (g ∙ ap f (sym same))
      ∙ sym (bits_push 0 n) ∙ ap (λ (k : ℕ). map f (counted 0 k)) more

  pub all_bits : (n : ℕ) (bs : List Bool) → bs ≡ map f (counted 0 n) → length bs ≡ n
  all_bits n bs e = ap length e ∙ bits_length 0 n

  pub each_bit : (n : ℕ) (bs : List Bool) → bs ≡ map f (counted 0 n) → (i : ℕ) → i < n → get_or bs i false ≡ f i
  each_bit n bs e i h = let same : 0 + i ≡ i = omega arith in ap (λ (cs : List Bool). get_or cs i false) e ∙ bits_get 0 n i h ∙ ap f same

-- a number of 64 bits is kept as it is
pub read_back : (n : ℤ) (f : ℕ → Bool) → n ≡ of_bits64 f → to_z w64 (of_z w64 n) ≡ n
read_back n f e = to_z-of_z w64 n (subst (SFits w64) (sym e) (fits-of_bits w64 f))

-- ---- addresses

length_only : (f g : ℕ → Bool) (n : ℕ) → ((i : ℕ) → i < n → f i ≡ g i) → length_below f n ≡ length_below g n
unfolding length_below
length_only f g zero h = refl
length_only f g (suc n) h =
    let rest : length_below f n ≡ length_below g n = length_only f g n (λ i k. h i (omega (arith, k))) in
    let last : f n ≡ g n = h n (omega arith) in
    rw (rest, last) refl

pub ip_only : (f g : ℕ → Bool) → ((i : ℕ) → i < 257 → f i ≡ g i) → ip_of f ≡ ip_of g
ip_only f g h =
    let first : f 0 ≡ g 0 = h 0 (omega arith) in
    let small : width_by (g 0) ≤ 128 = width-le (g 0) in
    let address : number (λ i. f (129 + (width_by (g 0) - 1 - i))) (width_by (g 0)) ≡ number (λ i. g (129 + (width_by (g 0) - 1 - i))) (width_by (g 0)) =
    number-same (λ i. f (129 + (width_by (g 0) - 1 - i))) (λ i. g (129 + (width_by (g 0) - 1 - i))) (width_by (g 0)) (λ i k. h (129 + (width_by (g 0) - 1 - i)) (omega (arith, small, k))) in
    let prefix : length_below (λ j. f (1 + j)) 128 ≡ length_below (λ j. g (1 + j)) 128 =
    length_only (λ j. f (1 + j)) (λ j. g (1 + j)) 128 (λ i k. h (1 + i) (omega (arith, k))) in
    rw (first, address, prefix) refl
