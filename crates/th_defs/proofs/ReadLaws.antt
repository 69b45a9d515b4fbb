-- The clauses of items and their literals, as the code reads them.
use Rattle.std.proofs.Common.{◌≡◌, ◌<◌, ◌≤◌, ◌+◌, ◌-◌, ◌^◌, ◌/◌, ◌%◌, ◌==◌, ◌⊎◌, inl, inr, ℕ, zero, suc, Bool, true, false, cond, List, [], ◌∷◌, map, flat_map, length, get_or, nat_lt, refl, sym, ap, ◌∙◌, subst, arith, length-append}
use Rattle.std.proofs.lemmas.Bool.Decides.{nat_tests}
use Rattle.std.proofs.lemmas.List.{length-map, get_or-map, get_or-append-add, get_or_append_left, get_or_past}
use Rattle.sc_laws.proofs.NumberLaws.{suc_isnt_zero, nat_lt_true, last_or_before}
use Rattle.sc_clauses.specs.declared.lit.Lit.{Lit}
use Rattle.sc_clauses.specs.Clauses.{Clause, positive, negation}
use Rattle.sc_term_definitions.proofs.MakingLaws.{counted_length}
use Rattle.sc_term_definitions.specs.declared.function.Function.{Function}
use Rattle.sc_term_definitions.specs.declared.function.Shape.{Shape}
use Rattle.sc_term_definitions.specs.declared.function.Shape.TheVariants.{Table, All, NotAll, Fixed, Free}
use Rattle.sc_term_definitions.specs.Definitions.{counted}
use Rattle.sc_term_definitions.specs.Functions.{value_of, rows}
use Rattle.sc_footprint.specs.Definitions.{has_value, conjunction, table, turned, clauses_by, mask_clause, short_clauses, address_by}
use Rattle.sc_footprint.specs.Problems.{Posed}
use Rattle.th_defs.specs.declared.item.Item.{Item}
use Rattle.th_defs.specs.declared.item.Item.TheVariants as item
use Rattle.th_defs.specs.Items.{companion_or, companions_or, item_clauses, clause_at, clauses_in, conjunction_literals, literals_in, literal_of_row, literal_of_conjunction, literal_of_definition, literal_of_address, later_bit}
use Rattle.th_defs.proofs.PlaceLaws.{read_counted, row_count_is, row_length, row_input, row_whole, conjunction_count, conjunction_pair, conjunction_last, turned_long, row_long}
use Rattle.th_defs.specs.ClauseLaws.{rows_long}

-- ---- tests of numbers

pub not_less : (i n : ℕ) → n ≤ i → nat_lt i n ≡ false
not_less i n h = grind (arith, nat_tests)

-- ---- definitions

module _ (p : Posed) (n : ℕ) (count : ℕ) where
  abbrev inputs : List Lit
  inputs = companions_or p n count

  inputs_long : length inputs ≡ count
  inputs_long = length-map (counted 0 count) (companion_or p n) ∙ counted_length 0 count

  input_read : (i : ℕ) (d : Lit) → i < count → get_or inputs i d ≡ companion_or p n i
  input_read i d h = let e : 0 + i ≡ i = omega arith in read_counted (companion_or p n) 0 count i d h ∙ ap (companion_or p n) e

  -- how many clauses there are

  pub count_is : (shape : Shape) (x : Lit) → length (clauses_by shape x inputs) ≡ clauses_in shape count
  count_is (Table f t) x =
      length-map (rows (length (turned t inputs))) _ ∙ ap (λ (k : ℕ). length (rows k)) (turned_long t inputs ∙ inputs_long) ∙ row_count_is count
  count_is All x = conjunction_count x inputs ∙ ap (λ (k : ℕ). k + 1) inputs_long
  count_is NotAll x = conjunction_count (negation x) inputs ∙ ap (λ (k : ℕ). k + 1) inputs_long
  count_is (Fixed b) x = refl
  count_is Free x = refl

  row_there : (k : ℕ) → k < 2 ^ count → k < length (rows (length inputs))
  row_there k h = let e : length (rows (length inputs)) ≡ 2 ^ count = ap (λ (m : ℕ). length (rows m)) inputs_long ∙ row_count_is count in subst (λ (m : ℕ). k < m) (sym e) h

  -- how many literals a clause has

  conjunction_length : (x : Lit) (k : ℕ) → k < count + 1 → length (get_or (conjunction x inputs) k []) ≡ conjunction_literals count k
  conjunction_length x k h = by (last_or_before k count h)
    where
      long : length inputs ≡ count
      long = inputs_long

      last : suc count ≡ count + 1
      last = omega arith

      by : (k < count) ⊎ (k ≡ count) → length (get_or (conjunction x inputs) k []) ≡ conjunction_literals count k
      by (inl l) = ap length (conjunction_pair x inputs k (positive 1) (omega (arith, l, long))) ∙ sym (ap (λ (b : Bool). cond b 2 (count + 1)) (nat_lt_true k count l))
      by (inr e) =
          ap (λ (m : ℕ). length (get_or (conjunction x inputs) m [])) (e ∙ sym long) ∙ ap length (conjunction_last x inputs)
          ∙ ap suc (length-map inputs negation ∙ long) ∙ last ∙ sym (ap (λ (b : Bool). cond b 2 (count + 1)) (not_less k count (omega (arith, e))))

  pub length_is : (shape : Shape) (x : Lit) (k : ℕ) → k < clauses_in shape count → length (get_or (clauses_by shape x inputs) k []) ≡ literals_in shape count k
  length_is (Table f t) x k h = row_length f t x inputs k (row_there k h) ∙ ap (λ (m : ℕ). m + 1) inputs_long
  length_is All x k h = conjunction_length x k h
  length_is NotAll x k h = conjunction_length (negation x) k h
  length_is (Fixed b) x zero h = refl
  length_is (Fixed b) x (suc k) h = absurd (omega (arith, h))
  length_is Free x k h = absurd (omega (arith, h))

  -- the literals of a clause

  row_read : (f : Function) (t : Bool) (x : Lit) (k i : ℕ) → k < 2 ^ count → i < count + 1
      → literal_of_row p n (Table f t) f x count k i ≡ get_or (get_or (table f x (turned t inputs)) k []) i (positive 1)
  row_read f t x k i h j = by (last_or_before i count j)
    where
      long : length inputs ≡ count
      long = inputs_long

      there : k < length (rows (length inputs))
      there = row_there k h

      by : (i < count) ⊎ (i ≡ count) → literal_of_row p n (Table f t) f x count k i ≡ get_or (get_or (table f x (turned t inputs)) k []) i (positive 1)
      by (inl l) = let a = nat_lt_true i count l in let r = row_input f t x inputs k there i (positive 1) (omega (arith, l, long)) in let c = input_read i (positive 1) l in rw (a, r, c, long) refl
      by (inr e) =
          let a = not_less i count (omega (arith, e)) in
          let r : get_or (get_or (table f x (turned t inputs)) k []) i (positive 1) ≡ has_value x (value_of f (get_or (rows (length inputs)) k [])) =
          ap (λ (m : ℕ). get_or (get_or (table f x (turned t inputs)) k []) m (positive 1)) (e ∙ sym long) ∙ row_whole f t x inputs k there (positive 1) in
          rw (a, r, long) refl

  pair_read : (x l : Lit) (i : ℕ) → i < 2 → cond (i == 0) (negation x) l ≡ get_or (negation x ∷ l ∷ []) i (positive 1)
  pair_read x l zero h = refl
  pair_read x l (suc zero) h = ap (λ (b : Bool). cond b (negation x) l) (suc_isnt_zero 0)
  pair_read x l (suc (suc i)) h = absurd (omega (arith, h))

  last_read : (x : Lit) (i : ℕ) → i < count + 1 → cond (i == 0) x (negation (companion_or p n (i - 1))) ≡ get_or (x ∷ map negation inputs) i (positive 1)
  last_read x zero h = refl
  last_read x (suc i) h =
      let back : suc i - 1 ≡ i = omega arith in
      let below : i < count = omega (arith, h) in
      let long = inputs_long in
      ap (λ (b : Bool). cond b x (negation (companion_or p n (suc i - 1)))) (suc_isnt_zero i) ∙ ap (λ (m : ℕ). negation (companion_or p n m)) back
      ∙ sym (get_or-map negation inputs i (positive 1) (positive 1) (omega (arith, below, long)) ∙ ap negation (input_read i (positive 1) below))

  conjunction_read : (x : Lit) (k i : ℕ) → k < count + 1 → i < length (get_or (conjunction x inputs) k []) → literal_of_conjunction p n x count k i ≡ get_or (get_or (conjunction x inputs) k []) i (positive 1)
  conjunction_read x k i h j = by (last_or_before k count h)
    where
      long : length inputs ≡ count
      long = inputs_long

      many : length (get_or (conjunction x inputs) k []) ≡ conjunction_literals count k
      many = conjunction_length x k h

      by : (k < count) ⊎ (k ≡ count) → literal_of_conjunction p n x count k i ≡ get_or (get_or (conjunction x inputs) k []) i (positive 1)
      by (inl l) =
          let a = nat_lt_true k count l in
          let two : i < 2 = subst (λ (m : ℕ). i < m) (many ∙ ap (λ (b : Bool). cond b 2 (count + 1)) a) j in
          ap (λ (b : Bool). cond b (cond (i == 0) (negation x) (companion_or p n k)) (cond (i == 0) x (negation (companion_or p n (i - 1))))) a ∙ pair_read x (companion_or p n k) i two
          ∙ ap (λ (m : Lit). get_or (negation x ∷ m ∷ []) i (positive 1)) (sym (input_read k (positive 1) l)) ∙ ap (λ (c : Clause). get_or c i (positive 1)) (sym (conjunction_pair x inputs k (positive 1) (omega (arith, l, long))))
      by (inr e) =
          let a = not_less k count (omega (arith, e)) in
          let all : i < count + 1 = subst (λ (m : ℕ). i < m) (many ∙ ap (λ (b : Bool). cond b 2 (count + 1)) a) j in
          ap (λ (b : Bool). cond b (cond (i == 0) (negation x) (companion_or p n k)) (cond (i == 0) x (negation (companion_or p n (i - 1))))) a ∙ last_read x i all
          ∙ ap (λ (c : Clause). get_or c i (positive 1)) (sym (ap (λ (m : ℕ). get_or (conjunction x inputs) m []) (e ∙ sym long) ∙ conjunction_last x inputs))

  pub definition_read : (shape : Shape) (x : Lit) (k i : ℕ) → k < clauses_in shape count → i < length (get_or (clauses_by shape x inputs) k [])
      → literal_of_definition p n shape x count k i ≡ get_or (get_or (clauses_by shape x inputs) k []) i (positive 1)
  definition_read (Table f t) x k i h j = row_read f t x k i h (subst (λ (m : ℕ). i < m) (row_length f t x inputs k (row_there k h) ∙ ap (λ (m : ℕ). m + 1) inputs_long) j)
  definition_read All x k i h j = conjunction_read x k i h j
  definition_read NotAll x k i h j = conjunction_read (negation x) k i h j
  definition_read (Fixed b) x zero zero h j = refl
  definition_read (Fixed b) x zero (suc i) h j = absurd (omega (arith, j))
  definition_read (Fixed b) x (suc k) i h j = absurd (omega (arith, h))
  definition_read Free x k i h j = absurd (omega (arith, h))

-- ---- addresses

module _ (bit : ℕ → Lit) where
  masks_long : length (map (mask_clause bit) (counted 0 127)) ≡ 127
  masks_long = length-map (counted 0 127) (mask_clause bit) ∙ counted_length 0 127

  shorts_long : (from n : ℕ) → length (flat_map (short_clauses bit) (counted from n)) ≡ n + n
  unfolding counted
  shorts_long from zero = refl
  shorts_long from (suc n) = let e = shorts_long (suc from) n in omega (arith, e)

  pub address_count : length (address_by bit) ≡ 319
  address_count =
      let a = masks_long in
      let b = shorts_long 32 96 in
      let c = length-append (map (mask_clause bit) (counted 0 127)) (flat_map (short_clauses bit) (counted 32 96)) in
      omega (arith, a, b, c)

  -- the two clauses of place 32, then those of 33, and so on
  abbrev short_at : ℕ → ℕ → Clause
  short_at from k = bit 0 ∷ negation (bit ((cond (k % 2 == 0) 1 129) + (from + k / 2))) ∷ []

  short_read : (from n k : ℕ) → k < n + n → get_or (flat_map (short_clauses bit) (counted from n)) k [] ≡ short_at from k
  unfolding counted
  short_read from zero k h = absurd (omega (arith, h))
  short_read from (suc n) zero h = let e : from ≡ from + 0 = omega arith in ap (λ (m : ℕ). bit 0 ∷ negation (bit (1 + m)) ∷ []) e
  short_read from (suc n) (suc zero) h = let e : from ≡ from + 0 = omega arith in ap (λ (m : ℕ). bit 0 ∷ negation (bit (129 + m)) ∷ []) e
  short_read from (suc n) (suc (suc k)) h =
      let half : suc (suc k) / 2 ≡ suc (k / 2) = omega arith in
      let odd : suc (suc k) % 2 ≡ k % 2 = omega arith in
      let place : suc from + k / 2 ≡ from + suc (k / 2) = omega arith in
      short_read (suc from) n k (omega (arith, h)) ∙ rw (half, odd, place) refl

  mask_at : (k : ℕ) → k < 127 → get_or (address_by bit) k [] ≡ mask_clause bit k
  mask_at k h =
      let long = masks_long in
      let e : 0 + k ≡ k = omega arith in
      get_or_append_left (map (mask_clause bit) (counted 0 127)) (flat_map (short_clauses bit) (counted 32 96)) [] k (omega (arith, h, long)) ∙ read_counted (mask_clause bit) 0 127 k [] h ∙ ap (mask_clause bit) e

  later_at : (k : ℕ) → 127 ≤ k → k < 319 → get_or (address_by bit) k [] ≡ short_at 32 (k - 127)
  later_at k h j =
      let long = masks_long in
      let e : k ≡ length (map (mask_clause bit) (counted 0 127)) + (k - 127) = omega (arith, h, long) in
      ap (λ (m : ℕ). get_or (address_by bit) m []) e ∙ get_or-append-add (map (mask_clause bit) (counted 0 127)) (flat_map (short_clauses bit) (counted 32 96)) (k - 127) [] ∙ short_read 32 96 (k - 127) (omega (arith, h, j))

  abbrev literal_by : ℕ → ℕ → Lit
  literal_by k i = cond (nat_lt k 127) (cond (i == 0) (negation (bit (2 + k))) (bit (1 + k))) (cond (i == 0) (bit 0) (negation (bit (later_bit (k - 127)))))

  two_read : (l m : Lit) (i : ℕ) → i < 2 → cond (i == 0) l m ≡ get_or (l ∷ m ∷ []) i (positive 1)
  two_read l m zero h = refl
  two_read l m (suc zero) h = ap (λ (b : Bool). cond b l m) (suc_isnt_zero 0)
  two_read l m (suc (suc i)) h = absurd (omega (arith, h))

  side : (k : ℕ) → (k < 127) ⊎ (127 ≤ k)
  side k = by (nat_lt k 127) refl
    where
      below : nat_lt k 127 ≡ true → k < 127
      below e = grind (arith, nat_tests)

      above : nat_lt k 127 ≡ false → 127 ≤ k
      above e = grind (arith, nat_tests)

      by : (b : Bool) → nat_lt k 127 ≡ b → (k < 127) ⊎ (127 ≤ k)
      by true e = inl (below e)
      by false e = inr (above e)

  pub address_length : (k : ℕ) → k < 319 → length (get_or (address_by bit) k []) ≡ 2
  address_length k h = by (side k)
    where
      by : (k < 127) ⊎ (127 ≤ k) → length (get_or (address_by bit) k []) ≡ 2
      by (inl l) = ap length (mask_at k l)
      by (inr l) = ap length (later_at k l h)

  pub address_read : (k i : ℕ) → k < 319 → i < 2 → literal_by k i ≡ get_or (get_or (address_by bit) k []) i (positive 1)
  address_read k i h j = by (side k)
    where
      by : (k < 127) ⊎ (127 ≤ k) → literal_by k i ≡ get_or (get_or (address_by bit) k []) i (positive 1)
      by (inl l) =
          ap (λ (b : Bool). cond b (cond (i == 0) (negation (bit (2 + k))) (bit (1 + k))) (cond (i == 0) (bit 0) (negation (bit (later_bit (k - 127)))))) (nat_lt_true k 127 l)
          ∙ two_read (negation (bit (2 + k))) (bit (1 + k)) i j ∙ ap (λ (c : Clause). get_or c i (positive 1)) (sym (mask_at k l))
      by (inr l) =
          ap (λ (b : Bool). cond b (cond (i == 0) (negation (bit (2 + k))) (bit (1 + k))) (cond (i == 0) (bit 0) (negation (bit (later_bit (k - 127)))))) (not_less k 127 l)
          ∙ two_read (bit 0) (negation (bit (later_bit (k - 127)))) i j ∙ ap (λ (c : Clause). get_or c i (positive 1)) (sym (later_at k l h))

-- ---- rows of at most three inputs, bit by bit

abbrev bit_at : ℕ → ℕ → ℕ → Bool
bit_at n r i = get_or (get_or (rows n) r []) i false

pub bit_1_0 : (r : ℕ) → r < 2 → (r % 2 == 1) ≡ bit_at 1 r 0
unfolding rows
bit_1_0 zero h = refl
bit_1_0 (suc zero) h = refl
bit_1_0 (suc (suc r)) h = absurd (omega (arith, h))

pub bit_2_0 : (r : ℕ) → r < 4 → ((r / 2) % 2 == 1) ≡ bit_at 2 r 0
unfolding rows
bit_2_0 zero h = refl
bit_2_0 (suc zero) h = refl
bit_2_0 (suc (suc zero)) h = refl
bit_2_0 (suc (suc (suc zero))) h = refl
bit_2_0 (suc (suc (suc (suc r)))) h = absurd (omega (arith, h))

pub bit_2_1 : (r : ℕ) → r < 4 → (r % 2 == 1) ≡ bit_at 2 r 1
unfolding rows
bit_2_1 zero h = refl
bit_2_1 (suc zero) h = refl
bit_2_1 (suc (suc zero)) h = refl
bit_2_1 (suc (suc (suc zero))) h = refl
bit_2_1 (suc (suc (suc (suc r)))) h = absurd (omega (arith, h))

pub bit_3_0 : (r : ℕ) → r < 8 → ((r / 4) % 2 == 1) ≡ bit_at 3 r 0
unfolding rows
bit_3_0 zero h = refl
bit_3_0 (suc zero) h = refl
bit_3_0 (suc (suc zero)) h = refl
bit_3_0 (suc (suc (suc zero))) h = refl
bit_3_0 (suc (suc (suc (suc zero)))) h = refl
bit_3_0 (suc (suc (suc (suc (suc zero))))) h = refl
bit_3_0 (suc (suc (suc (suc (suc (suc zero)))))) h = refl
bit_3_0 (suc (suc (suc (suc (suc (suc (suc zero))))))) h = refl
bit_3_0 (suc (suc (suc (suc (suc (suc (suc (suc r)))))))) h = absurd (omega (arith, h))

pub bit_3_1 : (r : ℕ) → r < 8 → ((r / 2) % 2 == 1) ≡ bit_at 3 r 1
unfolding rows
bit_3_1 zero h = refl
bit_3_1 (suc zero) h = refl
bit_3_1 (suc (suc zero)) h = refl
bit_3_1 (suc (suc (suc zero))) h = refl
bit_3_1 (suc (suc (suc (suc zero)))) h = refl
bit_3_1 (suc (suc (suc (suc (suc zero))))) h = refl
bit_3_1 (suc (suc (suc (suc (suc (suc zero)))))) h = refl
bit_3_1 (suc (suc (suc (suc (suc (suc (suc zero))))))) h = refl
bit_3_1 (suc (suc (suc (suc (suc (suc (suc (suc r)))))))) h = absurd (omega (arith, h))

pub bit_3_2 : (r : ℕ) → r < 8 → (r % 2 == 1) ≡ bit_at 3 r 2
unfolding rows
bit_3_2 zero h = refl
bit_3_2 (suc zero) h = refl
bit_3_2 (suc (suc zero)) h = refl
bit_3_2 (suc (suc (suc zero))) h = refl
bit_3_2 (suc (suc (suc (suc zero)))) h = refl
bit_3_2 (suc (suc (suc (suc (suc zero))))) h = refl
bit_3_2 (suc (suc (suc (suc (suc (suc zero)))))) h = refl
bit_3_2 (suc (suc (suc (suc (suc (suc (suc zero))))))) h = refl
bit_3_2 (suc (suc (suc (suc (suc (suc (suc (suc r)))))))) h = absurd (omega (arith, h))

-- the last place of a row, the one before it, and the one before that
pub last_place : (n r i : ℕ) → n ≤ 3 → r < 2 ^ n → i < n → n - 1 - i ≡ 0 → (r % 2 == 1) ≡ bit_at n r i
last_place zero r i few h l e = absurd (omega (arith, l))
last_place (suc zero) r zero few h l e = bit_1_0 r h
last_place (suc zero) r (suc i) few h l e = absurd (omega (arith, l))
last_place (suc (suc zero)) r zero few h l e = absurd (omega (arith, e))
last_place (suc (suc zero)) r (suc zero) few h l e = bit_2_1 r h
last_place (suc (suc zero)) r (suc (suc i)) few h l e = absurd (omega (arith, l))
last_place (suc (suc (suc zero))) r zero few h l e = absurd (omega (arith, e))
last_place (suc (suc (suc zero))) r (suc zero) few h l e = absurd (omega (arith, e))
last_place (suc (suc (suc zero))) r (suc (suc zero)) few h l e = bit_3_2 r h
last_place (suc (suc (suc zero))) r (suc (suc (suc i))) few h l e = absurd (omega (arith, l))
last_place (suc (suc (suc (suc n)))) r i few h l e = absurd (omega (arith, few))

pub second_last_place : (n r i : ℕ) → n ≤ 3 → r < 2 ^ n → i < n → n - 1 - i ≡ 1 → ((r / 2) % 2 == 1) ≡ bit_at n r i
second_last_place zero r i few h l e = absurd (omega (arith, l))
second_last_place (suc zero) r i few h l e = absurd (omega (arith, e))
second_last_place (suc (suc zero)) r zero few h l e = bit_2_0 r h
second_last_place (suc (suc zero)) r (suc i) few h l e = absurd (omega (arith, e))
second_last_place (suc (suc (suc zero))) r zero few h l e = absurd (omega (arith, e))
second_last_place (suc (suc (suc zero))) r (suc zero) few h l e = bit_3_1 r h
second_last_place (suc (suc (suc zero))) r (suc (suc i)) few h l e = absurd (omega (arith, e))
second_last_place (suc (suc (suc (suc n)))) r i few h l e = absurd (omega (arith, few))

pub third_last_place : (n r i : ℕ) → n ≤ 3 → r < 2 ^ n → i < n → 1 < n - 1 - i → ((r / 4) % 2 == 1) ≡ bit_at n r i
third_last_place zero r i few h l e = absurd (omega (arith, l))
third_last_place (suc zero) r i few h l e = absurd (omega (arith, e))
third_last_place (suc (suc zero)) r i few h l e = absurd (omega (arith, e))
third_last_place (suc (suc (suc zero))) r zero few h l e = bit_3_0 r h
third_last_place (suc (suc (suc zero))) r (suc i) few h l e = absurd (omega (arith, e))
third_last_place (suc (suc (suc (suc n)))) r i few h l e = absurd (omega (arith, few))

-- there is no value past the last
pub past_row : (n r i : ℕ) → r < 2 ^ n → n ≤ i → false ≡ bit_at n r i
past_row n r i h l =
    let there : r < length (rows n) = subst (λ (m : ℕ). r < m) (sym (row_count_is n)) h in
    let long : length (get_or (rows n) r []) ≡ n = row_long (rows n) n r (rows_long n) there in
    sym (get_or_past (get_or (rows n) r []) i false (omega (arith, l, long)))

-- ---- items by what they are

module _ (p : Posed) (n : ℕ) (shape : Shape) (x : Lit) (count : ℕ) (i : Item) (is : i ≡ item.Definition n shape x count) where
  pub definition_clauses_in : clauses_in shape count ≡ length (item_clauses p i)
  definition_clauses_in = sym (count_is p n count shape x) ∙ sym (ap (λ (j : Item). length (item_clauses p j)) is)

  pub definition_below : (k : ℕ) → k < length (item_clauses p i) → k < clauses_in shape count
  definition_below k h = subst (λ (m : ℕ). k < m) (sym definition_clauses_in) h

  pub definition_literals_in : (k : ℕ) → k < length (item_clauses p i) → literals_in shape count k ≡ length (clause_at p i k)
  definition_literals_in k h = sym (length_is p n count shape x k (definition_below k h)) ∙ sym (ap (λ (j : Item). length (clause_at p j k)) is)

  pub definition_literal_is : (k l : ℕ) → k < length (item_clauses p i) → l < length (clause_at p i k) → literal_of_definition p n shape x count k l ≡ get_or (clause_at p i k) l (positive 1)
  definition_literal_is k l h j =
      definition_read p n count shape x k l (definition_below k h) (subst (λ (q : Item). l < length (clause_at p q k)) is j) ∙ sym (ap (λ (q : Item). get_or (clause_at p q k) l (positive 1)) is)

module _ (p : Posed) (n : ℕ) (i : Item) (is : i ≡ item.Address n) where
  pub address_clauses_in : 319 ≡ length (item_clauses p i)
  address_clauses_in = sym (address_count (companion_or p n)) ∙ sym (ap (λ (j : Item). length (item_clauses p j)) is)

  pub address_below : (k : ℕ) → k < length (item_clauses p i) → k < 319
  address_below k h = subst (λ (m : ℕ). k < m) (sym address_clauses_in) h

  pub address_literals_in : (k : ℕ) → k < length (item_clauses p i) → 2 ≡ length (clause_at p i k)
  address_literals_in k h = sym (address_length (companion_or p n) k (address_below k h)) ∙ sym (ap (λ (j : Item). length (clause_at p j k)) is)

  pub address_literal_is : (k l : ℕ) → k < length (item_clauses p i) → l < length (clause_at p i k) → literal_of_address p n k l ≡ get_or (clause_at p i k) l (positive 1)
  address_literal_is k l h j =
      let two : l < 2 = subst (λ (m : ℕ). l < m) (sym (address_literals_in k h)) j in
      address_read (companion_or p n) k l (address_below k h) two ∙ sym (ap (λ (q : Item). get_or (clause_at p q k) l (positive 1)) is)
