-- Clauses by their numbers and literals by their places.
use Rattle.std.proofs.Common.{◌≡◌, ◌<◌, ◌+◌, ◌*◌, ◌^◌, ◌==◌, ℕ, zero, suc, Bool, true, false, List, [], ◌∷◌, map, length, get_or, refl, sym, ap, ◌∙◌, arith, length-append, pow-suc}
use Rattle.std.proofs.Math.Seq.{get_or-append_seam}
use Rattle.std.proofs.lemmas.Bool.Decides.{nat_tests}
use Rattle.std.proofs.lemmas.List.{length-map, get_or-map, get_or_append_left}
use Rattle.std.specs.List.{AllByRecursion}
use Rattle.sc_clauses.specs.declared.lit.Lit.{Lit}
use Rattle.sc_clauses.specs.Clauses.{Clause, negation}
use Rattle.sc_term_definitions.specs.declared.function.Function.{Function}
use Rattle.sc_term_definitions.specs.declared.function.Shape.TheVariants.{Table}
use Rattle.sc_term_definitions.specs.Definitions.{counted}
use Rattle.sc_term_definitions.specs.Functions.{value_of, rows, is_turned}
use Rattle.sc_footprint.specs.Definitions.{differs, has_value, differ_all, row, table, conjunction, turned}
use Rattle.th_defs.specs.ClauseLaws.{rows_long}
use Rattle.th_defs.specs.Items.{turned_if}

-- ---- lists by places

pub read_counted : {X : Type 0} (f : ℕ → X) (from n i : ℕ) (d : X) → i < n → get_or (map f (counted from n)) i d ≡ f (from + i)
unfolding counted
read_counted f from zero i d h = absurd (omega (arith, h))
read_counted f from (suc n) zero d h = let e : from ≡ from + 0 = omega arith in ap f e
read_counted f from (suc n) (suc i) d h = let e : suc from + i ≡ from + suc i = omega arith in read_counted f (suc from) n i d (omega (arith, h)) ∙ ap f e

-- ---- rows of truth tables

pub row_count_is : (n : ℕ) → length (rows n) ≡ 2 ^ n
unfolding rows
row_count_is zero = refl
row_count_is (suc n) =
    let e = row_count_is n in
    length-append (map (λ (us : List Bool). false ∷ us) (rows n)) (map (λ (us : List Bool). true ∷ us) (rows n))
    ∙ ap (λ (k : ℕ). k + length (map (λ (us : List Bool). true ∷ us) (rows n))) (length-map (rows n) (λ (us : List Bool). false ∷ us) ∙ e)
    ∙ ap (λ (k : ℕ). 2 ^ n + k) (length-map (rows n) (λ (us : List Bool). true ∷ us) ∙ e) ∙ doubled (2 ^ n) ∙ sym (pow-suc 2 n)
  where
    doubled : (k : ℕ) → k + k ≡ k * 2
    doubled k = omega arith

pub row_long : (rs : List (List Bool)) (n k : ℕ) → AllByRecursion (λ vs. length vs ≡ n) rs → k < length rs → length (get_or rs k []) ≡ n
row_long [] n k h l = absurd (omega (arith, l))
row_long (r ∷ rs) n zero h l = h.0
row_long (r ∷ rs) n (suc k) h l = row_long rs n k h.1 (omega (arith, l))

pub turned_long : (t : Bool) (ls : List Lit) → length (turned t ls) ≡ length ls
turned_long true [] = refl
turned_long true (l ∷ []) = refl
turned_long true (l ∷ m ∷ ls) = refl
turned_long false ls = refl

differ_long : (ls : List Lit) (vs : List Bool) → length vs ≡ length ls → length (differ_all ls vs) ≡ length ls
differ_long [] vs e = refl
differ_long (l ∷ ls) [] e = absurd (omega (arith, e))
differ_long (l ∷ ls) (v ∷ vs) e = ap suc (differ_long ls vs (omega (arith, e)))

differ_read : (ls : List Lit) (vs : List Bool) (i : ℕ) (d : Lit) → length vs ≡ length ls → i < length ls → get_or (differ_all ls vs) i d ≡ differs (get_or ls i d) (get_or vs i false)
differ_read [] vs i d e h = absurd (omega (arith, h))
differ_read (l ∷ ls) [] i d e h = absurd (omega (arith, e))
differ_read (l ∷ ls) (v ∷ vs) zero d e h = refl
differ_read (l ∷ ls) (v ∷ vs) (suc i) d e h = differ_read ls vs i d (omega (arith, e)) (omega (arith, h))

-- of a difference the second input is negated
turned_read : (f : Function) (t : Bool) (ls : List Lit) (i : ℕ) (d : Lit) → i < length ls → get_or (turned t ls) i d ≡ turned_if (is_turned (Table f t) i) (get_or ls i d)
turned_read f false ls i d h = refl
turned_read f true [] i d h = absurd (omega (arith, h))
turned_read f true (l ∷ []) zero d h = refl
turned_read f true (l ∷ []) (suc i) d h = absurd (omega (arith, h))
turned_read f true (l ∷ m ∷ ls) zero d h = refl
turned_read f true (l ∷ m ∷ ls) (suc zero) d h = refl
turned_read f true (l ∷ m ∷ ls) (suc (suc i)) d h = let e : (suc (suc i) == 1) ≡ false = grind (arith, nat_tests) in rw e refl

module _ (f : Function) (t : Bool) (x : Lit) (ls : List Lit) (k : ℕ) (below : k < length (rows (length ls))) where
  same_rows : rows (length (turned t ls)) ≡ rows (length ls)
  same_rows = ap rows (turned_long t ls)

  row_is : get_or (table f x (turned t ls)) k [] ≡ row f x (turned t ls) (get_or (rows (length ls)) k [])
  row_is = ap (λ (rs : List (List Bool)). get_or (map (row f x (turned t ls)) rs) k []) same_rows ∙ get_or-map (row f x (turned t ls)) (rows (length ls)) k [] [] below

  values_long : length (get_or (rows (length ls)) k []) ≡ length (turned t ls)
  values_long = row_long (rows (length ls)) (length ls) k (rows_long (length ls)) below ∙ sym (turned_long t ls)

  pub row_length : length (get_or (table f x (turned t ls)) k []) ≡ length ls + 1
  row_length =
      ap length row_is ∙ length-append (differ_all (turned t ls) (get_or (rows (length ls)) k [])) (has_value x (value_of f (get_or (rows (length ls)) k [])) ∷ [])
      ∙ ap (λ (n : ℕ). n + 1) (differ_long (turned t ls) (get_or (rows (length ls)) k []) values_long ∙ turned_long t ls)

  pub row_input : (i : ℕ) (d : Lit) → i < length ls → get_or (get_or (table f x (turned t ls)) k []) i d ≡ differs (turned_if (is_turned (Table f t) i) (get_or ls i d)) (get_or (get_or (rows (length ls)) k []) i false)
  row_input i d h =
      let long : length (differ_all (turned t ls) (get_or (rows (length ls)) k [])) ≡ length ls = differ_long (turned t ls) (get_or (rows (length ls)) k []) values_long ∙ turned_long t ls in
      let same = turned_long t ls in
      ap (λ (c : Clause). get_or c i d) row_is
      ∙ get_or_append_left (differ_all (turned t ls) (get_or (rows (length ls)) k [])) (has_value x (value_of f (get_or (rows (length ls)) k [])) ∷ []) d i (omega (arith, h, long))
      ∙ differ_read (turned t ls) (get_or (rows (length ls)) k []) i d values_long (omega (arith, h, same))
      ∙ ap (λ (l : Lit). differs l (get_or (get_or (rows (length ls)) k []) i false)) (turned_read f t ls i d h)

  pub row_whole : (d : Lit) → get_or (get_or (table f x (turned t ls)) k []) (length ls) d ≡ has_value x (value_of f (get_or (rows (length ls)) k []))
  row_whole d =
      let long : length (differ_all (turned t ls) (get_or (rows (length ls)) k [])) ≡ length ls = differ_long (turned t ls) (get_or (rows (length ls)) k []) values_long ∙ turned_long t ls in
      ap (λ (c : Clause). get_or c (length ls) d) row_is
      ∙ ap (λ (n : ℕ). get_or (row f x (turned t ls) (get_or (rows (length ls)) k [])) n d) (sym long)
      ∙ get_or-append_seam (differ_all (turned t ls) (get_or (rows (length ls)) k [])) (has_value x (value_of f (get_or (rows (length ls)) k []))) [] d

-- ---- all of some

module _ (x : Lit) (ls : List Lit) where
  abbrev pairs : List Clause
  pairs = map (λ (l : Lit). negation x ∷ l ∷ []) ls

  pairs_long : length pairs ≡ length ls
  pairs_long = length-map ls (λ (l : Lit). negation x ∷ l ∷ [])

  pub conjunction_count : length (conjunction x ls) ≡ length ls + 1
  conjunction_count = length-append pairs ((x ∷ map negation ls) ∷ []) ∙ ap (λ (n : ℕ). n + 1) pairs_long

  pub conjunction_pair : (k : ℕ) (d : Lit) → k < length ls → get_or (conjunction x ls) k [] ≡ negation x ∷ get_or ls k d ∷ []
  conjunction_pair k d h =
      let e = pairs_long in
      get_or_append_left pairs ((x ∷ map negation ls) ∷ []) [] k (omega (arith, h, e)) ∙ get_or-map (λ (l : Lit). negation x ∷ l ∷ []) ls k d [] h

  pub conjunction_last : get_or (conjunction x ls) (length ls) [] ≡ x ∷ map negation ls
  conjunction_last = ap (λ (n : ℕ). get_or (conjunction x ls) n []) (sym pairs_long) ∙ get_or-append_seam pairs (x ∷ map negation ls) [] []
