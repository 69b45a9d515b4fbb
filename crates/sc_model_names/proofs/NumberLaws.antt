-- A number that is no id is found among one more than there are entries.
use Rattle.std.proofs.Common.{◌≡◌, ◌<◌, ◌≤◌, ◌+◌, ◌^◌, ◌&&◌, ◌⊎◌, inl, inr, ℕ, zero, suc, Bool, true, false, cond, arith, decimal, List, [], ◌∷◌, map, length, refl, sym, ap, ◌∙◌, subst}
use Rattle.std.proofs.lemmas.Bool.{cases_lt}
use Rattle.std.proofs.lemmas.Fmt.{decimal_is_IsNumeral}
use Rattle.std.proofs.lemmas.List.{length-map}
use Rattle.std.proofs.lemmas.Slice.Eq.{bytes_eq-Decides}
use Rattle.std.specs.Str.{bytes_eq}
use Rattle.std.specs.Str.Parse.{digits_value}
use Rattle.sc_laws.proofs.BoolLaws.{and_second}
use Rattle.sc_lists.proofs.MemberLaws.{Has-map}
use Rattle.sc_lists.specs.Members.{Has}
use Rattle.sc_terms.specs.Trees.{Tree}
use Rattle.sc_rule_laws.specs.Terms.{one_sort}
use Rattle.sc_rule_laws.proofs.MemberLaws.{any_first}
use Rattle.sc_model_laws.specs.Names.{Named}
use Rattle.sc_model_names.specs.Ids.{is_id, least_id}

-- ---- the numbers below one are no more than those among which they all are

abbrev without : (ns : List ℕ) (n : ℕ) → Has ns n → List ℕ
without [] n h = absurd h
without (m ∷ ns) n (inl is) = ns
without (m ∷ ns) n (inr later) = m ∷ without ns n later

length-without : (ns : List ℕ) (n : ℕ) (h : Has ns n) → length ns ≡ suc (length (without ns n h))
length-without [] n h = absurd h
length-without (m ∷ ns) n (inl is) = refl
length-without (m ∷ ns) n (inr later) = ap suc (length-without ns n later)

Has-without : (ns : List ℕ) (n k : ℕ) (h : Has ns n) → Has ns k → (k ≡ n → ⊥) → Has (without ns n h) k
Has-without [] n k h i other = absurd h
Has-without (m ∷ ns) n k (inl is) (inl same) other = absurd (other (sym same ∙ is))
Has-without (m ∷ ns) n k (inl is) (inr later) other = later
Has-without (m ∷ ns) n k (inr there) (inl same) other = inl same
Has-without (m ∷ ns) n k (inr there) (inr later) other = inr (Has-without ns n k there later other)

all_below : (n : ℕ) (ns : List ℕ) → ((k : ℕ) → k < n → Has ns k) → n ≤ length ns
all_below zero ns h = omega arith
all_below (suc n) ns h =
    let there : Has ns n = h n (omega arith) in
    let rest : n ≤ length (without ns n there) = all_below n (without ns n there) (λ k less. Has-without ns n k there (h k (omega (arith, less))) (λ e. omega (arith, less, e))) in
    let size : length ns ≡ suc (length (without ns n there)) = length-without ns n there in
    omega (arith, rest, size)

-- ---- ids that are numbers

module _ (es : Named) (x : Tree) where
  -- the numbers that ids write, as far as they write any
  abbrev numbers : List ℕ
  numbers = map (λ (e : Tree × List ℕ). digits_value 10 e.1) es

  is_number : (n : ℕ) → n < 2 ^ 64 → is_id es x (decimal n) ≡ true → Has (map (λ (e : Tree × List ℕ). digits_value 10 e.1) es) n
  is_number n small h =
      let entry = any_first (λ (e : Tree × List ℕ). one_sort x e.0 && bytes_eq e.1 (decimal n)) es h in
      let same : entry.found.1 ≡ decimal n =
      (bytes_eq-Decides entry.found.1 (decimal n)).0 (and_second (one_sort x entry.found.0) (bytes_eq entry.found.1 (decimal n)) entry.passes) in
      subst (Has (map (λ (e : Tree × List ℕ). digits_value 10 e.1) es)) (ap (digits_value 10) same ∙ (decimal_is_IsNumeral n small).1)
      (Has-map (λ (e : Tree × List ℕ). digits_value 10 e.1) es entry.found entry.there)

  least_or_all : {X : Type 0} (k : ℕ) (ys : List X) → (is_id es x (least_id es x k ys) ≡ false) ⊎ ((n : ℕ) → k ≤ n → n ≤ k + length ys → is_id es x (decimal n) ≡ true)
  unfolding least_id
  least_or_all k [] = by (is_id es x (decimal k)) refl where
    by : (b : Bool) → is_id es x (decimal k) ≡ b → (is_id es x (decimal k) ≡ false) ⊎ ((n : ℕ) → k ≤ n → n ≤ k + 0 → is_id es x (decimal n) ≡ true)
    by false e = inl e
    by true e = inr (λ n more less. let one : k ≡ n = omega (arith, more, less) in subst (λ (z : ℕ). is_id es x (decimal z) ≡ true) one e)
  least_or_all k (y ∷ ys) = by (is_id es x (decimal k)) refl (least_or_all (k + 1) ys) where
    by : (b : Bool) → is_id es x (decimal k) ≡ b → (is_id es x (least_id es x (k + 1) ys) ≡ false) ⊎ ((n : ℕ) → k + 1 ≤ n → n ≤ k + 1 + length ys → is_id es x (decimal n) ≡ true)
        → (is_id es x (cond b (least_id es x (k + 1) ys) (decimal k)) ≡ false) ⊎ ((n : ℕ) → k ≤ n → n ≤ k + suc (length ys) → is_id es x (decimal n) ≡ true)
    by false e rest = inl e
    by true e (inl free) = inl free
    by true e (inr all) = inr (λ n more less. elim (cases_lt k n) [
      | inl above ↦ all n (omega (arith, above)) (omega (arith, less))
      | inr under ↦ (let one : k ≡ n = omega (arith, more, under) in subst (λ (z : ℕ). is_id es x (decimal z) ≡ true) one e)
    ])

  pub least_free : length es < 2 ^ 63 → is_id es x (least_id es x 0 es) ≡ false
  least_free small = elim (least_or_all 0 es) [
    | inl free ↦ free
    | inr all ↦ (
        let most : suc (length es) ≤ length (map (λ (e : Tree × List ℕ). digits_value 10 e.1) es) =
        all_below (suc (length es)) (map (λ (e : Tree × List ℕ). digits_value 10 e.1) es) (λ k less. is_number k (omega (arith, less, small)) (all k (omega arith) (omega (arith, less)))) in
        let size : length (map (λ (e : Tree × List ℕ). digits_value 10 e.1) es) ≡ length es = length-map es (λ (e : Tree × List ℕ). digits_value 10 e.1) in
        absurd (omega (arith, most, size))
        )
  ]
