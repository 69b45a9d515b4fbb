-- The search for three items that breach transitivity, one after the other.
use Rattle.std.proofs.Common.{◌≡◌, ℕ, ◌<◌, ◌≤◌, ◌+◌, ◌==◌, List, length, get_or, Bool, true, false, Option, Some, None, inl, inr, ⊎_elim, refl, sym, ◌∙◌, subst, arith, eq-eqb, if◌then◌else◌}
use Rattle.std.proofs.lemmas.Bool.{cases_lt, cases_eq}
use Rattle.std.proofs.lemmas.List.{get_or_past}
use Rattle.sc_falsified.specs.Truths.{Truth, NoneIntransitive}
use Rattle.sc_falsified.specs.Classes.{AreLabels}
use Rattle.sc_falsified.specs.Chains.{NoneBetween, NoneFrom, IsRow, seen}
use Rattle.sc_laws.proofs.NumberLaws.{last_or_before}

seen_by : (t : Bool) (known : Option Bool) (v : Bool) → (if t then known else None) ≡ Some v → known ≡ Some v
seen_by true known v e = e
seen_by false known v e = absurd cc

seen_same : (truth : Truth) (labels : List ℕ) (a b : ℕ) → get_or labels b 0 ≡ get_or labels a 0 → seen truth labels a b ≡ truth a b
seen_same truth labels a b e = rw (eq-eqb (get_or labels b 0) (get_or labels a 0) e) refl

module _ (truth : Truth) (n : ℕ) where
  -- an item between two was looked at, or it doesn't equal the first
  pub between_skip : (a c b : ℕ) → ¬ (truth a b ≡ Some true) → NoneBetween truth b a c → NoneBetween truth (b + 1) a c
  between_skip a c b other h d less e =
      ⊎_elim (λ l. h d l e) (λ (same : d ≡ b). absurd (other (subst (λ m. truth a m ≡ Some true) same e))) (last_or_before d b less)

  pub between_unseen : (row : List (Option Bool)) (a c b : ℕ) → IsRow truth n a row → b < length row → ¬ (get_or row b None ≡ Some true)
      → NoneBetween truth b a c → NoneBetween truth (b + 1) a c
  between_unseen row a c b h less other = let size = h.sized in between_skip a c b (λ e. other (h.equal b (omega arith) e))

  pub between_last : (a c b : ℕ) → ¬ (truth b c ≡ Some true) → NoneBetween truth b a c → NoneBetween truth (b + 1) a c
  between_last a c b other h d less e =
      ⊎_elim (λ l. h d l e) (λ (same : d ≡ b) both. other (subst (λ m. truth m c ≡ Some true) same both)) (last_or_before d b less)

  pub from_next : (a c : ℕ) → NoneBetween truth n a c → NoneFrom truth n c a → NoneFrom truth n (c + 1) a
  from_next a c between h d after less e =
      ⊎_elim (λ l. h d after l e) (λ (same : d ≡ c). subst (λ m. NoneBetween truth n a m) (sym same) between) (last_or_before d c less)

  pub from_unseen : (row : List (Option Bool)) (a c : ℕ) → IsRow truth n a row → c < length row → ¬ (get_or row c None ≡ Some false)
      → NoneFrom truth n c a → NoneFrom truth n (c + 1) a
  from_unseen row a c h less other rest d after below e =
      let size = h.sized in
      ⊎_elim (λ l. rest d after l e)
      (λ (same : d ≡ c).
      ⊎_elim (λ has. absurd (other has)) (λ none. subst (λ m. NoneBetween truth n a m) (sym same) none)
      (h.apart c (omega arith) (subst (λ m. truth a m ≡ Some false) same e)))
      (last_or_before d c below)

  -- no item lies between items of two labels
  pub row_is : (labels : List ℕ) (row : List (Option Bool)) (a : ℕ) → AreLabels truth n labels → a < n → length row ≡ n
      → ((b : ℕ) → b < n → get_or row b None ≡ seen truth labels a b) → IsRow truth n a row
  row_is labels row a h bound size at = record {
    sized = size;
    known = λ b v e.
        ⊎_elim (λ (l : b < n). seen_by (get_or labels b 0 == get_or labels a 0) (truth a b) v (sym (at b l) ∙ e))
        (λ (l : n ≤ b). let past = get_or_past row b None (omega arith) in absurd cc)
        (cases_lt b n);
    equal = λ b less e. at b less ∙ seen_same truth labels a b (sym (h.joined a b bound less e)) ∙ e;
    apart = λ c less e.
        ⊎_elim (λ (same : get_or labels c 0 ≡ get_or labels a 0). inl (at c less ∙ seen_same truth labels a c same ∙ e))
        (λ other. inr (λ b below one two. other (sym (h.joined a b bound below one ∙ h.joined b c below less two))))
        (cases_eq (get_or labels c 0) (get_or labels a 0));
  }

  pub from_each : (a : ℕ) → NoneFrom truth n n a → ((b : ℕ) → b < a → NoneFrom truth n n b) → (b : ℕ) → b < a + 1 → NoneFrom truth n n b
  from_each a now h b less = ⊎_elim (λ l. h b l) (λ (same : b ≡ a). subst (λ m. NoneFrom truth n n m) (sym same) now) (last_or_before b a less)

  pub none_intransitive : ((i j : ℕ) → truth i j ≡ truth j i) → ((i : ℕ) → ¬ (truth i i ≡ Some false)) → ((a : ℕ) → a < n → NoneFrom truth n n a) → NoneIntransitive truth n
  none_intransitive symmetric reflexive h a b c one two three is =
      ⊎_elim (λ (l : a < c). h a one c l three is.third b two is.first is.second)
      (λ (k : c ≤ a). ⊎_elim
      (λ (l : c < a). h c three a l one (symmetric c a ∙ is.third) b two (symmetric c b ∙ is.second) (symmetric b a ∙ is.first))
      (λ (l : a ≤ c). reflexive a (subst (λ m. truth a m ≡ Some false) (omega arith) is.third))
      (cases_lt c a))
      (cases_lt a c)
