-- The places of keys among all keys.
use Rattle.std.proofs.Common.{◌≡◌, ◌<◌, ◌⊎◌, ◌||◌, ℕ, List, [], ◌∷◌, ◌++◌, true, false, Some, sym, ap, subst, ◌∙◌, inl, inr, arith, Contains}
use Rattle.std.proofs.lemmas.Bool.{or_cases, or_left, or_right}
use Rattle.std.proofs.lemmas.Bool.Decides.{nat_tests}
use Rattle.std.proofs.lemmas.List.Folds.{list_any-append}
use Rattle.std.proofs.lemmas.List.Elements.{Contains-push, Contains-push_cases, Contains-append_left}
use Rattle.std.specs.BTreeMap.{is_at}
use Rattle.std.specs.List.{slice_get}
use Rattle.std.specs.Ordering.{nat_cmp}
use Rattle.std.specs.declared.cmp.Ordering.TheVariants.{Less}
use Rattle.sc_laws.proofs.BoolLaws.{true_or_false}
use Rattle.sc_lists.proofs.ListLaws.{contains_nothing}
use Rattle.sc_lists.proofs.OrderingLaws.{is_at_same, is_at_itself}
use Rattle.sc_graphs.specs.Graphs.{has}
use Rattle.sc_graphs.specs.Keys.{NamesPlace, ArePlaces}

-- ---- in which order they are

pub less_places : (i j : ℕ) → nat_cmp i j ≡ Less → i < j
less_places i j h = grind (arith, nat_tests)

pub places_less : (i j : ℕ) → i < j → nat_cmp i j ≡ Less
places_less i j h = grind (arith, nat_tests)

-- ---- which they are

pub has_last : (ns : List ℕ) (m n : ℕ) → has (ns ++ m ∷ []) n ≡ (has ns n || (is_at (nat_cmp n) m || false))
has_last ns m n = list_any-append (is_at (nat_cmp n)) ns (m ∷ [])

pub places_first : {K : Type 0} (all : List K) → ArePlaces all [] []
places_first all = record { sound = λ n h. absurd cc; complete = λ k c a. absurd (contains_nothing k c) }

pub place_put : {K : Type 0} (all ks : List K) (k : K) (places new : List ℕ) (at : ℕ) → slice_get all at ≡ Some k → new ≡ places ++ at ∷ [] → ArePlaces all ks places → ArePlaces all (ks ++ k ∷ []) new
place_put {K} all ks k places new at there e p =
    record {
      sound = λ n h. sound_at n (or_cases (has places n) _ (sym (has_last places at n) ∙ (ap (λ (ns : List ℕ). has ns n) (sym e) ∙ h)));
      complete = λ j c a. complete_at j (Contains-push_cases ks k j c) a;
    } where
      sound_at : (n : ℕ) → (has places n ≡ true) ⊎ ((is_at (nat_cmp n) at || false) ≡ true) → NamesPlace all (ks ++ k ∷ []) n
      sound_at n (inl old) =
          let was = p.sound n old in
          record { key = was.key; there = was.there; named = Contains-append_left ks (k ∷ []) was.key was.named }
      sound_at n (inr here) =
          let same : at ≡ n = is_at_same n at (true_or_false _ here) in
          record { key = k; there = subst (λ i. slice_get all i ≡ Some k) same there; named = Contains-push ks k }

      new_has : (n : ℕ) → (has places n || (is_at (nat_cmp n) at || false)) ≡ true → has new n ≡ true
      new_has n h = ap (λ (ns : List ℕ). has ns n) e ∙ (has_last places at n ∙ h)

      complete_at : (j : K) → Contains ks j ⊎ (k ≡ j) → Contains all j → (n : ℕ) × (slice_get all n ≡ Some j) × (has new n ≡ true)
      complete_at j (inl old) a =
          let was = p.complete j old a in
          (was.0, was.1, new_has was.0 (or_left (has places was.0) _ was.2))
      complete_at j (inr here) a =
          (at, there ∙ ap Some here, new_has at (or_right (has places at) _ (or_left (is_at (nat_cmp at) at) false (is_at_itself at))))

pub place_left : {K : Type 0} (all ks : List K) (k : K) (places : List ℕ) → ¬ Contains all k → ArePlaces all ks places → ArePlaces all (ks ++ k ∷ []) places
place_left {K} all ks k places none p =
    record {
      sound = λ n h. (let was = p.sound n h in record { key = was.key; there = was.there; named = Contains-append_left ks (k ∷ []) was.key was.named });
      complete = λ j c a. complete_at j (Contains-push_cases ks k j c) a;
    } where
      complete_at : (j : K) → Contains ks j ⊎ (k ≡ j) → Contains all j → (n : ℕ) × (slice_get all n ≡ Some j) × (has places n ≡ true)
      complete_at j (inl old) a = p.complete j old a
      complete_at j (inr here) a = absurd (none (subst (λ (z : K). Contains all z) (sym here) a))
