-- The keys at places.
use Rattle.std.proofs.Common.{◌≡◌, ◌⊎◌, ◌<◌, ◌↔◌, ℕ, List, [], ◌∷◌, ◌++◌, true, Option, Some, map, length, get_or, refl, sym, ap, subst, ◌∙◌, inl, inr, Contains, IsTrue}
use Rattle.std.proofs.lemmas.Option.{slice_get_read}
use Rattle.std.specs.BTreeMap.{is_at}
use Rattle.std.specs.Cmp.{IsTotalOrder}
use Rattle.std.specs.List.{AllByRecursion, slice_get}
use Rattle.std.specs.List.Sorted.{IsStrictlySortedBy}
use Rattle.std.specs.Map.{keys_of}
use Rattle.std.specs.Ordering.{nat_cmp}
use Rattle.std.specs.declared.cmp.Ordering.{Ordering}
use Rattle.std.specs.declared.cmp.Ordering.TheVariants.{Less}
use Rattle.std.proofs.lemmas.Bool.{or_left, or_right, or_cases}
use Rattle.sc_lists.proofs.ListLaws.{contains_nothing, contains_split, contains_rest, contains_first}
use Rattle.sc_laws.proofs.OptionLaws.{same_some}
use Rattle.sc_lists.proofs.OrderingLaws.{is_at_itself, is_at_same}
use Rattle.sc_graphs.specs.Reaching.{Reaches}
use Rattle.sc_graphs.specs.Graphs.{has, Follows}
use Rattle.sc_graphs.specs.Keys.{IsOfKeys}
use Rattle.sc_graphs.proofs.KeyLaws.{keys_ascend, to_keys, to_places}
use Rattle.sc_graphs.proofs.PlacesLaws.{less_places}
use Rattle.sc_schema_json.specs.Above.{Links, IsParent, IsAbove, AreAbove, NamesKeys}
use Rattle.sc_schema_json.specs.Graphs.{IsGraphOf}
use Rattle.sc_schema_json.proofs.AboveLaws.{of_keys, key_there}
use Rattle.sc_schema_json.proofs.LinksLaws.{above_key}

-- these are the keys at the places
abbrev pub ArePicked : {K : Type 0} → List K → List ℕ → List K → Type 0
ArePicked all places ks = map Some ks ≡ map (slice_get all) places

picked_place : {K : Type 0} (all ks : List K) (places : List ℕ) (b : K) → ArePicked all places ks → Contains ks b → (p : ℕ) × (has places p ≡ true) × (slice_get all p ≡ Some b)
picked_place all [] places b e c = absurd (contains_nothing b c)
picked_place all (k ∷ ks) [] b e c = absurd cc
picked_place {K} all (k ∷ ks) (p ∷ ps) b e c = elim (contains_split k ks b c) [
  | inl same ↦ (p, or_left _ (has ps p) (is_at_itself p), sym first ∙ ap Some same)
  | inr more ↦ later (picked_place all ks ps b rest more)
] where
  first : Some k ≡ slice_get all p
  first = cc

  rest : ArePicked all ps ks
  rest = cc

  later : (q : ℕ) × (has ps q ≡ true) × (slice_get all q ≡ Some b) → (q : ℕ) × (has (p ∷ ps) q ≡ true) × (slice_get all q ≡ Some b)
  later found = (found.0, or_right (is_at (nat_cmp found.0) p) _ found.1, found.2)

picked_key : {K : Type 0} (all ks : List K) (places : List ℕ) (p : ℕ) (b : K) → ArePicked all places ks → has places p ≡ true → slice_get all p ≡ Some b → Contains ks b
picked_key all ks [] p b e h at = absurd cc
picked_key all [] (q ∷ qs) p b e h at = absurd cc
picked_key {K} all (k ∷ ks) (q ∷ qs) p b e h at = choose (or_cases (is_at (nat_cmp p) q) (has qs p) h) (λ more. picked_key all ks qs p b rest more at) where
  first : Some k ≡ slice_get all q
  first = cc

  rest : ArePicked all qs ks
  rest = cc

  choose : (is_at (nat_cmp p) q ≡ true) ⊎ (has qs p ≡ true) → (has qs p ≡ true → Contains ks b) → Contains (k ∷ ks) b
  choose (inl here) later =
      let same : k ≡ b = same_some (first ∙ (ap (slice_get all) (is_at_same p q here) ∙ at)) in
      subst (λ (x : K). Contains (k ∷ ks) x) same (contains_first k ks)
  choose (inr more) later = contains_rest k ks b (later more)

module _ {K : Type 0} (R : K → K → Ordering) (all : List K) (sorted : IsStrictlySortedBy R all) where
  below_each : (k : K) (p : ℕ) (ks : List K) (places : List ℕ) → slice_get all p ≡ Some k → ArePicked all places ks → AllByRecursion (λ q. nat_cmp p q ≡ Less) places → AllByRecursion (λ y. R k y ≡ Less) ks
  below_each k p [] places h e less = tt
  below_each k p (x ∷ xs) [] h e less = absurd cc
  below_each k p (x ∷ xs) (q ∷ qs) h e less =
      let first : Some x ≡ slice_get all q = cc in
      let rest : ArePicked all qs xs = cc in
      (keys_ascend R all sorted p q k x h (sym first) (less_places p q less.0), below_each k p xs qs h rest less.1)

  picked_ascend : (ks : List K) (places : List ℕ) → ArePicked all places ks → IsStrictlySortedBy nat_cmp places → IsStrictlySortedBy R ks
  unfolding IsStrictlySortedBy
  picked_ascend [] places e a = tt
  picked_ascend (k ∷ ks) [] e a = absurd cc
  picked_ascend (k ∷ ks) (p ∷ ps) e a =
      let first : Some k ≡ slice_get all p = cc in
      let rest : ArePicked all ps ks = cc in
      (below_each k p ks ps (sym first) rest a.0, picked_ascend ks ps rest a.1)

pub all_above : {K : Type 0} {R : K → K → Ordering} (o : IsTotalOrder R) (links : Links K) (graph : List (List ℕ)) (i : ℕ) (places : List ℕ) (ks : List K) (key : K) (above : List K)
    → IsStrictlySortedBy R (keys_of links) → NamesKeys links → IsGraphOf links graph
    → ((n : ℕ) → IsTrue (has places n) ↔ Reaches (Follows graph) i n) → IsStrictlySortedBy nat_cmp places → ArePicked (keys_of links) places ks
    → slice_get links i ≡ Some (key, above) → AreAbove R links key ks
all_above {K} {R} o links graph i places ks key above sorted declared g reached ascending picked h =
    record {
      ascending = picked_ascend R (keys_of links) sorted ks places picked ascending;
      members = λ b. (λ c. forth b (picked_place (keys_of links) ks places b picked c), λ a. back b (to_places keyed a (above_key declared a) i here));
    } where
      keyed : IsOfKeys (keys_of links) (IsParent links) graph
      keyed = of_keys g o sorted

      here : slice_get (keys_of links) i ≡ Some key
      here = key_there links i (key, above) h

      forth : (b : K) → (p : ℕ) × (has places p ≡ true) × (slice_get (keys_of links) p ≡ Some b) → IsAbove links key b
      forth b found =
          let last = to_keys keyed ((reached found.0).0 found.1) key here in
          subst (λ (x : K). IsAbove links key x) (same_some (sym last.1 ∙ found.2)) last.2

      back : (b : K) → (j : ℕ) × (slice_get (keys_of links) j ≡ Some b) × Reaches (Follows graph) i j → Contains ks b
      back b found = picked_key (keys_of links) ks places found.0 b picked ((reached found.0).1 found.2) found.1

map_last : {K : Type 0} (xs : List K) (x : K) → map Some (xs ++ x ∷ []) ≡ map Some xs ++ Some x ∷ []
map_last [] x = refl
map_last {K} (y ∷ ys) x = ap (λ (zs : List (Option K)). Some y ∷ zs) (map_last ys x)

pub picked_put : {K : Type 0} (links : Links K) (place : ℕ) (l : K × List K) (keys new : List K) (k : K) → place < length links → l ≡ get_or links place l → k ≡ (get_or links place l).0 → new ≡ keys ++ k ∷ []
    → map Some new ≡ map Some keys ++ slice_get (keys_of links) place ∷ []
picked_put {K} links place l keys new k within is copy e =
    ap (λ (xs : List K). map Some xs) e ∙ (map_last keys k ∙ ap (λ (o : Option K). map Some keys ++ o ∷ []) (ap Some (copy ∙ ap (λ (m : K × List K). m.0) (sym is)) ∙ sym (key_there links place l (slice_get_read links (length links) place l refl within is))))
