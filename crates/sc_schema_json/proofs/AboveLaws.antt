-- The graph of links is one of their keys.
use Rattle.std.proofs.Common.{◌≡◌, ◌<◌, ◌↔◌, ◌||◌, ℕ, List, [], ◌∷◌, Bool, true, false, Option, Some, zero, suc, length, refl, sym, ap, subst, Contains, IsTrue, All}
use Rattle.std.proofs.lemmas.List.Elements.{All-from_recursion}
use Rattle.std.specs.BTreeMap.{is_at}
use Rattle.std.specs.Cmp.{IsTotalOrder}
use Rattle.std.specs.List.{AllByRecursion, slice_get}
use Rattle.std.specs.List.Sorted.{IsStrictlySortedBy}
use Rattle.std.specs.Map.{keys_of}
use Rattle.std.specs.Option.{option_map_or}
use Rattle.std.specs.Ordering.{nat_cmp}
use Rattle.std.specs.declared.cmp.Ordering.{Ordering}
use Rattle.sc_lists.proofs.ListLaws.{contains_place}
use Rattle.sc_laws.proofs.OptionLaws.{same_some}
use Rattle.sc_lists.proofs.OrderingLaws.{is_at_itself}
use Rattle.sc_graphs.specs.Reaching.{Reaches}
use Rattle.sc_graphs.specs.Graphs.{has, Follows}
use Rattle.sc_graphs.specs.Keys.{IsOfKeys}
use Rattle.sc_graphs.proofs.GraphLaws.{reached_within, of_places}
use Rattle.sc_graphs.proofs.KeyLaws.{place_of, one_place}
use Rattle.sc_schema_json.specs.Above.{Links, IsParent}
use Rattle.sc_schema_json.specs.Graphs.{IsGraphOf, parents_at}

-- ---- places of links and of keys

pub key_there : {K : Type 0} (links : Links K) (i : ℕ) (l : K × List K) → slice_get links i ≡ Some l → slice_get (keys_of links) i ≡ Some (l.0)
key_there [] i l h = absurd cc
key_there {K} (m ∷ ms) zero l h = ap (λ (x : K × List K). Some x.0) (same_some h)
key_there (m ∷ ms) (suc i) l h = key_there ms i l h

link_there : {K : Type 0} (links : Links K) (i : ℕ) (k : K) → slice_get (keys_of links) i ≡ Some k → (above : List K) × (slice_get links i ≡ Some (k, above))
link_there [] i k h = absurd cc
link_there {K} (m ∷ ms) zero k h = (m.1, ap (λ (x : K). Some (x, m.1)) (same_some h))
link_there (m ∷ ms) (suc i) k h = link_there ms i k h

parents_there : {K : Type 0} (links : Links K) (i : ℕ) (k : K) (above : List K) → slice_get links i ≡ Some (k, above) → parents_at links i ≡ above
parents_there {K} links i k above h = ap (λ (o : Option (K × List K)). option_map_or (λ (x : K × List K). x.1) o []) h

-- ---- from places to keys

pub length_keys : {K : Type 0} (links : Links K) → length (keys_of links) ≡ length links
length_keys [] = refl
length_keys (l ∷ ls) = ap suc (length_keys ls)

module _ {K : Type 0} {links : Links K} {graph : List (List ℕ)} (g : IsGraphOf links graph) {R : K → K → Ordering} (o : IsTotalOrder R) (sorted : IsStrictlySortedBy R (keys_of links)) where
  is_parent : (i : ℕ) (a b : K) → slice_get (keys_of links) i ≡ Some a → Contains (parents_at links i) b → IsParent links a b
  is_parent i a b at named =
      let l = link_there links i a at in
      record {
        above = l.0;
        listed = contains_place links i (a, l.0) l.1;
        parent = subst (λ (ks : List K). Contains ks b) (parents_there links i a l.0 l.1) named;
      }

  named_there : (i : ℕ) (a b : K) → slice_get (keys_of links) i ≡ Some a → IsParent links a b → Contains (parents_at links i) b
  named_there i a b at p =
      let found = place_of links (a, p.above) p.listed in
      let same : found.0 ≡ i = one_place R (keys_of links) sorted o found.0 i a (key_there links found.0 (a, p.above) found.1) at in
      let here : slice_get links i ≡ Some (a, p.above) = subst (λ n. slice_get links n ≡ Some (a, p.above)) same found.1 in
      subst (λ (ks : List K). Contains ks b) (sym (parents_there links i a p.above here)) p.parent

  is_key : (a b : K) → IsParent links a b → Contains (keys_of links) a
  is_key a b p =
      let found = place_of links (a, p.above) p.listed in
      contains_place (keys_of links) found.0 a (key_there links found.0 (a, p.above) found.1)

  pub of_keys : IsOfKeys (keys_of links) (IsParent links) graph
  of_keys = of_places g (IsParent links) (sym (length_keys links)) is_parent named_there is_key

-- ---- what is reached is a place of a link

all_within : {K : Type 0} (links : Links K) {graph : List (List ℕ)} → IsGraphOf links graph → (i : ℕ) (places : List ℕ) → ((n : ℕ) → has places n ≡ true → Reaches (Follows graph) i n) → AllByRecursion (λ n. n < length links) places
all_within links g i [] reached = tt
all_within {K} links g i (p ∷ ps) reached =
    (subst (λ m. p < m) (length_keys links) (reached_within g (reached p (first (is_at_itself p)))), all_within links g i ps (λ n h. reached n (later (is_at (nat_cmp n) p) (has ps n) h))) where
      first : is_at (nat_cmp p) p ≡ true → has (p ∷ ps) p ≡ true
      first h = ap (λ (b : Bool). b || has ps p) h

      later : (b c : Bool) → c ≡ true → (b || c) ≡ true
      later true c e = refl
      later false c e = e

pub places_within : {K : Type 0} (links : Links K) (graph : List (List ℕ)) (i : ℕ) (places : List ℕ) → IsGraphOf links graph → ((n : ℕ) → IsTrue (has places n) ↔ Reaches (Follows graph) i n) → All (λ n. n < length links) places
places_within links graph i places g reached = All-from_recursion (λ n. n < length links) places (all_within links g i places (λ n h. (reached n).0 h))
