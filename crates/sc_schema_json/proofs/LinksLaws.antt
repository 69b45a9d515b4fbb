-- What stands above what, by any list of the same links.
use Rattle.std.proofs.Common.{◌≡◌, List, [], ◌∷◌, map, refl, sym, ap, subst, Contains, IsPermutation}
use Rattle.std.specs.List.{AllByRecursion}
use Rattle.std.specs.Map.{keys_of}
use Rattle.std.specs.declared.cmp.Ordering.{Ordering}
use Rattle.std.proofs.lemmas.List.Sorted.{Contains-permutation, IsPermutation-map, IsPermutation-sym}
use Rattle.sc_lists.proofs.ListLaws.{all_element, all_of_elements, contains_from_map}
use Rattle.sc_graphs.specs.Reaching.{step, on}
use Rattle.sc_schema_json.specs.Above.{Links, IsParent, IsAbove, AreAbove, NamesKeys}

-- what stands above a key stands directly above it, or above one that does
pub first_parent : {K : Type 0} {links : Links K} {a b : K} → IsAbove links a b → (c : K) × IsParent links a c
first_parent (step a b p) = (b, p)
first_parent (on a b c p r) = (b, p)

-- ---- the same links, the same above

pub above_within : {K : Type 0} (links others : Links K) → ((l : K × List K) → Contains links l → Contains others l) → {a b : K} → IsAbove links a b → IsAbove others a b
above_within links others has (step a b p) = step a b (record { above = p.above; listed = has (a, p.above) p.listed; parent = p.parent })
above_within links others has (on a b c p r) = on a b c (record { above = p.above; listed = has (a, p.above) p.listed; parent = p.parent }) (above_within links others has r)

pub are_above_permuted : {K : Type 0} (R : K → K → Ordering) (links others : Links K) (a : K) (ks : List K) → IsPermutation links others → AreAbove R others a ks → AreAbove R links a ks
are_above_permuted R links others a ks permutation above =
    record {
      ascending = above.ascending;
      members = λ b. (
        λ has. above_within others links (λ l. Contains-permutation others links l (IsPermutation-sym links others permutation)) ((above.members b).0 has),
        λ is. (above.members b).1 (above_within links others (λ l. Contains-permutation links others l permutation) is),
      );
    }

pub named_permuted : {K : Type 0} (links others : Links K) → IsPermutation links others → NamesKeys links → NamesKeys others
named_permuted {K} links others permutation named =
    all_of_elements (λ (l : K × List K). AllByRecursion (Contains (keys_of others)) l.1) others (λ l has.
    all_of_elements (Contains (keys_of others)) l.1 (λ k above.
    Contains-permutation (keys_of links) (keys_of others) k (IsPermutation-map (λ (m : K × List K). m.0) links others permutation)
    (all_element (Contains (keys_of links)) l.1 k (all_element (λ (m : K × List K). AllByRecursion (Contains (keys_of links)) m.1) links l named (Contains-permutation others links l (IsPermutation-sym links others permutation) has)) above)))

-- ---- chains

pub above_above : {K : Type 0} {links : Links K} {a b : K} (c : K) → IsAbove links a b → IsAbove links b c → IsAbove links a c
above_above c (step a b p) r = on a b c p r
above_above c (on a b d p q) r = on a b c p (above_above c q r)

-- what stands above a key, and what something stands above, is a key

parent_key : {K : Type 0} {links : Links K} {a b : K} → NamesKeys links → IsParent links a b → Contains (keys_of links) b
parent_key {K} {links} {a} {b} named p =
    all_element (Contains (keys_of links)) p.above b (all_element (λ (l : K × List K). AllByRecursion (Contains (keys_of links)) l.1) links (a, p.above) named p.listed) p.parent

pub above_key : {K : Type 0} {links : Links K} {a b : K} → NamesKeys links → IsAbove links a b → Contains (keys_of links) b
above_key named (step a b p) = parent_key named p
above_key named (on a b c p r) = above_key named r

pub below_link : {K : Type 0} {links : Links K} {a b : K} → IsAbove links a b → (above : List K) × Contains links (a, above)
below_link (step a b p) = (p.above, p.listed)
below_link (on a b c p r) = (p.above, p.listed)

-- ---- the links of declarations

pub keys_of_links : {K D : Type 0} (key : D → K) (above : D → List K) (ds : List D) → keys_of (map (λ (d : D). (key d, above d)) ds) ≡ map key ds
keys_of_links key above [] = refl
keys_of_links {K} key above (d ∷ ds) = ap (λ (ks : List K). key d ∷ ks) (keys_of_links key above ds)

pub links_named : {K D : Type 0} (key : D → K) (above : D → List K) (ds : List D) → ((d : D) → Contains ds d → AllByRecursion (Contains (map key ds)) (above d)) → NamesKeys (map (λ (d : D). (key d, above d)) ds)
links_named {K} {D} key above ds each =
    all_of_elements (λ (l : K × List K). AllByRecursion (Contains (keys_of (map (λ (d : D). (key d, above d)) ds))) l.1) (map (λ (d : D). (key d, above d)) ds)
    (λ l has. one l (contains_from_map (λ (d : D). (key d, above d)) ds l has)) where
      one : (l : K × List K) → (d : D) × Contains ds d × ((key d, above d) ≡ l) → AllByRecursion (Contains (keys_of (map (λ (d : D). (key d, above d)) ds))) l.1
      one l found =
          subst (λ (m : K × List K). AllByRecursion (Contains (keys_of (map (λ (d : D). (key d, above d)) ds))) m.1) found.2
          (subst (λ (ks : List K). AllByRecursion (Contains ks) (above found.0)) (sym (keys_of_links key above ds)) (each found.0 found.1))
