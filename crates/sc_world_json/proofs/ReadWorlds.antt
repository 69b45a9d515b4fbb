-- The text of a world that is made of values with plain names spells the world.
use Rattle.std.proofs.Common.{◌≡◌, ◌∙◌, ◌+◌, ◌++◌, ℕ, List, [], ◌∷◌, append_assoc, append-nil, map, false, Some, None, IsTrue, Less, Greater, refl, sym, ap, ap₂, subst}
use Rattle.std.specs.BTreeMap.{insert_entry, is_at}
use Rattle.std.specs.BTreeSet.{insert_key}
use Rattle.std.specs.List.{AllByRecursion, list_all}
use Rattle.std.specs.List.Sorted.{IsStrictlySortedBy}
use Rattle.std.specs.Map.{keys_of}
use Rattle.std.specs.Ordering.{ordering_reverse, is_eq}
use Rattle.std.proofs.lemmas.Map.Keys.{sorted_head, sorted_tail}
use Rattle.std.proofs.lemmas.Bool.{and_parts}
use Rattle.serde_json.specs.Data.{Data}
use Rattle.serde_json.specs.View.{items_of}
use Rattle.sc_lists.specs.Ordered.{is_in}
use Rattle.sc_lists.proofs.OrderedLaws.{is_in-insert_key}
use Rattle.sc_names.specs.declared.uid.Uid.{Uid}
use Rattle.sc_names.specs.Uids.{uid_cmp}
use Rattle.sc_names.proofs.UidLaws.{uid_cmp_total, uid_cmp_level}
use Rattle.sc_values.specs.Proper.{IsProperRecord}
use Rattle.sc_values.specs.Records.{Fields}
use Rattle.sc_world.specs.declared.entity.EntityData.{EntityData}
use Rattle.sc_world.specs.declared.world.Request.{Request}
use Rattle.sc_world.specs.declared.world.World.{World}
use Rattle.sc_world.specs.Stores.{Entities, with_entity}
use Rattle.sc_world.specs.WellFormed.{Entry, IsProperEntry, IsProperWorld}
use Rattle.sc_world_json.specs.declared.form.Form.TheVariants as form
use Rattle.sc_world_json.specs.declared.level.Level.TheVariants as level
use Rattle.sc_world_json.specs.Faults.{value_fault, items_fault, entities_fault, first_fault}
use Rattle.sc_world_json.specs.PlainKeys.{are_plain, is_plain_entry, plain_keys}
use Rattle.sc_world_json.specs.Reading.{SpellsWorld, IsReadable}
use Rattle.sc_world_json.specs.Text.{uid_data, uids_data, entity_data, request_data, world_data, world_text}
use Rattle.sc_world_json.specs.Worlds.{elements, uid_of, in_order, entity_of, store_with, world_of}
use Rattle.sc_world_json.proofs.InOrderLaws.{in_order-same}
use Rattle.sc_world_json.proofs.ReadValues.{record_no_fault, record_said}
use Rattle.sc_world_json.proofs.TidyLaws.{tree_of_text}
use Rattle.sc_world_json.proofs.TidyWorlds.{tidy-world}
use Rattle.sc_world_json.proofs.WholeWorlds.{whole-world}

elements-items_of : (ds : List Data) → elements (items_of ds) ≡ ds
elements-items_of [] = refl
elements-items_of (d ∷ ds) = ap (λ (es : List Data). d ∷ es) (elements-items_of ds)

-- ---- uids

uid_no_fault : (u : Uid) → value_fault (form.Object level.Uid) (uid_data u) ≡ None
unfolding value_fault
uid_no_fault u = refl

uids-no_fault : (us : List Uid) (n : ℕ) → items_fault (form.Object level.Uid) n (items_of (map uid_data us)) ≡ None
unfolding value_fault
uids-no_fault [] n = refl
uids-no_fault (u ∷ us) n = uids-no_fault us (n + 1)

parents_no_fault : (us : List Uid) → value_fault form.Uids (uids_data us) ≡ None
unfolding value_fault
parents_no_fault us = uids-no_fault us 0

uids-said : (us : List Uid) → map (λ d. uid_of (Some d)) (elements (items_of (map uid_data us))) ≡ us
uids-said [] = refl
uids-said (u ∷ us) = ap (λ (ws : List Uid). u ∷ ws) (uids-said us)

parents_said : (us : List Uid) → IsStrictlySortedBy uid_cmp us → in_order uid_cmp (map (λ d. uid_of (Some d)) (elements (items_of (map uid_data us)))) ≡ us
parents_said us ascending = ap (in_order uid_cmp) (uids-said us) ∙ in_order-same uid_cmp_total uid_cmp_level us ascending

-- ---- entities

abbrev entity_with : Fields → List Uid → Fields → EntityData
entity_with attrs ancestors tags = record { attrs = attrs; ancestors = ancestors; tags = tags }

entity_form : (x : Entry) → IsProperEntry x → IsTrue (is_plain_entry x) → value_fault (form.Object level.Entity) (entity_data x) ≡ None
unfolding value_fault
entity_form x h p =
    let plain = and_parts _ _ p in
    let attrs = record_no_fault x.1.attrs h.attrs plain.0 in
    let parents = parents_no_fault x.1.ancestors in
    let tags = record_no_fault x.1.tags h.tags plain.1 in
    rw (attrs, parents, tags) refl

entity_said : (x : Entry) → IsProperEntry x → IsTrue (is_plain_entry x) → entity_of (entity_data x) ≡ x
entity_said x h p =
    let plain = and_parts _ _ p in
    let attrs = record_said x.1.attrs h.attrs plain.0 in
    let parents = parents_said x.1.ancestors h.ancestors in
    let tags = record_said x.1.tags h.tags plain.1 in
    λ i. (x.0, entity_with (attrs i) (parents i) (tags i))

abbrev AreReadable : Entities → Type 0
AreReadable es = AllByRecursion IsProperEntry es × IsTrue (list_all is_plain_entry es)

entities_said : (es : Entities) → AllByRecursion IsProperEntry es → IsTrue (list_all is_plain_entry es) → map entity_of (elements (items_of (map entity_data es))) ≡ es
entities_said [] h p = refl
entities_said (x ∷ es) h p =
    let plain = and_parts _ _ p in
    ap₂ (λ (y : Entry) (ys : Entities). y ∷ ys) (entity_said x h.0 plain.0) (entities_said es h.1 plain.1)

-- ---- no uid is stored twice

abbrev AreNew : List Uid → Entities → Type 0
AreNew before es = AllByRecursion (λ u. is_in uid_cmp u before ≡ false) (keys_of es)

turned : (a b : Uid) → uid_cmp a b ≡ Less → is_at (uid_cmp b) a ≡ false
turned a b less =
    let above : uid_cmp b a ≡ Greater = uid_cmp_total.antisymm b a ∙ ap ordering_reverse less in
    ap is_eq above

still_new : (before : List Uid) (u : Uid) (es : Entities) → AreNew before es → AllByRecursion (λ y. uid_cmp u y ≡ Less) (keys_of es) → AreNew (insert_key uid_cmp before u) es
still_new before u [] new below = tt
still_new before u (x ∷ es) new below =
    let apart = turned u x.0 below.0 in
    (is_in-insert_key uid_cmp_total before u x.0 ∙ rw (new.0, apart) refl, still_new before u es new.1 below.1)

entities-no_fault : (es : Entities) (before : List Uid) (n : ℕ) → AllByRecursion IsProperEntry es → IsTrue (list_all is_plain_entry es) → IsStrictlySortedBy uid_cmp (keys_of es) → AreNew before es
    → entities_fault before n (items_of (map entity_data es)) ≡ None
unfolding entities_fault
entities-no_fault [] before n h p ascending new = refl
entities-no_fault (x ∷ es) before n h p ascending new =
    let plain = and_parts _ _ p in
    let here = entity_form x h.0 plain.0 in
    let later = entities-no_fault es (insert_key uid_cmp before x.0) (n + 1) h.1 plain.1 (sorted_tail uid_cmp x.0 (keys_of es) ascending) (still_new before x.0 es new.1 (sorted_head uid_cmp x.0 (keys_of es) ascending)) in
    rw (here, new.0, later) refl

none_before : (es : Entities) → AreNew [] es
none_before [] = tt
none_before (x ∷ es) = (refl, none_before es)

-- ---- the store, entity by entity

below_later : (u : Uid) (done : Entities) (x : Entry) (more : Entities) → AllByRecursion (λ y. uid_cmp u y ≡ Less) (keys_of (done ++ x ∷ more)) → uid_cmp u x.0 ≡ Less
below_later u [] x more h = h.0
below_later u (y ∷ done) x more h = below_later u done x more h.1

insert_last : (done : Entities) (x : Entry) (more : Entities) → IsStrictlySortedBy uid_cmp (keys_of (done ++ x ∷ more)) → insert_entry uid_cmp done x.0 x.1 ≡ done ++ x ∷ []
insert_last [] x more h = refl
insert_last (y ∷ done) x more h =
    let above : uid_cmp x.0 y.0 ≡ Greater = uid_cmp_total.antisymm x.0 y.0 ∙ ap ordering_reverse (below_later y.0 done x more (sorted_head uid_cmp y.0 (keys_of (done ++ x ∷ more)) h)) in
    rw above (ap (λ (es : Entities). y ∷ es) (insert_last done x more (sorted_tail uid_cmp y.0 (keys_of (done ++ x ∷ more)) h)))

store_made : (es done : Entities) → IsStrictlySortedBy uid_cmp (keys_of (done ++ es)) → store_with done es ≡ done ++ es
unfolding with_entity
store_made [] done h = sym (append-nil done)
store_made (x ∷ es) done h =
    let last = insert_last done x es h in
    let split : (done ++ x ∷ []) ++ es ≡ done ++ x ∷ es = append_assoc done (x ∷ []) es in
    let sorted = subst (λ (zs : Entities). IsStrictlySortedBy uid_cmp (keys_of zs)) (sym split) h in
    ap (λ (zs : Entities). store_with zs es) last ∙ (store_made es (done ++ x ∷ []) sorted ∙ split)

-- ---- worlds

abbrev request_with : Uid → Uid → Uid → Fields → Request
request_with principal action resource context = record { principal = principal; action = action; resource = resource; context = context }

abbrev world_with : Request → Entities → World
world_with request store = record { request = request; store = store }

request_form : (r : Request) → IsProperRecord r.context → IsTrue (are_plain r.context) → value_fault (form.Object level.Request) (request_data r) ≡ None
unfolding value_fault
request_form r h p = let context = record_no_fault r.context h p in rw context refl

world_no_fault : (w : World) → IsProperWorld w → IsTrue (plain_keys w) → first_fault (world_data w) ≡ None
world_no_fault w h p =
    let plain = and_parts _ _ p in
    let store = entities-no_fault w.store [] 0 h.entries plain.1 h.store (none_before w.store) in
    let request = request_form w.request h.context plain.0 in
    rw (store, request) refl

world_said : (w : World) → IsProperWorld w → IsTrue (plain_keys w) → world_of (world_data w) ≡ w
world_said w h p =
    let plain = and_parts _ _ p in
    let context = record_said w.request.context h.context plain.0 in
    let store = ap (store_with []) (entities_said w.store h.entries plain.1) ∙ store_made w.store [] h.store in
    λ i. world_with (request_with w.request.principal w.request.action w.request.resource (context i)) (store i)

pub world_reads_back : (w : World) → IsReadable w → SpellsWorld (world_text w) w
unfolding world_text
world_reads_back w h = record {
  d = world_data w;
  tree = tree_of_text (world_data w) (whole-world w h.proper) (tidy-world w h.proper) h.nests;
  no_fault = world_no_fault w h.proper h.plain;
  meant = sym (world_said w h.proper h.plain);
}
