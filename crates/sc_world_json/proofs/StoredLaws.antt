-- The entities that a tree says: one after another, and so they ascend by uid, each once.
use Rattle.std.proofs.Common.{◌≡◌, ◌∙◌, ◌+◌, ◌<◌, ℕ, List, [], ◌∷◌, length, get_or, drop, map, codes, Ordering, Less, Equal, Greater, refl, sym, ap, subst}
use Rattle.std.specs.BTreeMap.{insert_entry}
use Rattle.std.specs.List.{AllByRecursion}
use Rattle.std.specs.Ordering.{match_ordering}
use Rattle.serde_json.specs.Data.{Items}
use Rattle.serde_json.specs.Find.{get}
use Rattle.serde_json.specs.View.{view, items_view}
use Rattle.serde_json.specs.declared.value.Value.{Value as Json}
use Rattle.sc_lists.proofs.OrderedLaws.{no_pair_ascends, ascending-insert_entry}
use Rattle.sc_names.specs.declared.uid.Uid.{Uid}
use Rattle.sc_names.specs.Uids.{uid_cmp}
use Rattle.sc_names.proofs.UidLaws.{uid_cmp_total}
use Rattle.sc_world.specs.declared.entity.EntityData.{EntityData}
use Rattle.sc_world.specs.declared.world.World.{World}
use Rattle.sc_world.specs.Stores.{Entities, with_entity, IsMap}
use Rattle.sc_world.specs.WellFormed.{Entry, IsProperEntry}
use Rattle.sc_world_json.specs.Reading.{SpellsWorld}
use Rattle.sc_world_json.specs.Worlds.{elements, elements_of, entity_of, store_with}
use Rattle.sc_json.proofs.WalkLaws.{items_next}

-- ---- one more entity

abbrev entities_from : List Json → ℕ → Entities
entities_from vs n = map entity_of (elements (items_view (drop n vs)))

pub store_next : (whole store new : Entities) (vs : List Json) (n : ℕ) (x : Json) (uid : Uid) (entity : EntityData) → x ≡ get_or vs n x → n < length vs → ◌≡◌ {A = Entry} (uid, entity) (entity_of (view x))
    → new ≡ with_entity uid entity store → store_with store (entities_from vs n) ≡ whole → store_with new (entities_from vs (n + 1)) ≡ whole
store_next whole store new vs n x uid entity here within is put so_far =
    let rest = entities_from vs (n + 1) in
    let next = ap (λ (ds : Items). store_with store (map entity_of (elements ds))) (items_next vs n x here within) in
    let first = ap (λ (y : Entry). store_with (with_entity y.0 y.1 store) rest) is in
    ap (λ (es : Entities). store_with es rest) put ∙ (first ∙ (sym next ∙ so_far))

inserted : (P : Entry → Type 0) (o : Ordering) (a b c : Entities) → AllByRecursion P a → AllByRecursion P b → AllByRecursion P c → AllByRecursion P (match_ordering o a b c)
inserted P Less a b c p q r = p
inserted P Equal a b c p q r = q
inserted P Greater a b c p q r = r

replaced : (x : Entry) (u : Uid) (e : EntityData) → IsProperEntry x → IsProperEntry (u, e) → IsProperEntry (x.0, e)
replaced x u e there here = record { uid = there.uid; attrs = here.attrs; tags = here.tags; ancestors = here.ancestors; ancestor_texts = here.ancestor_texts }

proper_insert : (es : Entities) (u : Uid) (e : EntityData) → AllByRecursion IsProperEntry es → IsProperEntry (u, e) → AllByRecursion IsProperEntry (insert_entry uid_cmp es u e)
proper_insert [] u e all here = (here, tt)
proper_insert (x ∷ es) u e all here = inserted IsProperEntry (uid_cmp u x.0) _ _ _ (here, all) (replaced x u e all.0 here, all.1) (all.0, proper_insert es u e all.1 here)

proper_with_entity : (es : Entities) (u : Uid) (e : EntityData) → AllByRecursion IsProperEntry es → IsProperEntry (u, e) → AllByRecursion IsProperEntry (with_entity u e es)
unfolding with_entity
proper_with_entity es u e all here = proper_insert es u e all here

pub proper_next : (store new : Entities) (uid : Uid) (entity : EntityData) → new ≡ with_entity uid entity store → AllByRecursion IsProperEntry store → IsProperEntry (uid, entity) → AllByRecursion IsProperEntry new
proper_next store new uid entity put all here = subst (AllByRecursion IsProperEntry) (sym put) (proper_with_entity store uid entity all here)

-- ---- the whole

ascending-store_with : (es xs : Entities) → IsMap es → IsMap (store_with es xs)
unfolding with_entity
ascending-store_with es [] ascending = ascending
ascending-store_with es (x ∷ xs) ascending = ascending-store_with (with_entity x.0 x.1 es) xs (ascending-insert_entry uid_cmp_total es x.0 x.1 ascending)

pub stored : (bytes : List ℕ) (w : World) → SpellsWorld bytes w → IsMap w.store
stored bytes w h =
    let entities = map entity_of (elements_of (get (codes "entities") h.d)) in
    subst (λ (x : World). IsMap x.store) (sym h.meant) (ascending-store_with [] entities (no_pair_ascends {K = Uid} {V = EntityData} uid_cmp [] refl))
