-- Two well-formed worlds of one schema and environment with one text are one.
use Rattle.std.proofs.Common.{◌≡◌, List, [], ◌∷◌, map, Option, Some, None, IsSomeAnd, MatchOption, IsTrue, refl, sym, ap, ◌∙◌, subst}
use Rattle.std.specs.List.{AllByRecursion}
use Rattle.serde_json.specs.Data.{object}
use Rattle.serde_json.specs.View.{items_of}
use Rattle.sc_names.specs.declared.uid.Uid.{Uid}
use Rattle.sc_schema.specs.declared.declarations.Env.{Env}
use Rattle.sc_schema.specs.declared.ty.Ty.{Ty}
use Rattle.sc_schema.specs.Declarations.{Declarations, attrs_of, tags_of, context_of}
use Rattle.sc_values.specs.declared.value.Value.{out-Value, out-roll-Value}
use Rattle.sc_values.specs.declared.value.Value.TheOpen as v
use Rattle.sc_values.specs.declared.value.Value.TheVariants.{Record, rolls-Record}
use Rattle.sc_values.specs.Proper.{IsProper, IsProperRecord}
use Rattle.sc_values.specs.Records.{Fields}
use Rattle.sc_world.specs.declared.entity.EntityData.{EntityData}
use Rattle.sc_world.specs.declared.world.Request.{Request}
use Rattle.sc_world.specs.declared.world.World.{World}
use Rattle.sc_world.specs.Stores.{Entities}
use Rattle.sc_world.specs.Conforms.{conforms}
use Rattle.sc_world.specs.WellFormed.{Entry, IsProperEntry, HasAttributes, HasTags, IsWellFormed}
use Rattle.sc_world_json.specs.Text.{fields_data, uid_data, entity_data, world_data, world_text}
use Rattle.sc_world_json.proofs.ProperLaws.{proper_fields}
use Rattle.sc_world_json.proofs.TextLaws.{Field, value_data-Record}
use Rattle.sc_world_json.proofs.TypedLaws.{uid-same, typed-same}
use Rattle.sc_world_json.proofs.WholeLaws.{text-determines}
use Rattle.sc_world_json.proofs.WholeWorlds.{whole-world}

uids-same : (us ws : List Uid) → items_of (map uid_data us) ≡ items_of (map uid_data ws) → us ≡ ws
uids-same [] [] e = refl
uids-same [] (w ∷ ws) e = absurd cc
uids-same (u ∷ us) [] e = absurd cc
uids-same (u ∷ us) (w ∷ ws) e =
    let first : u ≡ w = uid-same u w cc in
    let rest : us ≡ ws = uids-same us ws cc in
    cc

-- ---- attributes and contexts

out_record : (fs : Fields) → out-Value (Record fs) ≡ v.Record fs
out_record fs = ap out-Value (sym (rolls-Record fs)) ∙ out-roll-Value (v.Record fs)

fields_of_records : (fs gs : Fields) → Record fs ≡ Record gs → fs ≡ gs
fields_of_records fs gs e = let layers = sym (out_record fs) ∙ (ap out-Value e ∙ out_record gs) in cc layers

record-same : (o : Option Ty) (fs gs : Fields) → IsProperRecord fs → IsProperRecord gs → IsSomeAnd o (λ t. IsTrue (conforms t (Record fs))) → IsSomeAnd o (λ t. IsTrue (conforms t (Record gs)))
    → fields_data fs ≡ fields_data gs → fs ≡ gs
record-same None fs gs p q h k e = absurd h
record-same (Some t) fs gs p q h k e =
    fields_of_records fs gs (typed-same t (Record fs) (Record gs) p q h k (value_data-Record fs ∙ (ap object e ∙ sym (value_data-Record gs))))

-- ---- tags

abbrev AreOf : Ty → Fields → Type 0
AreOf t fs = AllByRecursion (λ (f : Field). IsTrue (conforms t f.1)) fs

abbrev AreProper : Fields → Type 0
AreProper fs = AllByRecursion (λ (f : Field). IsProper f.1) fs

tags_of_type-same : (t : Ty) (fs gs : Fields) → AreProper fs → AreProper gs → AreOf t fs → AreOf t gs → fields_data fs ≡ fields_data gs → fs ≡ gs
tags_of_type-same t [] [] p q h k e = refl
tags_of_type-same t [] (g ∷ gs) p q h k e = absurd cc
tags_of_type-same t (f ∷ fs) [] p q h k e = absurd cc
tags_of_type-same t (f ∷ fs) (g ∷ gs) p q h k e =
    let names : f.0 ≡ g.0 = cc in
    let values : f.1 ≡ g.1 = typed-same t f.1 g.1 p.0 q.0 h.0 k.0 cc in
    let rest : fs ≡ gs = tags_of_type-same t fs gs p.1 q.1 h.1 k.1 cc in
    let first : ◌≡◌ {A = Field} f g = λ i. (names i, values i) in
    cc

tags-same : (o : Option Ty) (fs gs : Fields) → AreProper fs → AreProper gs → MatchOption o (fs ≡ []) (λ t. AreOf t fs) → MatchOption o (gs ≡ []) (λ t. AreOf t gs) → fields_data fs ≡ fields_data gs → fs ≡ gs
tags-same None fs gs p q h k e = h ∙ sym k
tags-same (Some t) fs gs p q h k e = tags_of_type-same t fs gs p q h k e

-- ---- entities

abbrev entity_of : Fields → List Uid → Fields → EntityData
entity_of attrs ancestors tags = record { attrs = attrs; ancestors = ancestors; tags = tags }

entry-same : (s : Declarations) (x y : Entry) → IsProperEntry x → IsProperEntry y → HasAttributes s x → HasAttributes s y → HasTags s x → HasTags s y → entity_data x ≡ entity_data y → x ≡ y
entry-same s x y p q ha ka ht kt e =
    let uids : x.0 ≡ y.0 = uid-same x.0 y.0 cc in
    let attrs_there = subst (λ (u : Uid). IsSomeAnd (attrs_of s u.type_name) (λ t. IsTrue (conforms t (Record x.1.attrs)))) uids ha in
    let tags_there = subst (λ (u : Uid). MatchOption (tags_of s u.type_name) (x.1.tags ≡ []) (λ t. AreOf t x.1.tags)) uids ht in
    let attrs : x.1.attrs ≡ y.1.attrs = record-same (attrs_of s y.0.type_name) x.1.attrs y.1.attrs p.attrs q.attrs attrs_there ka cc in
    let ancestors : x.1.ancestors ≡ y.1.ancestors = uids-same x.1.ancestors y.1.ancestors cc in
    let tags : x.1.tags ≡ y.1.tags = tags-same (tags_of s y.0.type_name) x.1.tags y.1.tags (proper_fields x.1.tags p.tags) (proper_fields y.1.tags q.tags) tags_there kt cc in
    λ i. (uids i, entity_of (attrs i) (ancestors i) (tags i))

entities-same : (s : Declarations) (xs ys : Entities) → AllByRecursion IsProperEntry xs → AllByRecursion IsProperEntry ys → AllByRecursion (HasAttributes s) xs → AllByRecursion (HasAttributes s) ys
    → AllByRecursion (HasTags s) xs → AllByRecursion (HasTags s) ys → items_of (map entity_data xs) ≡ items_of (map entity_data ys) → xs ≡ ys
entities-same s [] [] p q ha ka ht kt e = refl
entities-same s [] (y ∷ ys) p q ha ka ht kt e = absurd cc
entities-same s (x ∷ xs) [] p q ha ka ht kt e = absurd cc
entities-same s (x ∷ xs) (y ∷ ys) p q ha ka ht kt e =
    let entries : entity_data x ≡ entity_data y = cc in
    let first : x ≡ y = entry-same s x y p.0 q.0 ha.0 ka.0 ht.0 kt.0 entries in
    let rest : xs ≡ ys = entities-same s xs ys p.1 q.1 ha.1 ka.1 ht.1 kt.1 cc in
    cc

-- ---- worlds

abbrev request_of : Uid → Uid → Uid → Fields → Request
request_of principal action resource context = record { principal = principal; action = action; resource = resource; context = context }

abbrev world_of : Request → Entities → World
world_of request store = record { request = request; store = store }

pub text-unique : (s : Declarations) (env : Env) (literals others : List Uid) (w x : World) → IsWellFormed s env literals w → IsWellFormed s env others x → world_text w ≡ world_text x → w ≡ x
unfolding world_text
text-unique s env literals others w x f g e =
    let same = text-determines (world_data w) (world_data x) (whole-world w f.proper) (whole-world x g.proper) e in
    let store : w.store ≡ x.store = entities-same s w.store x.store f.proper.entries g.proper.entries f.attributes g.attributes f.tags g.tags (cc) in
    let principal : w.request.principal ≡ x.request.principal = uid-same _ _ (cc) in
    let action : w.request.action ≡ x.request.action = uid-same _ _ (cc) in
    let resource : w.request.resource ≡ x.request.resource = uid-same _ _ (cc) in
    let context : w.request.context ≡ x.request.context = record-same (context_of s env.action) _ _ f.proper.context g.proper.context f.request.context g.request.context (cc) in
    λ i. world_of (request_of (principal i) (action i) (resource i) (context i)) (store i)
