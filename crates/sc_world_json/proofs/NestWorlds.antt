-- The JSON of a well-formed world nests at most five levels deeper than a type may.
use Rattle.std.proofs.Common.{◌≡◌, ◌≤◌, ◌+◌, List, [], ◌∷◌, map, Option, Some, None, IsTrue, IfSome, subst, arith}
use Rattle.std.specs.Prelude.{IsSomeAnd, MatchOption}
use Rattle.std.specs.List.{AllByRecursion}
use Rattle.serde_json.specs.Data.{depth, items_depth, members_depth}
use Rattle.serde_json.specs.View.{items_of}
use Rattle.sc_names.specs.declared.uid.Uid.{Uid}
use Rattle.sc_schema.specs.declared.ty.Ty.{Ty}
use Rattle.sc_schema.specs.declared.declarations.Env.{Env}
use Rattle.sc_schema.specs.Declarations.{Declarations, attrs_of, tags_of, context_of}
use Rattle.sc_schema.specs.Lawful.{IsLawful}
use Rattle.sc_schema.specs.Sizes.{levels, max_levels, IsSmall}
use Rattle.sc_schema.proofs.SizesLaws.{attrs_small, tags_small, context_small}
use Rattle.sc_values.specs.declared.value.Value.TheVariants.{Record}
use Rattle.sc_values.specs.Proper.{IsProper, IsProperRecord}
use Rattle.sc_values.specs.Records.{Fields}
use Rattle.sc_world.specs.declared.world.World.{World}
use Rattle.sc_world.specs.Conforms.{conforms}
use Rattle.sc_world.specs.WellFormed.{Entry, IsProperEntry, HasAttributes, HasTags, IsWellFormed}
use Rattle.sc_world_json.specs.PlainKeys.{plain_keys}
use Rattle.sc_world_json.specs.Reading.{SpellsWorld, IsReadable}
use Rattle.sc_world_json.specs.Text.{fields_data, uid_data, entity_data, world_data, world_text}
use Rattle.sc_world_json.proofs.NestLaws.{typed-nests}
use Rattle.sc_world_json.proofs.ProperLaws.{proper_fields}
use Rattle.sc_world_json.proofs.ReadWorlds.{world_reads_back}
use Rattle.sc_world_json.proofs.TextLaws.{Field, value_data-Record}

-- ---- records of types that are small

record-nests : (t : Ty) (fs : Fields) → IsSmall t → IsProperRecord fs → IsTrue (conforms t (Record fs)) → members_depth (fields_data fs) ≤ max_levels
record-nests t fs small p h =
    let nests = subst (λ d. depth d ≤ levels t + 1) (value_data-Record fs) (typed-nests t (Record fs) p h) in
    omega (arith, nests, small.depth)

typed-record : (o : Option Ty) (fs : Fields) → IfSome o IsSmall → IsProperRecord fs → IsSomeAnd o (λ t. IsTrue (conforms t (Record fs))) → members_depth (fields_data fs) ≤ max_levels
typed-record None fs small p h = absurd h
typed-record (Some t) fs small p h = record-nests t fs small p h

each-nests : (t : Ty) (fs : Fields) → IsSmall t → AllByRecursion (λ (f : Field). IsProper f.1) fs → AllByRecursion (λ (f : Field). IsTrue (conforms t f.1)) fs → members_depth (fields_data fs) ≤ max_levels + 1
each-nests t [] small p h = omega arith
each-nests t (f ∷ fs) small p h = omega (arith, typed-nests t f.1 p.0 h.0, small.depth, each-nests t fs small p.1 h.1)

no_tags : (fs : Fields) → fs ≡ [] → members_depth (fields_data fs) ≤ max_levels + 1
no_tags fs e = rw e (omega arith)

tags-nest : (o : Option Ty) (fs : Fields) → IfSome o IsSmall → IsProperRecord fs → MatchOption o (fs ≡ []) (λ t. AllByRecursion (λ (f : Field). IsTrue (conforms t f.1)) fs)
    → members_depth (fields_data fs) ≤ max_levels + 1
tags-nest None fs small p h = no_tags fs h
tags-nest (Some t) fs small p h = each-nests t fs small (proper_fields fs p) h

-- ---- worlds

uids-nest : (us : List Uid) → items_depth (items_of (map uid_data us)) ≤ 1
uids-nest [] = omega arith
uids-nest (u ∷ us) = omega (arith, uids-nest us)

module _ (s : Declarations) (lawful : IsLawful s) where
  entity-nests : (x : Entry) → IsProperEntry x → HasAttributes s x → HasTags s x → depth (entity_data x) ≤ max_levels + 3
  entity-nests x p attrs tags =
      let a = typed-record (attrs_of s x.0.type_name) x.1.attrs (attrs_small s x.0.type_name lawful) p.attrs attrs in
      let t = tags-nest (tags_of s x.0.type_name) x.1.tags (tags_small s x.0.type_name lawful) p.tags tags in
      omega (arith, a, t, uids-nest x.1.ancestors)

  entities-nest : (xs : List Entry) → AllByRecursion IsProperEntry xs → AllByRecursion (HasAttributes s) xs → AllByRecursion (HasTags s) xs → items_depth (items_of (map entity_data xs)) ≤ max_levels + 3
  entities-nest [] p attrs tags = omega arith
  entities-nest (x ∷ xs) p attrs tags = omega (arith, entity-nests x p.0 attrs.0 tags.0, entities-nest xs p.1 attrs.1 tags.1)

  pub world-nests : (env : Env) (literals : List Uid) (w : World) → IsWellFormed s env literals w → depth (world_data w) ≤ max_levels + 5
  world-nests env literals w h =
      let context = typed-record (context_of s env.action) w.request.context (context_small s env.action lawful) h.proper.context h.request.context in
      omega (arith, context, entities-nest w.store h.proper.entries h.attributes h.tags)

pub world-readable : (s : Declarations) (env : Env) (literals : List Uid) (w : World) → IsLawful s → IsWellFormed s env literals w → IsTrue (plain_keys w) → IsReadable w
world-readable s env literals w lawful h plain = record { proper = h.proper; plain = plain; nests = omega (arith, world-nests s lawful env literals w h) }

pub world-replayable : (s : Declarations) (env : Env) (literals : List Uid) (w : World) → IsLawful s → IsWellFormed s env literals w → IsTrue (plain_keys w) → SpellsWorld (world_text w) w
world-replayable s env literals w lawful h plain = world_reads_back w (world-readable s env literals w lawful h plain)
