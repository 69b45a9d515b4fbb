-- What holds of each schema that a file spells: the names of the members of an object ascend by their bytes, each
-- once, and each is one that a member there may have.
use Rattle.std.specs.Prelude.{◌≡◌, ◌≢◌, ◌≤◌, ℕ, List, [], length, map, true, None, IfSome, ⊤}
use Rattle.std.specs.List.{AllByRecursion, IsDistinct}
use Rattle.std.specs.List.Sorted.{IsStrictlySortedBy}
use Rattle.std.specs.Str.{IsUtf8, bytes_eq}
use Rattle.sc_names.specs.Uids.{text_cmp}
use Rattle.sc_schema_syntax.specs.declared.attribute.WrittenPresence.{WrittenPresence}
use Rattle.sc_schema_syntax.specs.declared.level.Level.{Level}
use Rattle.sc_schema_syntax.specs.declared.level.Level.TheVariants as level
use Rattle.sc_schema_syntax.specs.declared.written_type.WrittenType.{WrittenType, WrittenType-F, every-WrittenType}
use Rattle.sc_schema_syntax.specs.declared.written_type.WrittenType.TheOpen as t
use Rattle.sc_schema_syntax.specs.declared.written_action.WrittenAction.{WrittenAction}
use Rattle.sc_schema_syntax.specs.declared.written_common_type.WrittenCommonType.{WrittenCommonType}
use Rattle.sc_schema_syntax.specs.declared.written_entity_type.WrittenEntityType.{WrittenEntityType}
use Rattle.sc_schema_syntax.specs.declared.written_namespace.WrittenNamespace.{WrittenNamespace}
use Rattle.sc_schema_syntax.specs.declared.written_schema.WrittenSchema.{WrittenSchema}
use Rattle.sc_schema_syntax.specs.Forms.{is_name, most_choices}

-- the names of the members of an object of this level
pub record AreNames (l : Level) (names : List (List ℕ)) : Type 0 where
  pub ascending : IsStrictlySortedBy text_cmp names
  pub texts : AllByRecursion IsUtf8 names
  pub admitted : AllByRecursion (λ name. is_name l name ≡ true) names

-- ---- types

abbrev pub attribute_names : List (List ℕ × WrittenPresence × WrittenType) → List (List ℕ)
attribute_names = map (λ (a : List ℕ × WrittenPresence × WrittenType). a.0)

-- a type, but for the types inside it
abbrev pub IsWrittenLevel : WrittenType-F WrittenType → Type 0
IsWrittenLevel t.Boolean = ⊤
IsWrittenLevel t.Long = ⊤
IsWrittenLevel t.String = ⊤
IsWrittenLevel (t.Set element) = ⊤
IsWrittenLevel (t.Record attributes) = AreNames level.Attributes (attribute_names attributes)
IsWrittenLevel (t.Entity name) = ⊤
IsWrittenLevel (t.Extension kind) = ⊤
IsWrittenLevel (t.EntityOrCommon name) = ⊤
IsWrittenLevel (t.Common name) = ⊤

abbrev pub IsWrittenType : WrittenType → Type 0
IsWrittenType = every-WrittenType IsWrittenLevel

-- ---- declarations

-- the choices of an entity type: texts, each once
pub record AreWrittenChoices (ids : List (List ℕ)) : Type 0 where
  pub texts : AllByRecursion IsUtf8 ids
  pub distinct : IsDistinct bytes_eq ids
  pub few : length ids ≤ most_choices

-- of an enumerated type nothing else is said
pub record IsWrittenBare (e : WrittenEntityType) : Type 0 where
  pub attributes : e.shape ≡ None
  pub tagless : e.tags ≡ None
  pub apart : e.parents ≡ []

pub record IsWrittenEntityType (e : WrittenEntityType) : Type 0 where
  pub shape_type : IfSome e.shape IsWrittenType
  pub tag_type : IfSome e.tags IsWrittenType
  pub ids : AreWrittenChoices e.choices
  pub bare : e.choices ≢ [] → IsWrittenBare e

pub record IsWrittenNamespace (n : WrittenNamespace) : Type 0 where
  pub ids : AreNames level.Actions (map (λ (a : WrittenAction). a.id) n.actions)
  pub common_names : AreNames level.CommonTypes (map (λ (c : WrittenCommonType). c.name) n.common_types)
  pub entity_names : AreNames level.EntityTypes (map (λ (e : WrittenEntityType). e.name) n.entity_types)
  pub each_action : AllByRecursion (λ (a : WrittenAction). IfSome a.context IsWrittenType) n.actions
  pub each_common : AllByRecursion (λ (c : WrittenCommonType). IsWrittenType c.body) n.common_types
  pub each_entity : AllByRecursion IsWrittenEntityType n.entity_types

pub record IsWritten (w : WrittenSchema) : Type 0 where
  pub names : AreNames level.Schema (map (λ (n : WrittenNamespace). n.name) w.namespaces)
  pub each_namespace : AllByRecursion IsWrittenNamespace w.namespaces
