-- The first fault of the types of a schema, in a walk that takes the members of an object in the order of their bytes.
use Rattle.std.specs.Prelude.{List, [], ◌∷◌, ℕ, Option, Some, None, option_map, if◌then◌else◌, codes}
use Rattle.std.specs.Option.{option_or}
use Rattle.sc_schema.specs.declared.ty.Ty.{Ty}
use Rattle.sc_schema.specs.declared.resolved_action.ResolvedAction.{ResolvedAction}
use Rattle.sc_schema.specs.declared.resolved_common_type.ResolvedCommonType.{ResolvedCommonType}
use Rattle.sc_schema.specs.declared.resolved_entity_type.ResolvedEntityType.{ResolvedEntityType}
use Rattle.sc_schema.specs.declared.resolved_namespace.ResolvedNamespace.{ResolvedNamespace}
use Rattle.sc_schema.specs.declared.resolved_type.ResolvedType.{ResolvedType}
use Rattle.sc_schema.specs.declared.resolved_schema.ResolvedSchema.{ResolvedSchema}
use Rattle.sc_schema_syntax.specs.declared.fault.SchemaFault.{SchemaFault}
use Rattle.sc_schema_syntax.specs.declared.fault.SchemaFault.TheVariants.{NotRecord, TypeTooLarge}
use Rattle.sc_schema_syntax.specs.Pointers.{under}
use Rattle.sc_schema_types.specs.declared.wanted.Wanted.{Wanted}
use Rattle.sc_schema_types.specs.declared.wanted.Wanted.TheVariants.{AnyType, RecordType}
use Rattle.sc_schema_types.specs.Sizes.{is_too_large, is_record}
use Rattle.sc_schema_types.specs.Expansions.{Kinds, Meaning, expanded}

-- the fault of a type that may be any
abbrev pub size_fault : Ty → Option SchemaFault
size_fault u = if is_too_large u then Some (TypeTooLarge []) else None

-- the fault of a type where this is wanted, at its own place
abbrev pub type_fault : Wanted → Ty → Option SchemaFault
type_fault AnyType u = size_fault u
type_fault RecordType u = if is_record u then size_fault u else Some (NotRecord [])

-- which fault each type has where this is wanted, at its own place
abbrev pub Judge : Type 0
Judge = Wanted → ResolvedType → Option SchemaFault

-- that of what it stands for
abbrev pub fault_of : Kinds → Meaning → Judge
fault_of kinds m wanted type = type_fault wanted (expanded kinds m type)

-- a fault at the member of this name
abbrev pub inside : List ℕ → Option SchemaFault → Option SchemaFault
inside key fault = option_map (under key) fault

-- the first fault among those of a list
abbrev pub first : {X : Type 0} → (X → Option SchemaFault) → List X → Option SchemaFault
first fault [] = None
first fault (x ∷ xs) = option_or (fault x) (first fault xs)

-- the fault of a type that may be absent
abbrev pub optional_fault : Judge → Wanted → Option ResolvedType → Option SchemaFault
optional_fault judge wanted None = None
optional_fault judge wanted (Some type) = judge wanted type

abbrev pub action_fault : Judge → ResolvedAction → Option SchemaFault
action_fault judge a = inside a.uid.id
    (inside (codes "appliesTo") (inside (codes "context") (optional_fault judge RecordType a.context)))

abbrev pub common_type_fault : Judge → ResolvedCommonType → Option SchemaFault
common_type_fault judge c = inside c.key (judge AnyType c.body)

abbrev pub entity_type_fault : Judge → ResolvedEntityType → Option SchemaFault
entity_type_fault judge t =
    inside t.key (option_or (inside (codes "shape") (optional_fault judge RecordType t.shape))
    (inside (codes "tags") (optional_fault judge AnyType t.tags)))

abbrev pub namespace_fault : Judge → ResolvedNamespace → Option SchemaFault
namespace_fault judge n =
    inside n.name (option_or (inside (codes "actions") (first (action_fault judge) n.actions))
    (option_or (inside (codes "commonTypes") (first (common_type_fault judge) n.common_types))
    (inside (codes "entityTypes") (first (entity_type_fault judge) n.entity_types))))

-- the first fault of a schema
abbrev pub first_fault : Judge → ResolvedSchema → Option SchemaFault
first_fault judge s = first (namespace_fault judge) s.namespaces
