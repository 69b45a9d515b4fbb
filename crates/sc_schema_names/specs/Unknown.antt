-- The first name of a schema file that nothing declared has, in a walk that takes the members of an object in the
-- order of their bytes.
use Rattle.std.specs.Prelude.{ℕ, ◌+◌, List, [], ◌∷◌, Option, Some, None, option_map, codes}
use Rattle.std.specs.Option.{option_or, option_map_or}
use Rattle.std.specs.Fmt.{decimal}
use Rattle.sc_names.specs.declared.uid.Uid.{Uid}
use Rattle.sc_schema_syntax.specs.declared.attribute.WrittenPresence.{WrittenPresence}
use Rattle.sc_schema_syntax.specs.declared.fault.SchemaFault.{SchemaFault}
use Rattle.sc_schema_syntax.specs.declared.fault.SchemaFault.TheVariants.{UnknownType, UnknownAction}
use Rattle.sc_schema_syntax.specs.declared.written_type.WrittenType.{WrittenType, WrittenType-F, fold-WrittenType}
use Rattle.sc_schema_syntax.specs.declared.written_type.WrittenType.TheOpen as t
use Rattle.sc_schema_syntax.specs.declared.written_action.WrittenAction.{WrittenAction}
use Rattle.sc_schema_syntax.specs.declared.written_action.WrittenParent.{WrittenParent}
use Rattle.sc_schema_syntax.specs.declared.written_common_type.WrittenCommonType.{WrittenCommonType}
use Rattle.sc_schema_syntax.specs.declared.written_entity_type.WrittenEntityType.{WrittenEntityType}
use Rattle.sc_schema_syntax.specs.declared.written_namespace.WrittenNamespace.{WrittenNamespace}
use Rattle.sc_schema_syntax.specs.declared.written_schema.WrittenSchema.{WrittenSchema}
use Rattle.sc_schema_syntax.specs.Pointers.{under}
use Rattle.sc_schema_names.specs.Names.{Known, known_in, entity_type_named, common_type_named, action_named}
use Rattle.sc_schema_names.specs.Resolution.{type_named}

-- ---- the walk over members and items

-- a fault of what stands at this member or item
abbrev pub inside : List ℕ → Option SchemaFault → Option SchemaFault
inside key = option_map (under key)

-- the first fault of members, each of which stands at its key
abbrev pub first_member : {X : Type 0} → (X → List ℕ) → (X → Option SchemaFault) → List X → Option SchemaFault
first_member key fault [] = None
first_member key fault (x ∷ xs) = option_or (inside (key x) (fault x)) (first_member key fault xs)

-- the first fault of the items of a list from this number on
abbrev pub first_item : {X : Type 0} → (X → Option SchemaFault) → ℕ → List X → Option SchemaFault
first_item fault n [] = None
first_item fault n (x ∷ xs) = option_or (inside (decimal n) (fault x)) (first_item fault (n + 1) xs)

-- ---- names

-- the fault that no type has the name, unless one has it
abbrev pub no_type : {X : Type 0} → Option X → Option SchemaFault
no_type None = Some (UnknownType [])
no_type (Some x) = None

-- the fault that no action has the name, unless one has it
abbrev pub no_action : Option Uid → Option SchemaFault
no_action None = Some (UnknownAction [])
no_action (Some uid) = None

abbrev pub entity_type_fault : Known → List ℕ → List ℕ → Option SchemaFault
entity_type_fault known namespace text = no_type (entity_type_named known namespace text)

abbrev pub parent_fault : Known → List ℕ → WrittenParent → Option SchemaFault
parent_fault known namespace parent = no_action (action_named known namespace parent)

-- the first fault of a list of names of entity types
abbrev pub entity_types_fault : Known → List ℕ → List (List ℕ) → Option SchemaFault
entity_types_fault known namespace = first_item (entity_type_fault known namespace) 0

-- ---- types

-- the first fault of a type in a namespace, each type inside it being seen as its first fault
abbrev pub type_fault_step : Known → List ℕ → WrittenType-F (Option SchemaFault) → Option SchemaFault
type_fault_step known namespace t.Boolean = None
type_fault_step known namespace t.Long = None
type_fault_step known namespace t.String = None
type_fault_step known namespace (t.Set element) = inside (codes "element") element
type_fault_step known namespace (t.Record attributes) =
    inside (codes "attributes") (first_member (λ (a : List ℕ × WrittenPresence × Option SchemaFault). a.0) (λ a. a.2)
    attributes)
type_fault_step known namespace (t.Entity name) = inside (codes "name") (entity_type_fault known namespace name)
type_fault_step known namespace (t.Extension kind) = None
type_fault_step known namespace (t.EntityOrCommon name) =
    inside (codes "name") (no_type (type_named known namespace name))
type_fault_step known namespace (t.Common name) =
    inside (codes "type") (no_type (common_type_named known namespace name))

unfoldable pub type_fault : Known → List ℕ → WrittenType → Option SchemaFault
type_fault known namespace = fold-WrittenType (Option SchemaFault) (type_fault_step known namespace)

-- the first fault of a type, if there is one
abbrev pub any_type_fault : Known → List ℕ → Option WrittenType → Option SchemaFault
any_type_fault known namespace type = option_map_or (type_fault known namespace) type None

-- ---- declarations

abbrev pub applies_to_fault : Known → List ℕ → WrittenAction → Option SchemaFault
applies_to_fault known namespace a =
    option_or (inside (codes "context") (any_type_fault known namespace a.context))
    (option_or (inside (codes "principalTypes") (entity_types_fault known namespace a.principals))
    (inside (codes "resourceTypes") (entity_types_fault known namespace a.resources)))

abbrev pub action_fault : Known → List ℕ → WrittenAction → Option SchemaFault
action_fault known namespace a =
    option_or (inside (codes "appliesTo") (applies_to_fault known namespace a))
    (inside (codes "memberOf") (first_item (parent_fault known namespace) 0 a.parents))

abbrev pub common_type_fault : Known → List ℕ → WrittenCommonType → Option SchemaFault
common_type_fault known namespace c = type_fault known namespace c.body

abbrev pub declared_entity_type_fault : Known → List ℕ → WrittenEntityType → Option SchemaFault
declared_entity_type_fault known namespace e =
    option_or (inside (codes "memberOfTypes") (entity_types_fault known namespace e.parents))
    (option_or (inside (codes "shape") (any_type_fault known namespace e.shape))
    (inside (codes "tags") (any_type_fault known namespace e.tags)))

abbrev pub namespace_fault : Known → WrittenNamespace → Option SchemaFault
namespace_fault known n =
    option_or (inside (codes "actions")
    (first_member (λ (a : WrittenAction). a.id) (action_fault known n.name) n.actions))
    (option_or (inside (codes "commonTypes")
    (first_member (λ (c : WrittenCommonType). c.name) (common_type_fault known n.name) n.common_types))
    (inside (codes "entityTypes")
    (first_member (λ (e : WrittenEntityType). e.name) (declared_entity_type_fault known n.name) n.entity_types)))

abbrev pub schema_fault : Known → WrittenSchema → Option SchemaFault
schema_fault known w = first_member (λ (n : WrittenNamespace). n.name) (namespace_fault known) w.namespaces

-- the first fault of a schema file that says this
abbrev pub first_unknown : WrittenSchema → Option SchemaFault
first_unknown w = schema_fault (known_in w) w
