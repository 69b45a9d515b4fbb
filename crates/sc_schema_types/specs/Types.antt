-- What the types of a schema stand for, or their first fault.
use Rattle.std.specs.Prelude.{◌≡◌, ◌⊎◌, ℕ, List, [], map, Option, Some, None, option_map, ⊤}
use Rattle.std.specs.List.{flat_map}
use Rattle.sc_lists.specs.declared.fault.Fault.{Fault}
use Rattle.sc_lists.specs.declared.fault.Fault.TheVariants.{Told, NoMemory}
use Rattle.sc_names.specs.declared.uid.Uid.{Uid}
use Rattle.sc_schema.specs.declared.ty.Ty.{Ty}
use Rattle.sc_schema.specs.declared.ty.Ty.TheVariants as ty
use Rattle.sc_schema.specs.declared.resolved_action.ResolvedAction.{ResolvedAction}
use Rattle.sc_schema.specs.declared.resolved_entity_type.ResolvedEntityType.{ResolvedEntityType}
use Rattle.sc_schema.specs.declared.resolved_namespace.ResolvedNamespace.{ResolvedNamespace}
use Rattle.sc_schema.specs.declared.resolved_type.ResolvedType.{ResolvedType}
use Rattle.sc_schema.specs.declared.resolved_schema.ResolvedSchema.{ResolvedSchema}
use Rattle.sc_schema_syntax.specs.declared.fault.SchemaFault.{SchemaFault}
use Rattle.sc_schema.specs.declared.expanded.ExpandedAction.{ExpandedAction}
use Rattle.sc_schema.specs.declared.expanded.ExpandedEntityType.{ExpandedEntityType}
use Rattle.sc_schema.specs.declared.expanded.ExpandedSchema.{ExpandedSchema}
use Rattle.sc_schema.specs.Expanded.{expanded_names, expanded_uids}
use Rattle.sc_schema.specs.Resolved.{entity_types, actions, entity_names, action_uids}
use Rattle.sc_schema_types.specs.References.{Names, references, body_of, Reaches}
use Rattle.sc_schema_types.specs.Orders.{IsOrder, IsTypeCycle}
use Rattle.sc_schema_types.specs.Expansions.{Kinds, kinds_of, Meaning, expanded, IsMeaning}
use Rattle.sc_schema_types.specs.Faults.{fault_of, first_fault}

-- ---- what is expanded

-- the type that is written, or that of records without attributes
abbrev pub record_type : Kinds → Meaning → Option ResolvedType → Ty
record_type kinds m None = ty.Record []
record_type kinds m (Some type) = expanded kinds m type

abbrev pub expanded_action : Kinds → Meaning → ResolvedAction → ExpandedAction
expanded_action kinds m a =
    record {
      uid = a.uid;
      parents = a.parents;
      principals = a.principals;
      resources = a.resources;
      context = record_type kinds m a.context;
    }

abbrev pub expanded_entity_type : Kinds → Meaning → ResolvedEntityType → ExpandedEntityType
expanded_entity_type kinds m t =
    record {
      name = t.name;
      parents = t.parents;
      shape = record_type kinds m t.shape;
      tags = option_map (expanded kinds m) t.tags;
      choices = t.choices;
    }

abbrev pub expanded_by : Kinds → Meaning → ResolvedSchema → ExpandedSchema
expanded_by kinds m s =
    record {
      entity_types =
          flat_map (λ (n : ResolvedNamespace). map (expanded_entity_type kinds m) n.entity_types) s.namespaces;
      actions = flat_map (λ (n : ResolvedNamespace). map (expanded_action kinds m) n.actions) s.namespaces;
    }

-- the same, the entity types being those of the schema
abbrev pub expanded_schema : Meaning → ResolvedSchema → ExpandedSchema
expanded_schema m s = expanded_by (kinds_of s) m s

-- the common types have an order and a meaning, in which no type of the schema has a fault, and this is what the entity
-- types and actions are
pub record IsExpansion (s : ResolvedSchema) (x : ExpandedSchema) : Type 0 where
  pub order : Names
  pub ordered : IsOrder s order
  pub m : Meaning
  pub means : IsMeaning (kinds_of s) (body_of s) m
  pub no_fault : first_fault (fault_of (kinds_of s) m) s ≡ None
  pub schema : x ≡ expanded_schema m s

-- the common types have an order and a meaning, in which this is the first fault of a type of the schema
pub record HasTypeFault (s : ResolvedSchema) (fault : SchemaFault) : Type 0 where
  pub order : Names
  pub ordered : IsOrder s order
  pub m : Meaning
  pub means : IsMeaning (kinds_of s) (body_of s) m
  pub told : first_fault (fault_of (kinds_of s) m) s ≡ Some fault

-- what it says of a schema that its types were refused with this fault
abbrev pub Refuses : ResolvedSchema → Fault SchemaFault → Type 0
Refuses s (Told fault) = HasTypeFault s fault
Refuses s NoMemory = ⊤

-- ---- what holds of each schema

-- where each common type that is named is declared: they have an order, or one is the least that reaches itself, and
-- no more than one; none reaches itself beside an order; with an order there is a meaning, and one expansion or one
-- fault
pub record IsSettled (s : ResolvedSchema) : Type 0 where
  pub order_or_cycle : ((order : Names) × IsOrder s order) ⊎ ((a : List ℕ) × IsTypeCycle s a)
  pub one_cycle : (a b : List ℕ) → IsTypeCycle s a → IsTypeCycle s b → a ≡ b
  pub no_cycle : (order : Names) (a : List ℕ) → IsOrder s order → ¬ Reaches (references (body_of s)) a a
  pub meaning : (order : Names) → IsOrder s order → (m : Meaning) × IsMeaning (kinds_of s) (body_of s) m
  pub either : (order : Names) → IsOrder s order → ((x : ExpandedSchema) × IsExpansion s x)
      ⊎ ((fault : SchemaFault) × HasTypeFault s fault)
  pub one_expansion : (x y : ExpandedSchema) → IsExpansion s x → IsExpansion s y → x ≡ y
  pub one_fault : (a b : SchemaFault) → HasTypeFault s a → HasTypeFault s b → a ≡ b
  pub not_both : (x : ExpandedSchema) (fault : SchemaFault) → IsExpansion s x → ¬ HasTypeFault s fault

-- ---- what an expansion keeps

-- names, each with others
abbrev pub TypesAbove : Type 0
TypesAbove = List (List ℕ × List (List ℕ))

-- uids, each with others
abbrev pub ActionsAbove : Type 0
ActionsAbove = List (Uid × List Uid)

-- the entity types, each with those that its entities may be in
abbrev pub types_above : ResolvedSchema → TypesAbove
types_above s = map (λ (t : ResolvedEntityType). (t.name, t.parents)) (entity_types s)

abbrev pub expanded_types_above : ExpandedSchema → TypesAbove
expanded_types_above x = map (λ (t : ExpandedEntityType). (t.name, t.parents)) x.entity_types

-- the actions, each with those that it is in
abbrev pub actions_above : ResolvedSchema → ActionsAbove
actions_above s = map (λ (a : ResolvedAction). (a.uid, a.parents)) (actions s)

abbrev pub expanded_actions_above : ExpandedSchema → ActionsAbove
expanded_actions_above x = map (λ (a : ExpandedAction). (a.uid, a.parents)) x.actions

-- an expansion has the entity types and the actions of the schema, in the same order and with the same parents
pub record KeepsParents (s : ResolvedSchema) (x : ExpandedSchema) : Type 0 where
  pub names : expanded_names x ≡ entity_names s
  pub above_types : expanded_types_above x ≡ types_above s
  pub uids : expanded_uids x ≡ action_uids s
  pub above_actions : expanded_actions_above x ≡ actions_above s
