-- Bytes spell a schema or have a fault: what each step of reading is given it takes, or it has a fault.
use Rattle.std.proofs.Common.{◌⊎◌, ◌<◌, ◌≤◌, ℕ, List, length, inl, inr}
use Rattle.std.proofs.lemmas.Bool.{cases_lt}
use Rattle.sc_names.specs.Uids.{uid_cmp}
use Rattle.sc_names.specs.declared.uid.Uid.{Uid}
use Rattle.sc_schema.specs.Declarations.{Declarations, environments}
use Rattle.sc_schema_syntax.specs.Syntax as syntax
use Rattle.sc_schema_syntax.specs.declared.fault.SchemaFault.{SchemaFault}
use Rattle.sc_schema_syntax.specs.declared.fault.SchemaFault.TheVariants.{TypeCycle, ActionCycle, TooManyEnvironments}
use Rattle.sc_schema_syntax.specs.declared.written_schema.WrittenSchema.{WrittenSchema}
use Rattle.sc_schema_names.specs.Resolves as names
use Rattle.sc_schema.specs.Expanded.{IsExpanded}
use Rattle.sc_schema.specs.Resolved.{IsResolved}
use Rattle.sc_schema.specs.declared.expanded.ExpandedSchema.{ExpandedSchema}
use Rattle.sc_schema.specs.declared.resolved_schema.ResolvedSchema.{ResolvedSchema}
use Rattle.sc_schema_types.specs.References.{Names}
use Rattle.sc_schema_types.specs.Orders.{IsOrder, IsTypeCycle, cycle}
use Rattle.sc_schema_types.specs.Types as types
use Rattle.sc_schema_json.specs.Above.{NoCycle, IsLeastCycle}
use Rattle.sc_schema_json.specs.Schemas.{IsSchemaOf}
use Rattle.sc_schema_json.specs.Spelling.{max_environments, links_of, IsOrdered, IsAcyclic, Means, Describes, HasFaultOf, of_common_types, of_actions, of_types, of_environments, Declares, Spells, HasFault, of_form, of_names, of_schema}
use Rattle.sc_schema_json.proofs.MadeLaws.{made_schema, action_cycle_or_none}

-- what the call below promises of types that are written out
abbrev pub AreTypesExpanded : Type 0
AreTypesExpanded = (r : ResolvedSchema) (x : ExpandedSchema) → IsResolved r → types.IsExpansion r x → IsExpanded x

-- ---- what is declared

abbrev Described : ResolvedSchema → Type 0
Described r = ((s : Declarations) × Describes r s) ⊎ ((fault : SchemaFault) × HasFaultOf r fault)

module _ (expands : AreTypesExpanded) (r : ResolvedSchema) (resolved : IsResolved r) (settled : types.IsSettled r) where
  counted : (s : Declarations) → Means r s → Described r
  counted s means = at (cases_lt max_environments (length (environments s))) where
    at : (max_environments < length (environments s)) ⊎ (length (environments s) ≤ max_environments) → Described r
    at (inl many) = inr (TooManyEnvironments, of_environments s means many)
    at (inr few) = inl (s, record { means = means; few = few })

  expanded : IsAcyclic r → (x : ExpandedSchema) → types.IsExpansion r x → Described r
  expanded acyclic x expansion = of (made_schema x (expands r x resolved expansion)) where
    of : (s : Declarations) × IsSchemaOf x s → Described r
    of made = counted made.0 (record { acyclic = acyclic; expanded = x; types = expansion; schema = made.1 })

  acyclic : (order : Names) → IsOrder r order → IsAcyclic r → Described r
  acyclic order ordered none = at (settled.either order ordered) where
    at : ((x : ExpandedSchema) × types.IsExpansion r x) ⊎ ((fault : SchemaFault) × types.HasTypeFault r fault) → Described r
    at (inl found) = expanded none found.0 found.1
    at (inr fault) = inr (fault.0, of_types fault.0 none fault.1)

  ordered : (order : Names) → IsOrder r order → Described r
  ordered order is = at (action_cycle_or_none (links_of r)) where
    types_ordered : IsOrdered r
    types_ordered = record { order = order; ordered = is }

    at : ((u : Uid) × IsLeastCycle uid_cmp (links_of r) u) ⊎ NoCycle (links_of r) → Described r
    at (inl found) = inr (ActionCycle found.0, of_actions found.0 types_ordered found.1)
    at (inr none) = acyclic order is (record { types = types_ordered; actions = none })

  described : Described r
  described = at settled.order_or_cycle where
    at : ((order : Names) × IsOrder r order) ⊎ ((name : List ℕ) × IsTypeCycle r name) → Described r
    at (inl found) = ordered found.0 found.1
    at (inr found) = inr (TypeCycle found.0, of_common_types (TypeCycle found.0) (cycle found.0 found.1))

-- ---- from the bytes on

module _ (bytes : List ℕ) (form : syntax.IsSettled bytes) (resolution : (w : WrittenSchema) → names.IsSettled w)
    (resolves : (r : ResolvedSchema) → Declares bytes r → IsResolved r) (typing : (r : ResolvedSchema) → IsResolved r → types.IsSettled r)
    (expands : AreTypesExpanded) where
  abbrev Read : Type 0
  Read = ((s : Declarations) × Spells bytes s) ⊎ ((fault : SchemaFault) × HasFault bytes fault)

  of_declared : (r : ResolvedSchema) → Declares bytes r → Read
  of_declared r declares = at (described expands r (resolves r declares) (typing r (resolves r declares))) where
    at : Described r → Read
    at (inl found) = inl (found.0, record { resolved = r; declares = declares; describes = found.1 })
    at (inr fault) = inr (fault.0, of_schema r fault.0 declares fault.1)

  of_written : (w : WrittenSchema) → syntax.Spells bytes w → Read
  of_written w written = at ((resolution w).either) where
    at : ((r : ResolvedSchema) × names.Resolves w r) ⊎ ((fault : SchemaFault) × names.HasUnknown w fault) → Read
    at (inl found) = of_declared found.0 (record { written = w; form = written; names = found.1 })
    at (inr fault) = inr (fault.0, of_names w fault.0 written fault.1)

  pub schema_or_fault : Read
  schema_or_fault = at form.either where
    at : ((w : WrittenSchema) × syntax.Spells bytes w) ⊎ ((fault : SchemaFault) × syntax.HasFault bytes fault) → Read
    at (inl found) = of_written found.0 found.1
    at (inr fault) = inr (fault.0, of_form fault.0 fault.1)
