-- Which bytes spell which schema, and which fault they have.
use Rattle.std.specs.Prelude.{◌≡◌, ◌⊎◌, ◌≤◌, ◌<◌, ℕ, List, length, ⊤}
use Rattle.sc_lists.specs.declared.fault.Fault.{Fault}
use Rattle.sc_lists.specs.declared.fault.Fault.TheVariants.{Told, NoMemory}
use Rattle.sc_names.specs.declared.uid.Uid.{Uid}
use Rattle.sc_names.specs.Uids.{uid_cmp}
use Rattle.sc_schema.specs.Declarations.{Declarations, environments}
use Rattle.sc_schema_syntax.specs.declared.fault.SchemaFault.{SchemaFault}
use Rattle.sc_schema_syntax.specs.declared.fault.SchemaFault.TheVariants.{ActionCycle, TooManyEnvironments}
use Rattle.sc_schema_syntax.specs.declared.written_schema.WrittenSchema.{WrittenSchema}
use Rattle.sc_schema_syntax.specs.Syntax as syntax
use Rattle.sc_schema_names.specs.Resolves.{Resolves, HasUnknown}
use Rattle.sc_schema.specs.declared.resolved_schema.ResolvedSchema.{ResolvedSchema}
use Rattle.sc_schema.specs.declared.expanded.ExpandedSchema.{ExpandedSchema}
use Rattle.sc_schema.specs.Resolved.{actions}
use Rattle.sc_schema_types.specs.References.{Names}
use Rattle.sc_schema_types.specs.Orders.{IsOrder, HasTypeCycle}
use Rattle.sc_schema_types.specs.Types.{IsExpansion, HasTypeFault}
use Rattle.sc_schema_json.specs.Above.{Links, NoCycle, IsLeastCycle}
use Rattle.sc_schema_json.specs.Schemas.{resolved_links, IsSchemaOf}

-- how many environments a schema may have
abbrev pub max_environments : ℕ
max_environments = 10000

-- the actions that a schema declares, each with those that it is directly in
abbrev pub links_of : ResolvedSchema → Links Uid
links_of r = resolved_links (actions r)

-- no common type reaches itself
pub record IsOrdered (r : ResolvedSchema) : Type 0 where
  pub order : Names
  pub ordered : IsOrder r order

-- and no action is in itself
pub record IsAcyclic (r : ResolvedSchema) : Type 0 where
  pub types : IsOrdered r
  pub actions : NoCycle (links_of r)

-- and each type is of the right form and size: these are the declarations
pub record Means (r : ResolvedSchema) (s : Declarations) : Type 0 where
  pub acyclic : IsAcyclic r
  pub expanded : ExpandedSchema
  pub types : IsExpansion r expanded
  pub schema : IsSchemaOf expanded s

-- and there aren't too many environments
pub record Describes (r : ResolvedSchema) (s : Declarations) : Type 0 where
  pub means : Means r s
  pub few : length (environments s) ≤ max_environments

-- the fault that a schema has first, each name in it being known
pub data HasFaultOf (r : ResolvedSchema) : SchemaFault → Type 0 where
  of_common_types : (fault : SchemaFault) → HasTypeCycle r fault → HasFaultOf r fault
  of_actions : (u : Uid) → IsOrdered r → IsLeastCycle uid_cmp (links_of r) u → HasFaultOf r (ActionCycle u)
  of_types : (fault : SchemaFault) → IsAcyclic r → HasTypeFault r fault → HasFaultOf r fault
  of_environments : (s : Declarations) → Means r s → max_environments < length (environments s)
      → HasFaultOf r TooManyEnvironments

-- the bytes are of the form, and each name in them is known: this is what they declare
pub record Declares (bytes : List ℕ) (r : ResolvedSchema) : Type 0 where
  pub written : WrittenSchema
  pub form : syntax.Spells bytes written
  pub names : Resolves written r

-- the bytes spell a schema
pub record Spells (bytes : List ℕ) (s : Declarations) : Type 0 where
  pub resolved : ResolvedSchema
  pub declares : Declares bytes resolved
  pub describes : Describes resolved s

-- the fault that the bytes have first: of their form, of a name, or of what they declare
pub data HasFault (bytes : List ℕ) : SchemaFault → Type 0 where
  of_form : (fault : SchemaFault) → syntax.HasFault bytes fault → HasFault bytes fault
  of_names : (w : WrittenSchema) (fault : SchemaFault) → syntax.Spells bytes w → HasUnknown w fault
      → HasFault bytes fault
  of_schema : (r : ResolvedSchema) (fault : SchemaFault) → Declares bytes r → HasFaultOf r fault → HasFault bytes fault

-- what it says of bytes, or of a schema, that it was refused with this fault
abbrev pub Refuses : List ℕ → Fault SchemaFault → Type 0
Refuses bytes (Told fault) = HasFault bytes fault
Refuses bytes NoMemory = ⊤

abbrev pub RefusesOf : ResolvedSchema → Fault SchemaFault → Type 0
RefusesOf r (Told fault) = HasFaultOf r fault
RefusesOf r NoMemory = ⊤

-- bytes spell just one schema or have just one fault, and not both
pub record IsSettled (bytes : List ℕ) : Type 0 where
  pub one_schema : (s t : Declarations) → Spells bytes s → Spells bytes t → s ≡ t
  pub one_fault : (a b : SchemaFault) → HasFault bytes a → HasFault bytes b → a ≡ b
  pub not_both : (s : Declarations) (a : SchemaFault) → Spells bytes s → ¬ HasFault bytes a
  pub either : ((s : Declarations) × Spells bytes s) ⊎ ((fault : SchemaFault) × HasFault bytes fault)
