-- Whether the common types of a schema can be put in order, and which one can't.
use Rattle.std.specs.Prelude.{ℕ, List, [], take, slice_index_or, Contains, All, EachIndex, ⊤}
use Rattle.std.specs.List.{AllByRecursion}
use Rattle.sc_lists.specs.declared.fault.Fault.{Fault}
use Rattle.sc_lists.specs.declared.fault.Fault.TheVariants.{Told, NoMemory}
use Rattle.sc_names.specs.Uids.{text_cmp}
use Rattle.sc_schema.specs.declared.resolved_common_type.ResolvedCommonType.{ResolvedCommonType}
use Rattle.sc_schema.specs.declared.resolved_schema.ResolvedSchema.{ResolvedSchema}
use Rattle.sc_schema.specs.Resolved.{common_types}
use Rattle.sc_schema_syntax.specs.declared.fault.SchemaFault.{SchemaFault}
use Rattle.sc_schema_syntax.specs.declared.fault.SchemaFault.TheVariants.{TypeCycle}
use Rattle.sc_graphs.specs.Reaching as reaching
use Rattle.sc_schema_types.specs.References.{Names, Graph, LeadsTo, references, body_of}

-- each name leads to earlier ones alone
abbrev pub LeadsBack : Graph → Names → Type 0
LeadsBack graph order = EachIndex order (λ i. All (Contains (take i order)) (graph (slice_index_or order i [])))

-- the names of all common types, in an order in which the body of each names earlier ones alone
pub record IsOrder (s : ResolvedSchema) (order : Names) : Type 0 where
  pub all : AllByRecursion (λ (c : ResolvedCommonType). Contains order c.name) (common_types s)
  pub leads_back : LeadsBack (references (body_of s)) order

-- the least name that reaches itself
abbrev pub IsLeastCycle : Graph → List ℕ → Type 0
IsLeastCycle graph = reaching.IsLeastCycle text_cmp (LeadsTo graph)

-- the least common type of a schema that reaches itself
abbrev pub IsTypeCycle : ResolvedSchema → List ℕ → Type 0
IsTypeCycle s = IsLeastCycle (references (body_of s))

-- the fault of a schema whose common types can't be put in order
pub data HasTypeCycle (s : ResolvedSchema) : SchemaFault → Type 0 where
  cycle : (name : List ℕ) → IsTypeCycle s name → HasTypeCycle s (TypeCycle name)

-- what it says of a schema that its common types weren't put in order
abbrev pub RefusesOrder : ResolvedSchema → Fault SchemaFault → Type 0
RefusesOrder s (Told fault) = HasTypeCycle s fault
RefusesOrder s NoMemory = ⊤
