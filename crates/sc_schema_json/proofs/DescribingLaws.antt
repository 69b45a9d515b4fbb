-- Declarations are refused for common types that have no order, or for the form or size of a type; and what is known of those
-- that aren't.
use Rattle.std.proofs.Common.{subst, sym}
use Rattle.sc_lists.specs.declared.fault.Fault.{Fault}
use Rattle.sc_lists.specs.declared.fault.Fault.TheVariants.{Told, NoMemory}
use Rattle.sc_names.specs.declared.uid.Uid.{Uid}
use Rattle.sc_schema_syntax.specs.declared.fault.SchemaFault.{SchemaFault}
use Rattle.sc_schema.specs.declared.resolved_schema.ResolvedSchema.{ResolvedSchema}
use Rattle.sc_schema.specs.declared.expanded.ExpandedSchema.{ExpandedSchema}
use Rattle.sc_schema_types.specs.References.{Names}
use Rattle.sc_schema_types.specs.Orders.{IsOrder, RefusesOrder}
use Rattle.sc_schema_types.specs.Types as types
use Rattle.sc_schema_json.specs.Above.{Links, NoCycle}
use Rattle.sc_schema_json.specs.Schemas.{action_links}
use Rattle.sc_schema_json.specs.Spelling.{links_of, IsOrdered, IsAcyclic, of_common_types, of_types, RefusesOf}

pub refuses_order : (r : ResolvedSchema) (fault : Fault SchemaFault) → RefusesOrder r fault → RefusesOf r fault
refuses_order r (Told fault) h = of_common_types fault h
refuses_order r NoMemory h = tt

pub refuses_types : (r : ResolvedSchema) (fault : Fault SchemaFault) → IsAcyclic r → types.Refuses r fault → RefusesOf r fault
refuses_types r (Told fault) acyclic h = of_types fault acyclic h
refuses_types r NoMemory acyclic h = tt

pub ordered_by : (r : ResolvedSchema) (order : Names) → IsOrder r order → IsOrdered r
ordered_by r order h = record { order = order; ordered = h }

pub acyclic_by : (r : ResolvedSchema) (order : Names) → IsOrder r order → NoCycle (links_of r) → IsAcyclic r
acyclic_by r order h none = record { types = ordered_by r order h; actions = none }

-- the actions that are written out are those of the schema
pub no_cycle_expanded : (r : ResolvedSchema) (x : ExpandedSchema) → types.KeepsParents r x → NoCycle (links_of r) → NoCycle (action_links x.actions)
no_cycle_expanded r x kept none = subst (λ (links : Links Uid). NoCycle links) (sym kept.above_actions) none
