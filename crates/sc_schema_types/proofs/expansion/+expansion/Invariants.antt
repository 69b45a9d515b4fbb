use Rattle.std.proofs.Common.{◌≡◌, ◌+◌, ◌*◌, take}
use Rattle.sc_schema.specs.declared.resolved_type.ResolvedType.{size-ResolvedType}
use Rattle.sc_schema_types.specs.Tables.{type_in}
use Rattle.sc_schema_types.proofs.ExpansionLaws.{fields_of}
use Rattle.sc_schema_types.proofs.expansion.+expansion.Given as goal

abbrev pub decreases-expanded : goal.decreases-expanded
decreases-expanded l = 2 * size-ResolvedType l.resolved.now

abbrev pub decreases-expanded_all : goal.decreases-expanded_all
decreases-expanded_all l = 2 * goal.size-expanded_all l + 1

abbrev pub invariant-expanded_all-loop-attribute : goal.invariant-expanded_all-loop-attribute
invariant-expanded_all-loop-attribute l = l.fields ≡ fields_of l.kinds (type_in l.table.entries) (take l.attribute-index l.attributes)
