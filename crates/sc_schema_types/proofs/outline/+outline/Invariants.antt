use Rattle.std.proofs.Common.{◌≡◌, ◌+◌, ◌*◌, drop}
use Rattle.sc_schema.specs.declared.resolved_type.ResolvedType.{size-ResolvedType}
use Rattle.sc_schema_types.specs.Tables.{nothing, outline_in}
use Rattle.sc_schema_types.proofs.OutlineLaws.{outlined_all}
use Rattle.sc_schema_types.proofs.outline.+outline.Given as goal

abbrev pub decreases-outline_of : goal.decreases-outline_of
decreases-outline_of l = 2 * size-ResolvedType l.resolved.now

abbrev pub decreases-outline_of_all : goal.decreases-outline_of_all
decreases-outline_of_all l = 2 * goal.size-outline_of_all l + 1

abbrev pub invariant-outline_of_all-loop-attribute : goal.invariant-outline_of_all-loop-attribute
invariant-outline_of_all-loop-attribute l =
    outlined_all (outline_in l.table.entries) l.all (drop l.attribute-index l.attributes) ≡ outlined_all (outline_in l.table.entries) nothing l.attributes
