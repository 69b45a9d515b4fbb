use Rattle.std.proofs.Common.{◌≡◌, ◌++◌, ◌+◌, ◌*◌, ℕ, List, take}
use Rattle.std.specs.List.{flat_map}
use Rattle.sc_schema.specs.declared.ty.Presence.{Presence}
use Rattle.sc_schema.specs.declared.resolved_type.ResolvedType.{ResolvedType, size-ResolvedType}
use Rattle.sc_schema_types.specs.References.{names_in}
use Rattle.sc_schema_types.proofs.names.+names.Given as goal

abbrev pub decreases-put_names : goal.decreases-put_names
decreases-put_names l = 2 * size-ResolvedType l.resolved.now

abbrev pub decreases-put_attributes : goal.decreases-put_attributes
decreases-put_attributes l = 2 * goal.size-put_attributes l + 1

abbrev pub invariant-put_attributes-loop-attribute : goal.invariant-put_attributes-loop-attribute
invariant-put_attributes-loop-attribute l = l.names ≡ l.initial.names ++ flat_map (λ (a : List ℕ × Presence × ResolvedType). names_in a.2) (take l.attribute-index l.attributes)
