use Rattle.std.proofs.Common.{◌≡◌, ◌+◌, ◌*◌, ℕ, List, take}
use Rattle.std.specs.List.{flat_map}
use Rattle.sc_schema.specs.declared.ty.Presence.{Presence}
use Rattle.sc_schema.specs.declared.ty.Ty.{Ty, size-Ty}
use Rattle.sc_world.specs.Defaults.{default_field, default_value}
use Rattle.sc_world.proofs.default_value.+defaults.Given as goal

abbrev pub decreases-default_value : goal.decreases-default_value
decreases-default_value l = 3 * size-Ty l.ty.now

abbrev pub decreases-put_field : goal.decreases-put_field
decreases-put_field l = 3 * size-Ty l.attribute.now.2 + 1

abbrev pub decreases-default_fields : goal.decreases-default_fields
decreases-default_fields l = 3 * goal.size-default_fields l + 2

abbrev pub invariant-default_fields-loop-attribute : goal.invariant-default_fields-loop-attribute
invariant-default_fields-loop-attribute l = l.fields ≡ flat_map (λ (a : List ℕ × Presence × Ty). default_field a.1 a.0 (default_value l.s a.2)) (take l.attribute-index l.attributes)
