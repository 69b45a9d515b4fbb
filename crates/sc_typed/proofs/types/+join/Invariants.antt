use Rattle.std.proofs.Common.{◌≡◌, ◌+◌, ◌*◌, ℕ, List, drop}
use denote.Param.Weighed.{most}
use Rattle.sc_schema.specs.declared.ty.Presence.{Presence}
use Rattle.sc_schema.specs.declared.ty.Ty.{Ty, size-Ty}
use Rattle.sc_typed.specs.Types.{joining, join_fields}
use Rattle.sc_typed.proofs.JoinLaws.{fields_to_come}
use Rattle.sc_typed.proofs.types.+join.Given as goal

abbrev pub decreases-join : goal.decreases-join
decreases-join l = 4 * size-Ty l.a.now

abbrev pub decreases-join_set : goal.decreases-join_set
decreases-join_set l = 4 * size-Ty l.a.now + 1

abbrev pub decreases-join_record : goal.decreases-join_record
decreases-join_record l = 4 * most (λ (f : List ℕ × Presence × Ty). size-Ty f.2) l.fields.now + 2

abbrev pub decreases-join_fields : goal.decreases-join_fields
decreases-join_fields l = 4 * most (λ (f : List ℕ × Presence × Ty). size-Ty f.2) l.fields.now + 1

abbrev pub invariant-join_fields-loop-i : goal.invariant-join_fields-loop-i
invariant-join_fields-loop-i l = fields_to_come l.joined (drop l.i l.fields) (drop l.i l.others) ≡ join_fields (joining l.fields) l.others
