use Rattle.std.proofs.Common.{◌≡◌, ◌+◌, ◌*◌, ◌++◌, ℕ, List, take}
use Rattle.std.specs.List.{flat_map}
use Rattle.sc_values.specs.declared.value.Value.{Value, size-Value}
use Rattle.sc_world.specs.Named.{uids_in}
use Rattle.sc_world.proofs.named.+named.Given as goal

abbrev pub decreases-put_named : goal.decreases-put_named
decreases-put_named l = 2 * size-Value l.v.now

abbrev pub decreases-put_members : goal.decreases-put_members
decreases-put_members l = 2 * goal.size-put_members l + 1

abbrev pub decreases-put_fields : goal.decreases-put_fields
decreases-put_fields l = 2 * goal.size-put_fields l + 1

abbrev pub invariant-put_members-loop-member : goal.invariant-put_members-loop-member
invariant-put_members-loop-member l = l.uids ≡ l.initial.uids ++ flat_map uids_in (take l.member-index l.members)

abbrev pub invariant-put_fields-loop-field : goal.invariant-put_fields-loop-field
invariant-put_fields-loop-field l = l.uids ≡ l.initial.uids ++ flat_map (λ (f : List ℕ × Value). uids_in f.1) (take l.field-index l.fields)
