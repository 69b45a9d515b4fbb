use Rattle.std.proofs.Common.{◌≡◌, take}
use Rattle.sc_values.proofs.clone.+clone.Given as goal

abbrev pub invariant-clone_set-loop-member : goal.invariant-clone_set-loop-member
invariant-clone_set-loop-member l = l.copy ≡ take l.member-index l.s

abbrev pub invariant-clone_rec-loop-field : goal.invariant-clone_rec-loop-field
invariant-clone_rec-loop-field l = l.copy ≡ take l.field-index l.r
