use Rattle.std.proofs.Common.{◌≡◌, take}
use Rattle.sc_sorts.proofs.clone.+clone.Given as goal

abbrev pub invariant-clone_fields-loop-field : goal.invariant-clone_fields-loop-field
invariant-clone_fields-loop-field l = l.copy ≡ take l.field-index l.fields
