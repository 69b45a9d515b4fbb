use Rattle.std.proofs.Common.{◌≡◌, ℕ, List, drop, option_copied}
use Rattle.std.specs.Prelude.{flat_map}
use Rattle.sc_values.specs.declared.value.Value.{Value}
use Rattle.sc_world.specs.Named.{uids_in}
use Rattle.sc_world.specs.Tests.{least_missing}
use Rattle.sc_world.proofs.missing.+missing.Given as goal

abbrev pub invariant-least_in_set-loop-member : goal.invariant-least_in_set-loop-member
invariant-least_in_set-loop-member l =
    least_missing l.store (option_copied l.least) (flat_map uids_in (drop l.member-index l.members)) ≡ least_missing l.store (option_copied l.fn.so_far) (flat_map uids_in l.members)

abbrev pub invariant-least_in_record-loop-field : goal.invariant-least_in_record-loop-field
invariant-least_in_record-loop-field l =
    least_missing l.store (option_copied l.least) (flat_map (λ (f : List ℕ × Value). uids_in f.1) (drop l.field-index l.fields))
    ≡ least_missing l.store (option_copied l.fn.so_far) (flat_map (λ (f : List ℕ × Value). uids_in f.1) l.fields)
