use Rattle.std.proofs.Common.{◌≡◌, drop}
use Rattle.std.specs.Map.{keys_of}
use Rattle.sc_values.specs.Repeats.{first_repeated, repeated_after}
use Rattle.sc_values.proofs.records.repeated_key.Given as goal

abbrev pub invariant-loop-pair : goal.invariant-loop-pair
invariant-loop-pair l = repeated_after l.last (keys_of (drop l.pair-index l.rest)) ≡ first_repeated (keys_of l.fields)
