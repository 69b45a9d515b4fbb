use Rattle.std.proofs.Common.{◌≡◌, drop}
use Rattle.sc_values.specs.Records.{field}
use Rattle.sc_values.proofs.records.field.Given as goal

abbrev pub invariant-loop-pair : goal.invariant-loop-pair
invariant-loop-pair l = field l.name (drop l.pair-index l.r) ≡ field l.name l.r
