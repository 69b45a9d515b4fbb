use Rattle.std.proofs.Common.{◌≡◌, take, string_bytes}
use Rattle.std.specs.List.{flat_map}
use Rattle.sc_generated.specs.Generated.{line}
use Rattle.sc_generated.proofs.texts.lines.Given as goal

abbrev pub invariant-loop-x : goal.invariant-loop-x
invariant-loop-x l = string_bytes l.out ≡ flat_map line (take l.x-index l.numbers)
