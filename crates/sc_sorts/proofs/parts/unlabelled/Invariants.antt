use Rattle.std.proofs.Common.{◌≡◌, map, take}
use Rattle.sc_sorts.specs.Parts.{no_label}
use Rattle.sc_sorts.proofs.parts.unlabelled.Given as goal

abbrev pub invariant-loop-n : goal.invariant-loop-n
invariant-loop-n l = l.parts ≡ map no_label (take l.n-index l.members)
