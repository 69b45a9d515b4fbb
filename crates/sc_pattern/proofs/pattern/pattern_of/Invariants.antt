use Rattle.std.proofs.Common.{◌≡◌, take}
use Rattle.sc_pattern.proofs.pattern.pattern_of.Given as goal

abbrev pub invariant-loop-part : goal.invariant-loop-part
invariant-loop-part l = l.copy ≡ take l.part-index l.parts
