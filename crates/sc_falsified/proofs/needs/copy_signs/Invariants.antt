use Rattle.std.proofs.Common.{◌≡◌, take}
use Rattle.sc_falsified.proofs.needs.copy_signs.Given as goal

abbrev pub invariant-loop-sign : goal.invariant-loop-sign
invariant-loop-sign l = l.copy.items ≡ take l.sign-index l.signs
