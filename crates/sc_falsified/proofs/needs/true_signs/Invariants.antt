use Rattle.std.proofs.Common.{◌≡◌, map, take}
use Rattle.sc_falsified.specs.Crowds.{true_sign}
use Rattle.sc_falsified.proofs.needs.true_signs.Given as goal

abbrev pub invariant-loop-sign : goal.invariant-loop-sign
invariant-loop-sign l = l.asked.items ≡ map true_sign (take l.sign-index l.signs)
