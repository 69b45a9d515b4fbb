use Rattle.std.proofs.Common.{◌≡◌, length}
use Rattle.sc_falsified.proofs.classes.numbers.Given as goal

abbrev pub invariant-loop-i : goal.invariant-loop-i
invariant-loop-i l = length l.numbers.items ≡ l.i
