use Rattle.std.proofs.Common.{◌≡◌, ◌++◌, length}
use Rattle.th_strings_instances.proofs.numbers.copied_signs.Given as goal

abbrev pub invariant-loop-sign : goal.invariant-loop-sign
invariant-loop-sign l = l.copy ++ l.rest ≡ l.fn.signs

abbrev pub decreases-loop-sign : goal.decreases-loop-sign
decreases-loop-sign l = length l.rest
