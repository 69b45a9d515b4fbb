use Rattle.std.proofs.Common.{◌≡◌, ◌++◌, length}
use Rattle.th_strings_instances.specs.Texts.{asked_signs}
use Rattle.th_strings_instances.proofs.few.asked_signs.Given as goal

abbrev pub invariant-loop-sign : goal.invariant-loop-sign
invariant-loop-sign l = l.asked.items ++ asked_signs l.rest ≡ asked_signs l.fn.signs

abbrev pub decreases-loop-sign : goal.decreases-loop-sign
decreases-loop-sign l = length l.rest
