use Rattle.std.proofs.Common.{◌≡◌, ◌++◌, length}
use Rattle.th_strings_instances.specs.Texts.{asked_patterns}
use Rattle.th_strings_instances.proofs.few.asked_patterns.Given as goal

abbrev pub invariant-loop-pattern : goal.invariant-loop-pattern
invariant-loop-pattern l = l.asked.items ++ asked_patterns l.left l.rest ≡ asked_patterns l.fn.patterns l.fn.signs

abbrev pub decreases-loop-pattern : goal.decreases-loop-pattern
decreases-loop-pattern l = length l.left
