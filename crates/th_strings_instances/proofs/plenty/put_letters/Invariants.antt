use Rattle.std.proofs.Common.{◌≡◌, ◌++◌, length}
use Rattle.th_strings_instances.specs.Plenty.{pattern_letters}
use Rattle.th_strings_instances.proofs.plenty.put_letters.Given as goal

abbrev pub invariant-loop-part : goal.invariant-loop-part
invariant-loop-part l = l.letters.items ++ pattern_letters l.rest ≡ l.initial.letters.items ++ pattern_letters l.fn.pattern

abbrev pub decreases-loop-part : goal.decreases-loop-part
decreases-loop-part l = length l.rest
