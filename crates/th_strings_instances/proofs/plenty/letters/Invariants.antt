use Rattle.std.proofs.Common.{◌≡◌, ◌++◌, length}
use Rattle.th_strings_instances.specs.Plenty.{letters_of}
use Rattle.th_strings_instances.proofs.plenty.letters.Given as goal

abbrev pub invariant-loop-pattern : goal.invariant-loop-pattern
invariant-loop-pattern l = l.letters.items ++ letters_of l.rest ≡ letters_of l.fn.patterns

abbrev pub decreases-loop-pattern : goal.decreases-loop-pattern
decreases-loop-pattern l = length l.rest
