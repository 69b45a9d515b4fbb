use Rattle.std.proofs.Common.{◌≡◌, ◌++◌, length, map}
use Rattle.th_strings_instances.specs.Names.{number_in}
use Rattle.th_strings_instances.proofs.numbers.numbers.Given as goal

abbrev pub invariant-loop-word : goal.invariant-loop-word
invariant-loop-word l = l.numbers ++ map number_in l.rest ≡ map number_in l.fn.words

abbrev pub decreases-loop-word : goal.decreases-loop-word
decreases-loop-word l = length l.rest
