use Rattle.std.proofs.Common.{length}
use Rattle.std.specs.List.{AllByRecursion}
use Rattle.th_strings.specs.Scarce.{IsTold}
use Rattle.th_strings.proofs.scarce.told_few.Given as goal

abbrev pub invariant-loop-answer : goal.invariant-loop-answer
invariant-loop-answer l = AllByRecursion (IsTold l.patterns l.count) l.rest

abbrev pub decreases-loop-answer : goal.decreases-loop-answer
decreases-loop-answer l = length l.rest
