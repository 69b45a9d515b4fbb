use Rattle.std.proofs.Common.{length}
use Rattle.std.specs.List.{AllByRecursion}
use Rattle.th_strings.specs.Scarce.{IsTold}
use Rattle.th_strings.proofs.ScarceLaws.{AreScarceSoFar}
use Rattle.th_strings.proofs.scarce.scarce_numbers.Given as goal

abbrev pub invariant-loop-n : goal.invariant-loop-n
invariant-loop-n l = record {
  told : AllByRecursion (IsTold l.patterns l.count) l.answers.items;
  so_far : AreScarceSoFar l.problem l.m l.patterns l.count l.fn.numbers l.rest l.scarce.items;
}

abbrev pub decreases-loop-n : goal.decreases-loop-n
decreases-loop-n l = length l.rest
