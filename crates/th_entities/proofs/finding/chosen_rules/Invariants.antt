use Rattle.th_entities.specs.Free.{AreFirst, IsChosenFree}
use Rattle.th_entities.proofs.finding.chosen_rules.Given as goal

abbrev pub invariant-loop-n : goal.invariant-loop-n
invariant-loop-n l = AreFirst (IsChosenFree l.problem l.m) l.n
