use Rattle.th_equal.specs.Free.{AreFieldsFree}
use Rattle.th_equal.proofs.finding.at_fields.Given as goal

abbrev pub invariant-loop-field : goal.invariant-loop-field
invariant-loop-field l = AreFieldsFree l.problem l.m l.r l.s l.field
