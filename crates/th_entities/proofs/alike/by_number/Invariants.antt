use Rattle.th_entities.proofs.AlikeLaws.{AreBelow}
use Rattle.th_entities.proofs.alike.by_number.Given as goal

abbrev pub invariant-loop-i : goal.invariant-loop-i
invariant-loop-i l = AreBelow l.problem l.m l.tags l.a.number l.b.number l.i
