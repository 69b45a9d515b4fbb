use Rattle.sc_test_goals.specs.Known.{AreKnown}
use Rattle.sc_test_goals.proofs.goals.are_known.Given as goal

abbrev pub invariant-loop-n : goal.invariant-loop-n
invariant-loop-n l = AreKnown l.fn.schema l.terms l.n
