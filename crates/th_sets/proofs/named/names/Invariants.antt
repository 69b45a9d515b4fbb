use Rattle.th_sets.specs.Named.{AreFirst, IsNameAmong}
use Rattle.th_sets.proofs.named.names.Given as goal

abbrev pub invariant-loop-n : goal.invariant-loop-n
invariant-loop-n l = AreFirst l.problem (IsNameAmong l.names.items) l.n
