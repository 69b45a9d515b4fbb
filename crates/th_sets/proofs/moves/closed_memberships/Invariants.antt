use Rattle.th_sets.specs.Moves.{IsAmong}
use Rattle.th_sets.specs.Named.{AreFirst}
use Rattle.th_sets.proofs.moves.closed_memberships.Given as goal

abbrev pub invariant-loop-n : goal.invariant-loop-n
invariant-loop-n l = AreFirst l.problem (IsAmong l.members.keys l.sets.keys) l.n
