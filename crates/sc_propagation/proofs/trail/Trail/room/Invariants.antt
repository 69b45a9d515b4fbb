use Rattle.std.proofs.Common.{◌≤◌}
use Rattle.sc_propagation.proofs.trail.Trail.room.Given as goal

abbrev pub invariant-down : goal.invariant-down
invariant-down l = l.level ≤ l.most

abbrev pub decreases-down : goal.decreases-down
decreases-down l = l.level
