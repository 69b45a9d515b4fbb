use Rattle.std.proofs.Common.{◌≡◌, length}
use Rattle.sc_constructs.specs.Objects.{are_uids}
use Rattle.sc_constructs.proofs.entities.are_uids.Given as goal

abbrev pub decreases-loop-first : goal.decreases-loop-first
decreases-loop-first l = length l.rest

abbrev pub invariant-loop-first : goal.invariant-loop-first
invariant-loop-first l = are_uids l.rest ≡ are_uids l.fn.members
