use Rattle.std.proofs.Common.{◌-◌, ◌^◌}
use Rattle.sc_world.specs.Filling.{IsFilled}
use Rattle.sc_world.proofs.filling.filled.Given as goal

-- the length of a list is below 2 ^ 64, whatever it grows to
abbrev pub decreases-loop-done : goal.decreases-loop-done
decreases-loop-done l = 2 ^ 64 - l.done

abbrev pub invariant-loop-done : goal.invariant-loop-done
invariant-loop-done l = IsFilled l.s l.fn.given l.request l.lits l.uids l.done l.store
