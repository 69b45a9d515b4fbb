use Rattle.std.proofs.Common.{◌≡◌, ◌++◌}
use Rattle.std.specs.Vec.Iter.{into_iter_items}
use Rattle.sc_typed.proofs.capability.joined.Given as goal

abbrev pub invariant-loop-capability : goal.invariant-loop-capability
invariant-loop-capability l = l.first ++ into_iter_items l.capability-iterator ≡ l.fn.first ++ l.fn.second
