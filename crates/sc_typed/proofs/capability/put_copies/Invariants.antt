use Rattle.std.proofs.Common.{◌≡◌, ◌++◌, take}
use Rattle.sc_typed.proofs.capability.put_copies.Given as goal

abbrev pub invariant-loop-capability : goal.invariant-loop-capability
invariant-loop-capability l = l.all ≡ l.initial.all ++ take l.capability-index l.capabilities
