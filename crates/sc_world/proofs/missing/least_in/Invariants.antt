use Rattle.std.proofs.Common.{◌≡◌, drop, option_copied}
use Rattle.sc_world.specs.Tests.{least_missing}
use Rattle.sc_world.proofs.missing.least_in.Given as goal

abbrev pub invariant-loop-uid : goal.invariant-loop-uid
invariant-loop-uid l = least_missing l.store (option_copied l.least) (drop l.uid-index l.uids) ≡ least_missing l.store (option_copied l.fn.so_far) l.uids
