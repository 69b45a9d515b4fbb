use Rattle.std.proofs.Common.{◌≡◌, ◌++◌, take}
use Rattle.sc_world.proofs.named.put_all.Given as goal

abbrev pub invariant-loop-uid : goal.invariant-loop-uid
invariant-loop-uid l = l.uids ≡ l.initial.uids ++ take l.uid-index l.some
