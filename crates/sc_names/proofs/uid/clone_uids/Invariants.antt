use Rattle.std.proofs.Common.{◌≡◌, take}
use Rattle.sc_names.proofs.uid.clone_uids.Given as goal

abbrev pub invariant-loop-uid : goal.invariant-loop-uid
invariant-loop-uid l = l.copy ≡ take l.uid-index l.uids
