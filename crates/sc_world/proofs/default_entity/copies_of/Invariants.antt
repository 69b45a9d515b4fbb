use Rattle.std.proofs.Common.{◌≡◌, take}
use Rattle.sc_world.proofs.default_entity.copies_of.Given as goal

abbrev pub invariant-loop-uid : goal.invariant-loop-uid
invariant-loop-uid l = l.copies ≡ take l.uid-index l.uids
