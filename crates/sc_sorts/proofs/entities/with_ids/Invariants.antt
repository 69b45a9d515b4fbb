use Rattle.std.proofs.Common.{◌≡◌, map, take}
use Rattle.sc_sorts.specs.Entities.{uid_of}
use Rattle.sc_sorts.proofs.entities.with_ids.Given as goal

abbrev pub invariant-loop-id : goal.invariant-loop-id
invariant-loop-id l = l.uids ≡ map (uid_of l.name) (take l.id-index l.ids)
