use Rattle.std.proofs.Common.{◌≡◌, length, slice_get}
use Rattle.sc_sorts.specs.Entities.{of_type_name}
use Rattle.th_entities_instances.proofs.declared.of_type_at.Given as goal

abbrev pub invariant-loop-uid : goal.invariant-loop-uid
invariant-loop-uid l = slice_get (of_type_name l.name l.rest) l.left ≡ slice_get (of_type_name l.name l.fn.uids) l.fn.place

abbrev pub decreases-loop-uid : goal.decreases-loop-uid
decreases-loop-uid l = length (of_type_name l.name l.rest)
