use Rattle.std.proofs.Common.{◌≡◌, length}
use Rattle.sc_sorts.specs.Entities.{of_type_name}
use Rattle.th_entities_instances.proofs.declared.next_of_type.Given as goal

abbrev pub invariant-loop-uid : goal.invariant-loop-uid
invariant-loop-uid l = of_type_name l.name l.rest ≡ of_type_name l.name l.fn.uids

abbrev pub decreases-loop-uid : goal.decreases-loop-uid
decreases-loop-uid l = length l.rest
