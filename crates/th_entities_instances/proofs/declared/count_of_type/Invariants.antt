use Rattle.std.proofs.Common.{◌≡◌, ◌+◌, ◌≤◌, length}
use Rattle.sc_sorts.specs.Entities.{of_type_name}
use Rattle.th_entities_instances.proofs.declared.count_of_type.Given as goal

abbrev pub invariant-loop-uid : goal.invariant-loop-uid
invariant-loop-uid l = record {
  total : l.count + length (of_type_name l.name l.rest) ≡ length (of_type_name l.name l.fn.uids);
  few : l.count + length l.rest ≤ length l.fn.uids;
}

abbrev pub decreases-loop-uid : goal.decreases-loop-uid
decreases-loop-uid l = length l.rest
