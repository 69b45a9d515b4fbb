use Rattle.std.proofs.Common.{◌≡◌, length}
use Rattle.sc_rule_laws.specs.Entities.{is_uid_in}
use Rattle.sc_sorts.specs.Entities.{of_type_name}
use Rattle.th_entities_instances.proofs.declared.is_among.Given as goal

abbrev pub invariant-loop-other : goal.invariant-loop-other
invariant-loop-other l = is_uid_in (of_type_name l.name l.rest) l.uid ≡ is_uid_in (of_type_name l.name l.fn.uids) l.uid

abbrev pub decreases-loop-other : goal.decreases-loop-other
decreases-loop-other l = length (of_type_name l.name l.rest)
