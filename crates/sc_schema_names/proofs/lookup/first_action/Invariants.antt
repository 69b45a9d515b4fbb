use Rattle.std.proofs.Common.{◌≡◌}
use Rattle.std.specs.List.{find}
use Rattle.std.specs.Vec.Iter.{into_iter_items}
use Rattle.sc_schema_names.specs.Tables.{known}
use Rattle.sc_schema_names.proofs.lookup.first_action.Given as goal

abbrev pub invariant-loop-uid : goal.invariant-loop-uid
invariant-loop-uid l = record {
  goes_on : (goal.iterator-loop-uid).can_next l.uid-iterator;
  ends : (goal.iterator-loop-uid).is_finite l.uid-iterator;
  to_come : find (known l.declared).is_action (into_iter_items l.uid-iterator) ≡ find (known l.declared).is_action l.fn.uids;
}
