use Rattle.std.proofs.Common.{◌≡◌}
use Rattle.std.specs.List.{find}
use Rattle.std.specs.Vec.Iter.{into_iter_items}
use Rattle.sc_schema_names.specs.Tables.{known}
use Rattle.sc_schema_names.proofs.lookup.first_common_type.Given as goal

abbrev pub invariant-loop-name : goal.invariant-loop-name
invariant-loop-name l = record {
  goes_on : (goal.iterator-loop-name).can_next l.name-iterator;
  ends : (goal.iterator-loop-name).is_finite l.name-iterator;
  to_come : find (known l.declared).is_common_type (into_iter_items l.name-iterator) ≡ find (known l.declared).is_common_type l.fn.names;
}
