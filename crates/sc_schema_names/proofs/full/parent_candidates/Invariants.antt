use Rattle.std.proofs.Common.{◌≡◌, ◌++◌, map}
use Rattle.std.specs.Vec.Iter.{into_iter_items}
use Rattle.sc_schema_names.specs.Names.{uid_of, action_types}
use Rattle.sc_schema_names.proofs.full.parent_candidates.Given as goal

abbrev pub invariant-loop-type_name : goal.invariant-loop-type_name
invariant-loop-type_name l = record {
  goes_on : (goal.iterator-loop-type_name).can_next l.type_name-iterator;
  ends : (goal.iterator-loop-type_name).is_finite l.type_name-iterator;
  to_come : l.uids ++ map (uid_of l.fn.parent.id) (into_iter_items l.type_name-iterator) ≡ map (uid_of l.fn.parent.id) (action_types l.fn.namespace l.fn.parent.type_name);
}
