use Rattle.std.proofs.Common.{◌≡◌, ◌++◌}
use Rattle.std.specs.Prelude.{flat_map}
use Rattle.sc_world.specs.Named.{uids_in_entry}
use Rattle.sc_world.proofs.first_uids.put_given.Given as goal

abbrev pub invariant-loop-entity : goal.invariant-loop-entity
invariant-loop-entity l = record {
  goes_on : (goal.iterator-loop-entity).can_next l.entity-iterator;
  ends : (goal.iterator-loop-entity).is_finite l.entity-iterator;
  so_far : l.uids ++ flat_map uids_in_entry l.entity-iterator ≡ l.initial.uids ++ flat_map uids_in_entry l.given;
}
