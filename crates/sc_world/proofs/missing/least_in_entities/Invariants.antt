use Rattle.std.proofs.Common.{◌≡◌, option_copied}
use Rattle.std.specs.Prelude.{flat_map}
use Rattle.sc_world.specs.Named.{uids_in_entry}
use Rattle.sc_world.specs.Tests.{least_missing}
use Rattle.sc_world.proofs.missing.least_in_entities.Given as goal

abbrev pub invariant-loop-entity : goal.invariant-loop-entity
invariant-loop-entity l = record {
  goes_on : (goal.iterator-loop-entity).can_next l.entity-iterator;
  ends : (goal.iterator-loop-entity).is_finite l.entity-iterator;
  so_far : least_missing l.store (option_copied l.least) (flat_map uids_in_entry l.entity-iterator) ≡ least_missing l.store (option_copied l.fn.so_far) (flat_map uids_in_entry l.store);
}
