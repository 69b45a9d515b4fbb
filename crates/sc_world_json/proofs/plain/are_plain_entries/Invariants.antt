use Rattle.std.proofs.Common.{◌≡◌}
use Rattle.std.specs.List.{list_all}
use Rattle.sc_world_json.specs.PlainKeys.{is_plain_entry}
use Rattle.sc_world_json.proofs.plain.are_plain_entries.Given as goal

abbrev pub invariant-loop-entity : goal.invariant-loop-entity
invariant-loop-entity l = record {
  goes_on : (goal.iterator-loop-entity).can_next l.entity-iterator;
  ends : (goal.iterator-loop-entity).is_finite l.entity-iterator;
  rest : list_all is_plain_entry l.entity-iterator ≡ list_all is_plain_entry l.store;
}
