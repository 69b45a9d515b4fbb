use Rattle.std.specs.Vec.Iter.{into_iter_items}
use Rattle.sc_schema_json.specs.Schemas.{action_links, IsActionOf}
use Rattle.sc_schema_json.proofs.BuildingLaws.{AreBuilt}
use Rattle.sc_schema_json.proofs.actions.put_actions.Given as goal

abbrev pub invariant-loop-action : goal.invariant-loop-action
invariant-loop-action l = record {
  goes_on : (goal.iterator-loop-action).can_next l.action-iterator;
  ends : (goal.iterator-loop-action).is_finite l.action-iterator;
  built : AreBuilt (IsActionOf (action_links l.fn.declared)) l.fn.declared (into_iter_items l.action-iterator) l.actions;
}
