use Rattle.sc_schema_json.proofs.BuildingLaws.{actions_sorted, actions_named, actions_built}
use Rattle.sc_schema_json.proofs.actions.actions_of.Goals as goal

pub actions_with_ancestors-requires : goal.actions_with_ancestors-requires
actions_with_ancestors-requires c =
    record {
      ascending = actions_sorted c.actions_in_order-declared.result c.actions_in_order-declared.ensures.ascending;
      named = actions_named c.args.declared c.actions_in_order-declared.result c.actions_in_order-declared.ensures.same c.requires.named;
    }

pub returns : goal.returns
returns c = actions_built c.args.declared c.actions_in_order-declared.result c.in_ok-actions.actions c.actions_in_order-declared.ensures.same c.actions_in_order-declared.ensures.ascending c.in_ok-actions.ensures
