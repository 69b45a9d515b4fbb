use Rattle.sc_schema_json.proofs.BuildingLaws.{action_made}
use Rattle.sc_schema_json.proofs.actions.action_with_ancestors.Goals as goal

pub returns : goal.returns
returns c =
    λ all are there. action_made all c.args.links.now c.args.at c.args.declared c.in_ok-ancestors.ancestors c.with_ancestors.result are there c.with_ancestors.ensures.uid c.with_ancestors.ensures.ancestors c.with_ancestors.ensures.principals c.with_ancestors.ensures.resources c.with_ancestors.ensures.context c.in_ok-ancestors.ensures
