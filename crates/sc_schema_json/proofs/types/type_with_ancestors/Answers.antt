use Rattle.sc_schema_json.proofs.BuildingLaws.{type_made}
use Rattle.sc_schema_json.proofs.types.type_with_ancestors.Goals as goal

pub returns : goal.returns
returns c =
    λ all are there. type_made all c.args.links.now c.args.at c.args.declared c.in_ok-ancestors.ancestors c.with_ancestors.result are there c.with_ancestors.ensures c.in_ok-ancestors.ensures
