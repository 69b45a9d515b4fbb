use Rattle.sc_schema_json.proofs.BuildingLaws.{types_sorted, types_named, types_built}
use Rattle.sc_schema_json.proofs.types.types_of.Goals as goal

pub types_with_ancestors-requires : goal.types_with_ancestors-requires
types_with_ancestors-requires c =
    record {
      ascending = types_sorted c.types_in_order-declared.result c.types_in_order-declared.ensures.ascending;
      named = types_named c.args.declared c.types_in_order-declared.result c.types_in_order-declared.ensures.same c.requires.named;
    }

pub returns : goal.returns
returns c = types_built c.args.declared c.types_in_order-declared.result c.in_ok-types.types c.types_in_order-declared.ensures.same c.types_in_order-declared.ensures.ascending c.in_ok-types.ensures
