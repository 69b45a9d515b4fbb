use Rattle.sc_schema_json.proofs.SchemaLaws.{types_named, actions_named}
use Rattle.sc_schema_json.proofs.building.declarations_of.Goals as goal

pub types_of-requires-clause-named : goal.types_of-requires-clause-named
types_of-requires-clause-named c = types_named c.args.expanded c.requires.expanded

pub actions_of-requires-clause-named : goal.actions_of-requires-clause-named
actions_of-requires-clause-named c = actions_named c.args.expanded c.requires.expanded
