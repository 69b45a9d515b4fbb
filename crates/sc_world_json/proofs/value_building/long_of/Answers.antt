use Rattle.std.proofs.Common.{rules}
use Rattle.sc_values.specs.Proper.{IsProperLevel}
use Rattle.sc_values.proofs.LevelLaws.{in_Long}
use Rattle.sc_world_json.proofs.value_building.long_of.Goals as goal

pub returns-in-Some-clause-proper : goal.returns-in-Some-clause-proper
returns-in-Some-clause-proper c = (in_Long IsProperLevel _).1 (search rules)

pub returns-in-None-clause-proper : goal.returns-in-None-clause-proper
returns-in-None-clause-proper c = (in_Long IsProperLevel _).1 (search rules)
