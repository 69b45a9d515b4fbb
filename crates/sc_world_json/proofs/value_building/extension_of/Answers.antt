use Rattle.std.proofs.Common.{false}
use Rattle.sc_values.specs.Proper.{IsProperLevel}
use Rattle.sc_values.proofs.LevelLaws.{in_Bool}
use Rattle.sc_world_json.proofs.value_building.extension_of.Goals as goal

pub returns-in-None-clause-proper : goal.returns-in-None-clause-proper
returns-in-None-clause-proper c = (in_Bool IsProperLevel false).1 tt
