use Rattle.sc_values.specs.Proper.{IsProperLevel}
use Rattle.sc_values.proofs.LevelLaws.{in_Decimal}
use Rattle.sc_world_json.proofs.function.decimal_of.Goals as goal

pub returns-in-Ok-clause-proper : goal.returns-in-Ok-clause-proper
returns-in-Ok-clause-proper c = (in_Decimal IsProperLevel c.in-Ok.number).1 c.in-Ok.ensures.ok.in_range
