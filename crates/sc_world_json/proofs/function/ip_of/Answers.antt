use Rattle.sc_values.specs.Proper.{IsProperLevel}
use Rattle.sc_values.proofs.LevelLaws.{in_Ip}
use Rattle.sc_world_json.proofs.function.ip_of.Goals as goal

pub returns-in-Ok-clause-proper : goal.returns-in-Ok-clause-proper
returns-in-Ok-clause-proper c = (in_Ip IsProperLevel c.in-Ok.address).1 c.in-Ok.ensures.in_range
