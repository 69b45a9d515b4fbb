use Rattle.sc_world_json.proofs.WorldsLaws.{proper_none}
use Rattle.sc_world_json.proofs.value_building.record_of.Goals as goal

pub returns-in_default-clause-proper : goal.returns-in_default-clause-proper
returns-in_default-clause-proper c = proper_none c.new.result c.new.ensures

pub returns-in-None-clause-proper : goal.returns-in-None-clause-proper
returns-in-None-clause-proper c = proper_none c.new-in-None.result c.new-in-None.ensures
