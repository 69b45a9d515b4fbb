use Rattle.sc_world_json.proofs.UniqueWorlds.{text-unique}
use Rattle.sc_world_json.proofs.law.text_is_unique.Goals as goal

pub returns : goal.returns
returns c = text-unique
