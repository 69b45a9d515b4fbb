use Rattle.sc_world_json.proofs.NestLaws.{typed-nests}
use Rattle.sc_world_json.proofs.NestWorlds.{world-nests}
use Rattle.sc_world_json.proofs.law.nesting_laws.Goals as goal

pub returns-clause-values : goal.returns-clause-values
returns-clause-values c = typed-nests

pub returns-clause-worlds : goal.returns-clause-worlds
returns-clause-worlds c = λ s env literals w lawful h. world-nests s lawful env literals w h
