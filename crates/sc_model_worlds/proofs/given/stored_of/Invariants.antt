use Rattle.std.proofs.Common.{◌≡◌, length}
use Rattle.sc_model_values.specs.Models.{model}
use Rattle.sc_model_world_laws.specs.Rebuilt.{given_from}
use Rattle.sc_model_worlds.proofs.GivenLaws.{given_after}
use Rattle.sc_model_worlds.proofs.given.stored_of.Given as goal

abbrev pub invariant-loop-uid : goal.invariant-loop-uid
invariant-loop-uid l = given_after l.problem.schema (model l.problem l.m l.names) l.given l.rest ≡ given_from l.problem.schema (model l.problem l.m l.names) l.uids

abbrev pub decreases-loop-uid : goal.decreases-loop-uid
decreases-loop-uid l = length l.rest
