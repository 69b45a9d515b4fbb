use Rattle.sc_model_consistency.proofs.ConsistencyLaws.{instances_suffice}
use Rattle.sc_model_consistency.proofs.law.consistency_laws.Goals as goal

pub returns : goal.returns
returns c = instances_suffice c.problem_laws.ensures.terms
