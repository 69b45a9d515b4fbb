use Rattle.sc_model_laws.proofs.RebuildLaws.{has_model, bounded, names_are_texts}
use Rattle.sc_model_laws.proofs.law.model_laws.Goals as goal

pub returns-clause-bounded : goal.returns-clause-bounded
returns-clause-bounded c = bounded

pub returns-clause-model : goal.returns-clause-model
returns-clause-model c = has_model

pub returns-clause-texts : goal.returns-clause-texts
returns-clause-texts c = names_are_texts c.closed_laws.ensures.judged
