use Rattle.sc_model_laws.proofs.RebuildLaws.{truths_are_told, truths_are_consistent}
use Rattle.sc_model_laws.proofs.law.converse_laws.Goals as goal

pub returns-clause-consistent : goal.returns-clause-consistent
returns-clause-consistent c = truths_are_consistent c.closed_laws.ensures.judged c.definition_laws.ensures.hold c.definition_laws.ensures.addresses

pub returns-clause-told : goal.returns-clause-told
returns-clause-told c = truths_are_told c.closed_laws.ensures.judged
