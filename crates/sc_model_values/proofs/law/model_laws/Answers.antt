use Rattle.sc_model_values.proofs.ConsistentLaws.{truths_are_consistent, strings_hold_without_patterns}
use Rattle.sc_model_values.proofs.law.model_laws.Goals as goal

pub returns-clause-consistent : goal.returns-clause-consistent
returns-clause-consistent c = truths_are_consistent c.problem_laws.ensures.terms c.address_laws.ensures.clauses

pub returns-clause-strings : goal.returns-clause-strings
returns-clause-strings c = strings_hold_without_patterns c.problem_laws.ensures.terms
