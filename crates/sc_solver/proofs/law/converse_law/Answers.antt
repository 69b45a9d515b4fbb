use Rattle.sc_solver.proofs.ConverseLaws.{truths_are_consistent}
use Rattle.sc_solver.proofs.law.converse_law.Goals as goal

pub returns : goal.returns
returns c = truths_are_consistent c.problem_laws.ensures.terms c.defining_laws.ensures.lawful c.defining_laws.ensures.holds
