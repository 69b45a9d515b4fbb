use Rattle.sc_logs.proofs.LineStepLaws.{step_reads}
use Rattle.sc_checker.proofs.OnceLaws.{verdict_once}
use Rattle.sc_checker.proofs.StreamLaws.{after_joined}
use Rattle.sc_checker.proofs.StreamVerdicts.{agrees, accepted_text}
use Rattle.sc_checker.proofs.laws.stream_laws.Goals as goal

pub returns-clause-cutting : goal.returns-clause-cutting
returns-clause-cutting g c rules p k d e a b first second = after_joined (g.T.Theory.has_instance rules p) (g.T.Theory.clause_of rules p) k d e a b first second

pub returns-clause-agrees : goal.returns-clause-agrees
returns-clause-agrees g c rules p bytes end v a = agrees (g.T.Theory.has_instance rules p) (g.T.Theory.clause_of rules p) p bytes end v a

pub returns-clause-accepted : goal.returns-clause-accepted
returns-clause-accepted g c rules p bytes end a = accepted_text (g.T.Theory.has_instance rules p) (g.T.Theory.clause_of rules p) p bytes end a

pub returns-clause-once : goal.returns-clause-once
returns-clause-once g c rules p bytes u v x y = verdict_once (g.T.Theory.has_instance rules p) (g.T.Theory.clause_of rules p) p bytes u v x y

pub returns-clause-steps : goal.returns-clause-steps
returns-clause-steps g c line = step_reads line
