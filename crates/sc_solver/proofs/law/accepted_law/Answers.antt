use Rattle.sc_solver.proofs.SameLaws.{accepted_moves}
use Rattle.sc_solver.proofs.law.accepted_law.Goals as goal

pub returns : goal.returns
returns c p q text a b schema env same h = accepted_moves c.problem_laws.ensures.one p q text a b schema env same h
