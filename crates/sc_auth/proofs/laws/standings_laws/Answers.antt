use Rattle.sc_auth.proofs.StandingsLaws.{Satisfied-decides, Errs-decides}
use Rattle.sc_auth.proofs.laws.standings_laws.Goals as goal

pub returns-clause-satisfied : goal.returns-clause-satisfied
returns-clause-satisfied c = Satisfied-decides

pub returns-clause-errs : goal.returns-clause-errs
returns-clause-errs c = Errs-decides
