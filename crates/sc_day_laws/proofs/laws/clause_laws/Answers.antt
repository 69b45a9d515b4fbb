use Rattle.sc_day_laws.proofs.ClauseLaws as laws
use Rattle.sc_day_laws.proofs.laws.clause_laws.Goals as goal

pub returns : goal.returns
returns c = record { holds = laws.holds; only = laws.clauses_only }
