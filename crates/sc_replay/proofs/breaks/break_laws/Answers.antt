use Rattle.sc_replay.proofs.BreakLaws.{one_break, no_break}
use Rattle.sc_replay.proofs.breaks.break_laws.Goals as goal

pub returns-clause-one : goal.returns-clause-one
returns-clause-one c = one_break

pub returns-clause-nowhere : goal.returns-clause-nowhere
returns-clause-nowhere c = no_break
