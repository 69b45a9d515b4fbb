use Rattle.sc_replay.proofs.BreakLineLaws.{as_written}
use Rattle.sc_replay.proofs.report.report_of.Goals as goal

pub returns-clause-first : goal.returns-clause-first
returns-clause-first c = as_written _ _ _ _ _ c.as_slice.ensures c.in_ok-lits.ensures c.in_ok-found.ensures
