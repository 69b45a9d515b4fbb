use Rattle.std.proofs.Common.{true≢false, sym}
use Rattle.sc_propagation.proofs.trail.Trail.is_true.Goals as goal

pub returns-in-True : goal.returns-in-True
returns-in-True c = λ e. c.in-True.ensures c.requires.agree

pub returns-in-False : goal.returns-in-False
returns-in-False c = λ e. absurd (true≢false (sym e))

pub returns-in-Open : goal.returns-in-Open
returns-in-Open c = λ e. absurd (true≢false (sym e))
