use Rattle.sc_propagation.proofs.trail.Trail.is_open.Goals as goal

pub returns-in-Open : goal.returns-in-Open
returns-in-Open c = λ e. c.in-Open.ensures c.requires.agree
