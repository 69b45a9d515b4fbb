use Rattle.std.proofs.Common.{inl, inr, refl}
use Rattle.sc_propagation.proofs.trail.Trail.is_one_true.Goals as goal

pub returns-then-is_true : goal.returns-then-is_true
returns-then-is_true c = λ e. (c.args.watch.first, inl refl, c.is_true.ensures c.if-is_true.true)

pub returns : goal.returns
returns c = λ e. (c.args.watch.second, inr refl, c.is_true-2.ensures e)
