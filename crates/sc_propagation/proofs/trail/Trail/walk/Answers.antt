use Rattle.std.proofs.Common.{◌≤◌, ◌<◌, arith}
use Rattle.sc_propagation.proofs.trail.Trail.walk.Goals as goal

pub resolve-requires-clause-undecided : goal.resolve-requires-clause-undecided
resolve-requires-clause-undecided c = λ has. let le : c.back.i ≤ c.args.first = c.requires.highest.1 c.back.i has in let lt : c.args.first < c.back.i = c.back-test.true in omega arith
