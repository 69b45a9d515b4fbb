use Rattle.std.proofs.Common.{arith, ◌≡◌, subst}
use Rattle.sc_falsified.specs.Paths.{NoMiddle}
use Rattle.sc_falsified.proofs.PathLaws.{no_gap}
use Rattle.sc_falsified.proofs.paths.gap.Goals as goal

pub returns-clause-none : goal.returns-clause-none
returns-clause-none g c =
    let test = c.loop-b-test.false in
    let below = c.loop-b.auto.b-end in
    let count = c.middles-b-end.ensures in
    let at : c.loop-b.b ≡ g.P.Paths.middles c.args.paths.now = omega arith in
    no_gap (g.P.Paths.first c.args.paths.now) (g.P.Paths.second c.args.paths.now) (g.P.Paths.third c.args.paths.now) (g.P.Paths.starts c.args.paths.now) (g.P.Paths.middles c.args.paths.now)
    (g.P.Paths.ends c.args.paths.now)
    (subst (λ m. NoMiddle (g.P.Paths.first c.args.paths.now) (g.P.Paths.second c.args.paths.now) (g.P.Paths.third c.args.paths.now) (g.P.Paths.starts c.args.paths.now) m (g.P.Paths.ends c.args.paths.now))
    at c.loop-b.invariant)
