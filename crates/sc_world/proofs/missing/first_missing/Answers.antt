use Rattle.sc_world.specs.Least.{wanted}
use Rattle.sc_world.proofs.LeastLaws.{found_least}
use Rattle.sc_world.proofs.missing.first_missing.Goals as goal

pub returns : goal.returns
returns c =
    let w = c.args.w.now in
    found_least w.store (wanted c.args.s.now c.args.lits.now w) (λ u. u.now) c.least_wanted.result c.least_wanted.ensures
