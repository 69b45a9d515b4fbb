use Rattle.std.proofs.Common.{arith, ◌≡◌, ◌∙◌, subst, get_or, None, ℕ, ◌<◌}
use Rattle.sc_falsified.specs.Chains.{seen}
use Rattle.sc_falsified.proofs.ChainLaws.{row_is}
use Rattle.sc_falsified.proofs.chains.row.Goals as goal

pub returns : goal.returns
returns g c =
    let test = c.loop-b-test.false in
    let below = c.loop-b.auto.b-end in
    let size = c.requires.labels.sized in
    let all : c.loop-b.b ≡ g.E.Equalities.size c.args.items.now = omega arith in
    row_is (g.E.Equalities.truth c.args.items.now) (g.E.Equalities.size c.args.items.now) c.args.labels.now c.loop-b.row.items c.args.a c.requires.labels c.requires.bound
    (c.loop-b.invariant.sized ∙ all)
    (subst (λ (n : ℕ). (b : ℕ) → b < n → get_or c.loop-b.row.items b None ≡ seen (g.E.Equalities.truth c.args.items.now) c.args.labels.now c.args.a b) all c.loop-b.invariant.at)
