use Rattle.std.proofs.Common.{arith, ◌≡◌, subst}
use Rattle.sc_falsified.specs.Crowds.{NoneAfter}
use Rattle.sc_falsified.proofs.CrowdLaws.{none_crowded}
use Rattle.sc_falsified.proofs.crowds.crowded.Goals as goal

pub returns-clause-none : goal.returns-clause-none
returns-clause-none g c =
    let test = c.loop-at-test.false in
    let at : c.loop-at.at ≡ 0 = omega arith in
    none_crowded (g.E.Equalities.truth c.args.items.now) (g.S.Texts.sign c.args.texts.now) (g.S.Texts.few c.args.texts.now) (g.E.Equalities.size c.args.items.now) (g.S.Texts.patterns c.args.texts.now)
    (g.met.E.Equalities.reflexive c.args.items.now) (g.met.E.Equalities.symmetric c.args.items.now) (g.met.S.Texts.greater c.args.texts.now)
    (subst
    (λ m. NoneAfter (g.E.Equalities.truth c.args.items.now) (g.S.Texts.sign c.args.texts.now) (g.S.Texts.few c.args.texts.now) (g.E.Equalities.size c.args.items.now) (g.S.Texts.patterns c.args.texts.now) m)
    at c.loop-at.invariant.none)
