use Rattle.std.proofs.Common.{arith, ◌≡◌, subst}
use Rattle.sc_falsified.specs.Settled.{AreRowsFree}
use Rattle.sc_falsified.proofs.SettledLaws.{none_settled}
use Rattle.sc_falsified.proofs.settled.settled_crowd.Goals as goal

pub returns-clause-none : goal.returns-clause-none
returns-clause-none g c =
    let test = c.loop-item-test.false in
    let below = c.loop-item.auto.item-end in
    let count = c.len-item-end.ensures.size in
    let all : c.loop-item.item ≡ g.E.Equalities.size c.args.items.now = omega arith in
    none_settled (g.E.Equalities.truth c.args.items.now) (g.S.Texts.sign c.args.texts.now) (g.S.Texts.few c.args.texts.now) (g.E.Equalities.size c.args.items.now) (g.S.Texts.patterns c.args.texts.now)
    c.args.labels.now c.requires (g.met.S.Texts.none c.args.texts.now) (g.met.S.Texts.greater c.args.texts.now) (g.met.S.Texts.asked c.args.texts.now) (g.met.S.Texts.split c.args.texts.now)
    (subst
    (λ m. AreRowsFree (g.E.Equalities.truth c.args.items.now) (g.S.Texts.sign c.args.texts.now) (g.S.Texts.few c.args.texts.now) (g.E.Equalities.size c.args.items.now) (g.S.Texts.patterns c.args.texts.now) m)
    all c.loop-item.invariant)
    (g.met.E.Equalities.reflexive c.args.items.now) (g.met.E.Equalities.symmetric c.args.items.now)
