use Rattle.std.proofs.Common.{arith, ◌≡◌, subst}
use Rattle.sc_falsified.specs.Colours.{AreColoured}
use Rattle.sc_falsified.proofs.ColourLaws.{rooms_coloured}
use Rattle.sc_falsified.proofs.crowds.room.Goals as goal

pub returns-clause-room : goal.returns-clause-room
returns-clause-room g c =
    let test = c.loop-item-test.false in
    let below = c.loop-item.auto.item-end in
    let count = c.len-item-end.ensures.size in
    let all : c.loop-item.item ≡ g.E.Equalities.size c.args.items.now = omega arith in
    rooms_coloured (g.E.Equalities.truth c.args.items.now) c.args.chosen.now c.args.from (g.S.Texts.sign c.args.texts.now) (g.S.Texts.few c.args.texts.now) (g.E.Equalities.size c.args.items.now)
    c.loop-item.count c.loop-item.colours.items
    (subst (λ m. AreColoured (g.E.Equalities.truth c.args.items.now) c.args.chosen.now c.args.from m c.loop-item.count c.loop-item.colours.items) all c.loop-item.invariant)
