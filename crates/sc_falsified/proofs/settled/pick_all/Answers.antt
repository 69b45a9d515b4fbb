use Rattle.sc_falsified.proofs.SettledLaws.{picked_none}
use Rattle.sc_falsified.proofs.settled.pick_all.Goals as goal

pub loop-item-init : goal.loop-item-init
loop-item-init g c =
    picked_none (g.E.Equalities.truth c.args.items.now) (g.S.Texts.sign c.args.texts.now) (g.E.Equalities.size c.args.items.now) (g.S.Texts.patterns c.args.texts.now)
    c.args.signs.now c.new-picked.result.items c.new-picked.ensures.items c.requires.sized
