use Rattle.std.proofs.Common.{rules}
use Rattle.sc_falsified.proofs.SettledLaws.{picked_other, picked_more}
use Rattle.sc_falsified.proofs.settled.pick.Goals as goal

pub returns-then-not-fits : goal.returns-then-not-fits
returns-then-not-fits g c =
    picked_other (g.E.Equalities.truth c.args.items.now) (g.S.Texts.sign c.args.texts.now) (g.E.Equalities.size c.args.items.now) (g.S.Texts.patterns c.args.texts.now)
    c.args.item c.args.signs.now c.args.picked.now.items (search rules) c.requires.picked

pub returns : goal.returns
returns g c =
    picked_more (g.E.Equalities.truth c.args.items.now) (g.S.Texts.sign c.args.texts.now) (g.E.Equalities.size c.args.items.now) (g.S.Texts.patterns c.args.texts.now)
    c.args.item c.args.signs.now c.args.picked.now.items c.push.new.self.items c.requires.bound (search rules) (search rules) (search rules) c.requires.picked
