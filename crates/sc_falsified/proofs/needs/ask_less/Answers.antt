use Rattle.sc_falsified.proofs.NeedLaws.{needed_none}
use Rattle.sc_falsified.proofs.needs.ask_less.Goals as goal

pub returns-in-None-clause-needed : goal.returns-in-None-clause-needed
returns-in-None-clause-needed g c = needed_none (g.S.Texts.few c.args.texts.now) c.args.count c.args.signs.now.items c.args.pattern _ c.index.ensures c.in-None.is c.requires.needed
