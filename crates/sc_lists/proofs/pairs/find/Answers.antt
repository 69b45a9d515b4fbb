use Rattle.std.proofs.Common.{sym}
use Rattle.sc_lists.proofs.OrderedLaws.{find_stands, value_at-belongs}
use Rattle.sc_lists.proofs.pairs.find.Goals as goal

pub returns-in-Ok : goal.returns-in-Ok
returns-in-Ok g c = sym (find_stands g.met.K.Ord.total c.args.pairs.now c.args.key.now c.in-Ok.at c.index-pairs-at.result c.requires c.in-Ok.ensures.found)

pub returns-in-Err : goal.returns-in-Err
returns-in-Err g c = sym (value_at-belongs g.met.K.Ord.total c.args.pairs.now c.args.key.now c.in-Err.field-0 c.in-Err.ensures.absent)
