use Rattle.sc_eval.proofs.CollectionsLaws.{any_is}
use Rattle.sc_eval.proofs.sets.has_any.Goals as goal

pub returns : goal.returns
returns c = any_is c.intersects.result c.args.t.now c.args.s.now c.intersects.ensures
