use Rattle.sc_eval.proofs.CollectionsLaws.{same_is}
use Rattle.sc_eval.proofs.sets.is_equal.Goals as goal

pub returns : goal.returns
returns c = same_is c.is_same.result c.args.x.now c.args.y.now c.is_same.ensures
