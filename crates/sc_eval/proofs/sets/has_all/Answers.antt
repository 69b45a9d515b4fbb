use Rattle.sc_eval.proofs.CollectionsLaws.{all_are}
use Rattle.sc_eval.proofs.sets.has_all.Goals as goal

pub returns : goal.returns
returns c = all_are c.subset.result c.args.t.now c.args.s.now c.subset.ensures
