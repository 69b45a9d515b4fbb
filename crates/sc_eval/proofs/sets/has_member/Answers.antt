use Rattle.sc_eval.proofs.CollectionsLaws.{member_is}
use Rattle.sc_eval.proofs.sets.has_member.Goals as goal

pub returns : goal.returns
returns c = member_is c.contains.result c.args.s.now c.args.x.now c.contains.ensures
