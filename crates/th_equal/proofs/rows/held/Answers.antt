use Rattle.th_equal.proofs.PartLaws.{held_there}
use Rattle.th_equal.proofs.rows.held.Goals as goal

pub returns : goal.returns
returns c = held_there c.args.problem.now c.args.o c.companion.result c.requires.o c.requires.option c.companion.ensures.value c.companion.ensures.within
