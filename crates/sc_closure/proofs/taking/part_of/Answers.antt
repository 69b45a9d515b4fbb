use Rattle.sc_closure.proofs.TakesLaws.{part_is}
use Rattle.sc_closure.proofs.taking.part_of.Goals as goal

pub returns : goal.returns
returns c = part_is _ _ _ _ c.node.ensures.stands c.node.ensures.parts_in c.part_at.ensures
