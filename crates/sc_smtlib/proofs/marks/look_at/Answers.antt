use Rattle.sc_smtlib.proofs.MarkLaws.{node_less}
use Rattle.sc_smtlib.proofs.marks.look_at.Goals as goal

pub mark_parts-requires : goal.mark_parts-requires
mark_parts-requires c = node_less c.args.n _ _ c.requires.within c.node.ensures.parts
