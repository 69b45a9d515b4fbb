use Rattle.sc_smtlib.proofs.MarkLaws.{many_below, many_marked}
use Rattle.sc_smtlib.proofs.marks.mark_parts.Goals as goal

pub mark_all-requires : goal.mark_all-requires
mark_all-requires c = many_below _ _ _ _ _ c.in-Many.is c.as_slice.ensures c.requires

pub returns-in-Many : goal.returns-in-Many
returns-in-Many c = many_marked _ _ _ _ _ _ c.in-Many.is c.as_slice.ensures c.mark_all.ensures
