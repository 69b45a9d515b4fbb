use Rattle.std.proofs.Common.{◌<◌, sym, subst}
use Rattle.sc_smtlib.proofs.MarkLaws.{marks_then}
use Rattle.sc_smtlib.proofs.marks.mark_three.Goals as goal

pub mark_two-requires-clause-a_in : goal.mark_two-requires-clause-a_in
mark_two-requires-clause-a_in c = subst (λ n. c.args.b < n) (sym c.mark.ensures.as_many) c.requires.b_in

pub mark_two-requires-clause-b_in : goal.mark_two-requires-clause-b_in
mark_two-requires-clause-b_in c = subst (λ n. c.args.c < n) (sym c.mark.ensures.as_many) c.requires.c_in

pub returns : goal.returns
returns c = marks_then _ _ _ _ _ c.mark.ensures c.mark_two.ensures
