use Rattle.std.proofs.Common.{arith}
use Rattle.sc_smtlib.proofs.MarkLaws.{marked_first}
use Rattle.sc_smtlib.proofs.marks.subterm_marks.Goals as goal

pub loop-left-init : goal.loop-left-init
loop-left-init c = (marked_first _ c.args.goal _ c.in_ok-marks.ensures, omega arith)
