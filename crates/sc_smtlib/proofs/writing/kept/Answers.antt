use Rattle.std.proofs.Common.{rules}
use Rattle.sc_smtlib.proofs.KeptLaws.{kept_end, kept_more}
use Rattle.sc_smtlib.proofs.writing.kept.Goals as goal

pub loop-place-preserved : goal.loop-place-preserved
loop-place-preserved c = kept_more c.args.marks.now c.args.problem.now.closed c.loop-place.place _ _ _ (search rules) c.in_ok-keep.ensures c.loop-place.invariant

pub returns : goal.returns
returns c = kept_end _ c.args.problem.now _ _ c.laws.ensures (search rules) c.loop-place.invariant
