use Rattle.std.proofs.Common.{◌≡◌, [], drop, filter}
use Rattle.sc_closure.specs.Following.{put_new}
use Rattle.sc_smtlib.specs.Marks.{is_marked}
use Rattle.sc_smtlib.proofs.writing.kept.Given as goal

abbrev pub invariant-loop-place : goal.invariant-loop-place
invariant-loop-place l = put_new l.numbers.keys (filter (is_marked l.fn.marks) (drop l.place l.problem.closed)) ≡ put_new [] (filter (is_marked l.fn.marks) l.problem.closed)
