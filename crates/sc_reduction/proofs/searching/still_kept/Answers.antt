use Rattle.std.proofs.Common.{subst, sym}
use Rattle.std.proofs.lemmas.Result.{IfOk-weaker}
use Rattle.sc_reduction.specs.Marked.{HasWorld, asked_by, trial_of}
use Rattle.sc_reduction.specs.Trials.{Finds}
use Rattle.sc_reduction.proofs.SearchLaws.{kept_again}
use Rattle.sc_reduction.proofs.searching.still_kept.Goals as goal

pub returns-in-Kept : goal.returns-in-Kept
returns-in-Kept c =
    let t = trial_of c.args.task.now c.args.left.now c.args.right.now in
    IfOk-weaker c.tells_apart.result _ _
    (λ b is told. subst (Finds t) (sym c.in-Kept.is) (kept_again t _ c.in-Kept.world b (subst (HasWorld (asked_by c.args.task.now)) c.in-Kept.is c.requires.world) is told)) c.tells_apart.ensures
