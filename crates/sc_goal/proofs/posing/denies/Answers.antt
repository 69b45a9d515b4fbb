use Rattle.std.proofs.lemmas.Result.{IfOk-weaker}
use Rattle.sc_goal.proofs.GoalsLaws.{not_stands}
use Rattle.sc_goal.proofs.posing.denies.Goals as goal

pub returns-clause-ok : goal.returns-clause-ok
returns-clause-ok c = IfOk-weaker c.not.result _ _ (λ n h. not_stands _ _ _ n _ c.in_ok-allowed.ensures.ok h) c.not.ensures.ok
