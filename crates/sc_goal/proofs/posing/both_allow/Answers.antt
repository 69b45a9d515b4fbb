use Rattle.std.proofs.lemmas.Result.{IfOk-weaker}
use Rattle.sc_symauth.specs.Standings.{allow}
use Rattle.sc_terms.specs.Folds.{and_term}
use Rattle.sc_goal.proofs.GoalsLaws.{two_stand}
use Rattle.sc_goal.proofs.posing.both_allow.Goals as goal

pub returns-clause-ok : goal.returns-clause-ok
returns-clause-ok c =
    IfOk-weaker c.and.result _ _
    (λ n h. two_stand and_term allow _ _ _ _ c.args.first.now c.args.second.now _ _ n c.requires.second_in c.in_ok-allowed.ensures.kept c.in_ok-others.ensures.kept c.in_ok-allowed.ensures.ok c.in_ok-others.ensures.ok h)
    c.and.ensures.ok
