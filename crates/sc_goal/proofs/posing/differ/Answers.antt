use Rattle.std.proofs.lemmas.Result.{IfOk-weaker}
use Rattle.sc_symauth.specs.Standings.{allow}
use Rattle.sc_terms.specs.Folds.{equal_term}
use Rattle.sc_goal.proofs.GoalsLaws.{two_stand, not_stands}
use Rattle.sc_goal.proofs.posing.differ.Goals as goal

pub returns-clause-ok : goal.returns-clause-ok
returns-clause-ok c =
    let same = two_stand equal_term allow _ _ _ _ c.args.first.now c.args.second.now _ _ _ c.requires.second_in c.in_ok-allowed.ensures.kept c.in_ok-others.ensures.kept c.in_ok-allowed.ensures.ok c.in_ok-others.ensures.ok c.in_ok-same.ensures.ok in
    IfOk-weaker c.not.result _ _ (λ n h. not_stands _ _ _ n _ same h) c.not.ensures.ok
