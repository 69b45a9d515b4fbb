use Rattle.std.proofs.Common.{ap, length, replicate, true, ◌∙◌}
use Rattle.std.proofs.lemmas.Result.{IfOk-weaker}
use Rattle.sc_goal.specs.Queries.{second}
use Rattle.sc_goal.proofs.SelectionsLaws.{goal_of_all}
use Rattle.sc_goal.proofs.posing.goal.Goals as goal

pub returns-clause-ok : goal.returns-clause-ok
returns-clause-ok c =
    let q = c.args.query.now in
    IfOk-weaker c.goal_of.result _ _
    (λ n h. goal_of_all c.args.schema.now c.args.env.now q.question _ _ q.first (second q) _ n
    (c.deref.ensures.value ∙ c.in_ok-left.ensures.items_if_clones_equal (λ y e. e) ∙ ap (λ k. replicate k true) (c.len.ensures ∙ ap length c.sets.ensures.first))
    (c.deref-2.ensures.value ∙ c.in_ok-right.ensures.items_if_clones_equal (λ y e. e) ∙ ap (λ k. replicate k true) (ap length c.second.ensures)) h)
    c.goal_of.ensures.ok
