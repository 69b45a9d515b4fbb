use Rattle.std.proofs.Common.{◌≡◌, List, sym, ap, ◌∙◌}
use Rattle.std.proofs.lemmas.Result.{IfOk-weaker}
use Rattle.sc_ast.specs.declared.policy.Policy.{Policy}
use Rattle.sc_goal.specs.Goals.{all_compiled}
use Rattle.sc_goal.specs.Selections.{selected}
use Rattle.sc_goal.proofs.GoalsLaws.{goal_is}
use Rattle.sc_goal.proofs.SelectionsLaws.{first_typed, second_typed}
use Rattle.sc_goal.proofs.posing.goal_of.Goals as goal

pub compile_marked-requires-clause-typed : goal.compile_marked-requires-clause-typed
compile_marked-requires-clause-typed c =
    first_typed c.args.schema.now c.args.env.now c.args.query.now.question c.args.left.now _ _ _ (c.as_slice.ensures ∙ c.sets.ensures.first) c.requires.posed

pub compile_marked-requires-2-clause-typed : goal.compile_marked-requires-2-clause-typed
compile_marked-requires-2-clause-typed c =
    second_typed c.args.schema.now c.args.env.now c.args.query.now.question c.args.right.now _ _ _ c.second.ensures c.requires.posed

pub returns-clause-ok : goal.returns-clause-ok
returns-clause-ok c =
    let of_left = λ (ps : List Policy). all_compiled c.args.schema.now c.args.env.now (selected c.args.left.now ps) in
    let of_right = λ (ps : List Policy). all_compiled c.args.schema.now c.args.env.now (selected c.args.right.now ps) in
    IfOk-weaker c.goal_between.result _ _
    (λ n h. goal_is c.args.query.now.question _ _ _ _ _ _ _ _ _ _ n c.question.ensures c.as_slice-2.ensures c.as_slice-3.ensures
    (ap of_left (sym (c.as_slice.ensures ∙ c.sets.ensures.first)) ∙ c.in_ok-first.ensures.ok) c.in_ok-first.ensures.codes c.in_ok-second.ensures.kept (ap of_right (sym c.second.ensures) ∙ c.in_ok-second.ensures.ok) h)
    c.goal_between.ensures.ok
