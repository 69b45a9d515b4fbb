use Rattle.std.proofs.Common.{◌++◌, [], ◌∷◌, ◌∙◌, List, sym, ap}
use Rattle.sc_clauses.specs.declared.lit.Lit.{Lit}
use Rattle.sc_clauses.specs.Clauses.{Clause}
use Rattle.th_defs.specs.Items.{kept_clauses}
use Rattle.th_defs.proofs.WholeLaws.{all_items}
use Rattle.th_defs.proofs.NumberLaws.{upto_start, upto_item, with_goal}
use Rattle.th_defs.proofs.definitions.defining.Goals as goal

pub loop-place-init : goal.loop-place-init
loop-place-init c = c.new-clauses.ensures ∙ sym (upto_start c.args.problem.now)

pub loop-place-preserved : goal.loop-place-preserved
loop-place-preserved c =
    c.in_ok-push_kept.ensures ∙ ap (λ (cs : List Clause). cs ++ kept_clauses c.args.problem.now c.item_at.result) c.loop-place.invariant
    ∙ sym (upto_item c.args.problem.now _ _ c.item_at.ensures.is)

pub returns : goal.returns
returns c =
    let whole = all_items c.problem_laws.ensures.terms _ c.laws.ensures in
    with_goal c.args.problem.now whole _ _ c.item_count-place-end.ensures c.loop-place-test.false c.loop-place.auto.place-end _ _ c.loop-place.invariant
    (c.in_ok-push.ensures.ok ∙ ap (λ (l : Lit). c.loop-place.clauses ++ (l ∷ []) ∷ []) c.goal_literal.ensures)
