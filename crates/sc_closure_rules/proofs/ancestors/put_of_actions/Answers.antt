use Rattle.std.proofs.Common.{◌∷◌, arith, subst, ap, length, get_or, List, ◌<◌, ◌≡◌}
use Rattle.sc_names.specs.declared.uid.Uid.{Uid}
use Rattle.sc_sorts.specs.declared.sort.Sort.{out-Sort}
use Rattle.sc_term_definitions.proofs.MakingLaws.{puts_nothing}
use Rattle.sc_closure_rules.specs.Closure.{uid_term, ancestors_of, declared_members}
use Rattle.sc_closure_rules.proofs.LoopLaws.{all_next, all_end}
use Rattle.sc_closure_rules.proofs.ancestors.put_of_actions.Goals as goal

pub loop-action-init : goal.loop-action-init
loop-action-init c = puts_nothing _ _

pub loop-action-preserved : goal.loop-action-preserved
loop-action-preserved c =
    all_next (λ (u : Uid). ancestors_of c.args.own.now (uid_term c.args.choices.now u) ∷ declared_members c.args.schema.now (out-Sort c.args.own.now) c.args.own.now (uid_term c.args.choices.now u) u) c.args.choices.now _ _ _ _ c.loop-action.action-index
    c.loop-action.invariant _ _ c.action-item.result (subst (λ (vs : List Uid). c.loop-action.action-index < length vs) c.as_slice-action-items.ensures c.loop-action-test.true)
    (subst (λ (vs : List Uid). c.action-item.result ≡ get_or vs c.loop-action.action-index c.action-item.result) c.as_slice-action-items.ensures c.action-item.is) c.in_ok-put_of_action.ensures.ok

pub returns-clause-ok : goal.returns-clause-ok
returns-clause-ok c =
    all_end (λ (u : Uid). ancestors_of c.args.own.now (uid_term c.args.choices.now u) ∷ declared_members c.args.schema.now (out-Sort c.args.own.now) c.args.own.now (uid_term c.args.choices.now u) u) c.args.choices.now _ _ _ _ c.loop-action.action-index
    c.loop-action.invariant (omega (arith, c.loop-action-test.false, ap length c.as_slice-action-items.ensures))
