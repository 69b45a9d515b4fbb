use Rattle.std.proofs.Common.{List, arith, subst, ap, length, get_or, ◌<◌, ◌≡◌}
use Rattle.sc_names.specs.declared.uid.Uid.{Uid}
use Rattle.sc_closure_rules.specs.Closure.{uid_term}
use Rattle.sc_term_definitions.proofs.MakingLaws.{puts_nothing}
use Rattle.sc_closure_rules.proofs.LoopLaws.{each_next, each_end}
use Rattle.sc_closure_rules.proofs.ancestors.put_uids.Goals as goal

pub loop-uid-init : goal.loop-uid-init
loop-uid-init c = puts_nothing _ _

pub loop-uid-preserved : goal.loop-uid-preserved
loop-uid-preserved c =
    let so_far = c.loop-uid.invariant in
    each_next (uid_term c.args.choices.now) c.args.choices.now _ _ _ _ c.loop-uid.uid-index so_far _ _ c.uid-item.result c.in_ok-m.m (subst (λ (vs : List Uid). c.loop-uid.uid-index < length vs) c.as_slice-uid-items.ensures c.loop-uid-test.true)
    (subst (λ (vs : List Uid). c.uid-item.result ≡ get_or vs c.loop-uid.uid-index c.uid-item.result) c.as_slice-uid-items.ensures c.uid-item.is) c.in_ok-m.ensures.kept
    c.in_ok-m.ensures.ok
    c.in_ok-push.ensures.items

pub returns-clause-ok : goal.returns-clause-ok
returns-clause-ok c = each_end (uid_term c.args.choices.now) c.args.choices.now _ _ _ _ c.loop-uid.uid-index c.loop-uid.invariant (omega (arith, c.loop-uid-test.false, ap length c.as_slice-uid-items.ensures))
