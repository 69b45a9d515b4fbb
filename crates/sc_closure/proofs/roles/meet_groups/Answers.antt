use Rattle.std.proofs.Common.{length, arith}
use Rattle.sc_closure_rules.proofs.MakingLaws.{puts_nothing}
use Rattle.sc_closure.proofs.GroupLaws.{group_at, group_later, groups_next, groups_end}
use Rattle.sc_closure.proofs.roles.meet_groups.Goals as goal

pub loop-group-init : goal.loop-group-init
loop-group-init c = puts_nothing _ _

pub put_group-requires-clause-group_in : goal.put_group-requires-clause-group_in
put_group-requires-clause-group_in c =
    group_later (length c.args.terms.now) (length c.loop-group.terms) c.group-item.result c.loop-group.invariant.kept.longer
    (group_at _ c.args.groups.now c.requires.groups_in c.loop-group.group-index c.group-item.result c.loop-group-test.true c.group-item.is)

pub loop-group-preserved : goal.loop-group-preserved
loop-group-preserved c =
    groups_next c.args.meeting c.args.groups.now _ _ _ _ _ _ c.loop-group.group-index c.args.term c.group-item.result c.requires.groups_in c.requires.term_in c.loop-group.invariant c.loop-group-test.true c.group-item.is
    c.in_ok-put_group.ensures.ok

pub returns-clause-ok : goal.returns-clause-ok
returns-clause-ok c = groups_end c.args.meeting c.args.groups.now _ _ _ _ c.loop-group.group-index _ c.loop-group.invariant (omega (arith, c.loop-group-test.false))
