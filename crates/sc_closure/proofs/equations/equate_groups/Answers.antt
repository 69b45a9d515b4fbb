use Rattle.std.proofs.Common.{length, arith}
use Rattle.sc_closure_rules.proofs.MakingLaws.{puts_nothing}
use Rattle.sc_candidates.proofs.DividedLaws.{divided_later}
use Rattle.sc_candidates.proofs.EquationLaws.{equates_all}
use Rattle.sc_closure.proofs.GroupLaws.{group_at, group_later, divided_at}
use Rattle.sc_closure.proofs.GroupEquationLaws.{equates_next, equates_end}
use Rattle.sc_closure.proofs.equations.equate_groups.Goals as goal

pub loop-group-init : goal.loop-group-init
loop-group-init c = equates_all _ _ _ _ _ _ (puts_nothing _ _)

pub equate_group-requires-clause-group_in : goal.equate_group-requires-clause-group_in
equate_group-requires-clause-group_in c =
    group_later (length c.args.terms.now) (length c.loop-group.terms) c.group-item.result c.loop-group.invariant.puts.kept.longer
    (group_at _ c.args.groups.now c.requires.groups_in c.loop-group.group-index c.group-item.result c.loop-group-test.true c.group-item.is)

pub equate_group-requires-clause-divided : goal.equate_group-requires-clause-divided
equate_group-requires-clause-divided c =
    let i = c.loop-group.group-index in
    divided_later c.args.terms.now c.loop-group.terms c.loop-group.invariant.puts.kept c.group-item.result.members c.group-item.result.others
    (group_at _ c.args.groups.now c.requires.groups_in i c.group-item.result c.loop-group-test.true c.group-item.is).1
    (divided_at _ c.args.groups.now c.requires.divided i c.group-item.result c.loop-group-test.true c.group-item.is)

pub loop-group-preserved : goal.loop-group-preserved
loop-group-preserved c =
    equates_next c.args.groups.now _ _ _ _ c.loop-group.group-index c.args.term _ _ c.group-item.result c.requires.groups_in c.requires.term_in c.loop-group.invariant c.loop-group-test.true c.group-item.is
    c.in_ok-equate_group.ensures.ok

pub returns-clause-ok : goal.returns-clause-ok
returns-clause-ok c = equates_end c.args.groups.now _ _ _ _ c.loop-group.group-index c.args.term c.loop-group.invariant (omega (arith, c.loop-group-test.false))
