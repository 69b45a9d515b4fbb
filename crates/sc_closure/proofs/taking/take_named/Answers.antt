use Rattle.sc_closure_rules.proofs.MemberLaws.{within_later}
use Rattle.sc_closure.proofs.GroupLaws.{groups_within, groups_divided}
use Rattle.sc_closure.proofs.TakenLaws.{named_takes}
use Rattle.sc_closure.proofs.taking.take_named.Goals as goal

pub join-requires-clause-groups_in : goal.join-requires-clause-groups_in
join-requires-clause-groups_in c = groups_within _ _ c.requires.are.of_named

pub equate_groups-requires-clause-groups_in : goal.equate_groups-requires-clause-groups_in
equate_groups-requires-clause-groups_in c = rw c.deref.ensures.value (groups_within _ _ (c.in_ok-join.ensures.are c.requires.are.of_named))

pub equate_groups-requires-clause-divided : goal.equate_groups-requires-clause-divided
equate_groups-requires-clause-divided c = rw c.deref.ensures.value (groups_divided _ _ (c.in_ok-join.ensures.are c.requires.are.of_named))

pub meet_patterns-requires-clause-patterns_in : goal.meet_patterns-requires-clause-patterns_in
meet_patterns-requires-clause-patterns_in c = rw c.as_slice.ensures (within_later _ _ c.in_ok-equate_groups.ensures.kept.longer _ c.requires.are.of_patterns)

pub returns-clause-ok : goal.returns-clause-ok
returns-clause-ok c =
    let r = c.args.roles.now in
    named_takes c.order_laws.ensures.total c.args.terms.now r (record { named = _; crowds = r.crowds; kins = r.kins; sets = r.sets; above = r.above; patterns = r.patterns }) c.requires.are c.args.n c.in_ok-join.ensures _ _ _ _ _ c.requires.within
    (rw c.deref.ensures.value at c.in_ok-equate_groups.ensures.ok) (rw c.as_slice.ensures at c.in_ok-meet_patterns.ensures.ok)
