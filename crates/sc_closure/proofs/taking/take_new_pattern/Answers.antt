use Rattle.sc_closure.proofs.GroupLaws.{groups_within}
use Rattle.sc_closure.proofs.TakenLaws.{pattern_takes}
use Rattle.sc_closure.proofs.taking.take_new_pattern.Goals as goal

pub meet_groups-requires-clause-groups_in : goal.meet_groups-requires-clause-groups_in
meet_groups-requires-clause-groups_in c = rw c.deref.ensures.value (groups_within _ _ c.requires.are.of_named)

pub returns-clause-ok : goal.returns-clause-ok
returns-clause-ok c =
    let r = c.args.roles.now in
    pattern_takes c.args.terms.now r (record { named = r.named; crowds = r.crowds; kins = r.kins; sets = r.sets; above = r.above; patterns = _ }) c.requires.are c.args.asking c.requires.within c.in_ok-push.ensures.ok _ _ _
    (rw c.deref.ensures.value at c.in_ok-meet_groups.ensures.ok)
