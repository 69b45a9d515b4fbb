use Rattle.std.proofs.Common.{refl}
use Rattle.sc_candidates.proofs.JoinLaws.{crowds_within}
use Rattle.sc_closure.proofs.RoleLaws.{flow_takes}
use Rattle.sc_closure.proofs.taking.take_flow.Goals as goal

pub join_target-requires-clause-crowds_in : goal.join_target-requires-clause-crowds_in
join_target-requires-clause-crowds_in c = crowds_within _ _ c.requires.are.of_crowds

pub meet_flow-requires-clause-crowds_in : goal.meet_flow-requires-clause-crowds_in
meet_flow-requires-clause-crowds_in c = rw c.deref.ensures.value (crowds_within _ _ (c.in_ok-join_target.ensures.are c.requires.are.of_crowds))

pub returns-clause-ok : goal.returns-clause-ok
returns-clause-ok c =
    let r = c.args.roles.now in
    flow_takes c.args.terms.now _ r (record { named = r.named; crowds = _; kins = r.kins; sets = r.sets; above = r.above; patterns = r.patterns }) c.requires.are c.args.from c.args.to _ _ c.in_ok-join_target.ensures refl
    (rw c.deref.ensures.value at c.in_ok-meet_flow.ensures.ok)
