use Rattle.sc_terms.proofs.TableLaws.{keeps_then}
use Rattle.sc_closure_rules.proofs.MemberLaws.{within_later}
use Rattle.sc_candidates.proofs.JoinLaws.{crowds_within}
use Rattle.sc_candidates.proofs.KinLaws.{kins_joined}
use Rattle.sc_closure.proofs.RoleLaws.{candidate_takes}
use Rattle.sc_closure.proofs.taking.take_new.Goals as goal

pub join_candidate-requires-clause-crowds_in : goal.join_candidate-requires-clause-crowds_in
join_candidate-requires-clause-crowds_in c = crowds_within _ _ c.requires.are.of_crowds

pub join_kin-requires-clause-kins_in : goal.join_kin-requires-clause-kins_in
join_kin-requires-clause-kins_in c = crowds_within _ _ c.requires.are.of_kins.are

pub meet_crowds-requires-clause-crowds_in : goal.meet_crowds-requires-clause-crowds_in
meet_crowds-requires-clause-crowds_in c = rw c.deref.ensures.value (c.in_ok-join_candidate.ensures.are c.requires.are.of_crowds)

pub meet_linked-requires-clause-sets_in : goal.meet_linked-requires-clause-sets_in
meet_linked-requires-clause-sets_in c = rw c.as_slice.ensures (within_later _ _ c.in_ok-meet_crowds.ensures.kept.longer _ c.requires.are.of_sets)

pub meet_above-requires-clause-all_in : goal.meet_above-requires-clause-all_in
meet_above-requires-clause-all_in c =
    rw c.as_slice-2.ensures (within_later _ _ (keeps_then _ _ _ c.in_ok-meet_crowds.ensures.kept c.in_ok-meet_linked.ensures.kept).longer _ c.requires.are.of_above)

pub returns-clause-ok : goal.returns-clause-ok
returns-clause-ok c =
    let r = c.args.roles.now in
    candidate_takes c.order_laws.ensures.total c.args.terms.now r (record { named = r.named; crowds = _; kins = _; sets = r.sets; above = r.above; patterns = r.patterns }) c.requires.are c.args.n c.args.in_set c.in_ok-join_candidate.ensures
    (kins_joined _ _ _ _ _ c.in_ok-join_candidate.ensures _ _ c.in_ok-join_kin.ensures c.requires.are.of_kins)
    _ _ _ _ _ _ _ c.requires.within c.requires.set_within (rw c.deref.ensures.value at c.in_ok-meet_crowds.ensures.ok) (rw c.as_slice.ensures at c.in_ok-meet_linked.ensures.ok)
    (rw c.as_slice-2.ensures at c.in_ok-meet_above.ensures.ok)
