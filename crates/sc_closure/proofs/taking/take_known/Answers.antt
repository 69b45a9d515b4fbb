use Rattle.sc_candidates.proofs.JoinLaws.{crowds_within}
use Rattle.sc_candidates.proofs.KinLaws.{kins_known}
use Rattle.sc_closure.proofs.RoleLaws.{known_takes}
use Rattle.sc_closure.proofs.taking.take_known.Goals as goal

pub join_candidate-requires-clause-crowds_in : goal.join_candidate-requires-clause-crowds_in
join_candidate-requires-clause-crowds_in c = crowds_within _ _ c.requires.are.of_crowds

pub meet_crowds-requires-clause-crowds_in : goal.meet_crowds-requires-clause-crowds_in
meet_crowds-requires-clause-crowds_in c = rw c.deref.ensures.value (c.in_ok-join_candidate.ensures.are c.requires.are.of_crowds)

pub returns-clause-ok : goal.returns-clause-ok
returns-clause-ok c =
    let r = c.args.roles.now in
    known_takes c.order_laws.ensures.total c.args.terms.now r (record { named = r.named; crowds = _; kins = r.kins; sets = r.sets; above = r.above; patterns = r.patterns }) c.requires.are c.args.n c.args.in_set c.in_ok-join_candidate.ensures
    (kins_known _ _ _ _ _ c.in_ok-join_candidate.ensures _ c.requires.known c.requires.are.of_kins) _ _ _ c.requires.known (rw c.deref.ensures.value at c.in_ok-meet_crowds.ensures.ok)
