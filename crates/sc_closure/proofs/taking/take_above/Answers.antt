use Rattle.sc_closure_rules.proofs.MemberLaws.{within_push}
use Rattle.sc_candidates.proofs.JoinLaws.{crowds_within}
use Rattle.sc_closure.proofs.RoleLaws.{above_takes}
use Rattle.sc_closure.proofs.taking.take_above.Goals as goal

pub meet_entity-requires-clause-all_in : goal.meet_entity-requires-clause-all_in
meet_entity-requires-clause-all_in c = rw (c.as_slice.ensures, c.in_ok-push.ensures.ok) (within_push _ _ _ c.requires.are.of_above c.requires.within)

pub meet_entity-requires-clause-crowds_in : goal.meet_entity-requires-clause-crowds_in
meet_entity-requires-clause-crowds_in c = rw c.deref.ensures.value (crowds_within _ _ c.requires.are.of_kins.are)

pub returns-clause-ok : goal.returns-clause-ok
returns-clause-ok c =
    let r = c.args.roles.now in
    above_takes c.args.terms.now _ r (record { named = r.named; crowds = r.crowds; kins = r.kins; sets = r.sets; above = _; patterns = r.patterns }) c.requires.are c.args.n c.requires.within _ _ c.requires.is c.in_ok-push.ensures.ok
    (rw (c.as_slice.ensures, c.deref.ensures.value) at c.in_ok-meet_entity.ensures.ok)
