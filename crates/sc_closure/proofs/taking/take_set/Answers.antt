use Rattle.sc_candidates.proofs.JoinLaws.{crowds_within}
use Rattle.sc_closure.proofs.RoleLaws.{set_takes}
use Rattle.sc_closure.proofs.taking.take_set.Goals as goal

pub meet_set-requires-clause-crowds_in : goal.meet_set-requires-clause-crowds_in
meet_set-requires-clause-crowds_in c = rw c.deref.ensures.value (crowds_within _ _ c.requires.are.of_kins.are)

pub returns-clause-ok : goal.returns-clause-ok
returns-clause-ok c =
    let r = c.args.roles.now in
    set_takes c.args.terms.now _ r (record { named = r.named; crowds = r.crowds; kins = r.kins; sets = _; above = r.above; patterns = r.patterns }) c.requires.are c.args.n c.requires.within _ _ c.in_ok-push.ensures.ok
    (rw c.deref.ensures.value at c.in_ok-meet_set.ensures.ok)
