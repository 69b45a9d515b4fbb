use Rattle.std.proofs.lemmas.Result.{on_ok_weaker}
use Rattle.sc_closure_rules.proofs.MemberLaws.{within_later}
use Rattle.sc_candidates.proofs.CrowdLoopLaws.{own_told}
use Rattle.sc_candidates.proofs.memberships.meet_own.Goals as goal

pub equate_members-requires-clause-members_in : goal.equate_members-requires-clause-members_in
equate_members-requires-clause-members_in c = rw c.as_slice.ensures c.requires.crowd_in.within.1

pub equate_members-requires-clause-divided : goal.equate_members-requires-clause-divided
equate_members-requires-clause-divided c = rw (c.as_slice.ensures, c.as_slice-2.ensures) c.requires.crowd_in.divided

pub put_in_each-requires-clause-sets_in : goal.put_in_each-requires-clause-sets_in
put_in_each-requires-clause-sets_in c = rw c.as_slice-3.ensures (within_later _ _ c.in_ok-equate_members.ensures.kept.longer _ c.requires.crowd_in.within.2)

pub returns-clause-ok : goal.returns-clause-ok
returns-clause-ok c =
    on_ok_weaker c.put_in_each.result (own_told _ _ _ _ _ _ c.args.crowd.now _ c.requires.crowd_in c.requires.term_in (rw c.as_slice.ensures at c.in_ok-equate_members.ensures.ok))
    (rw c.as_slice-3.ensures at c.put_in_each.ensures.ok)
