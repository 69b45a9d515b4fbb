use Rattle.sc_candidates.proofs.JoinLaws.{crowds_within}
use Rattle.sc_closure.proofs.taking.take_candidate.Goals as goal

pub is_known-requires-clause-kins_in : goal.is_known-requires-clause-kins_in
is_known-requires-clause-kins_in c = rw c.deref.ensures.value (crowds_within _ _ c.requires.are.of_kins.are)

pub take_known-requires-clause-known : goal.take_known-requires-clause-known
take_known-requires-clause-known c = rw c.deref.ensures.value at c.is_known.ensures c.if-is_known.true
