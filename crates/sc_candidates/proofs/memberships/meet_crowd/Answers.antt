use Rattle.sc_candidates.proofs.CrowdLoopLaws.{other_told}
use Rattle.sc_candidates.proofs.memberships.meet_crowd.Goals as goal

pub returns-else-is_same-clause-ok : goal.returns-else-is_same-clause-ok
returns-else-is_same-clause-ok c = other_told _ _ _ _ c.args.crowd.now _ c.is_same.ensures c.if-is_same.false
