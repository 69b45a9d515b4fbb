use Rattle.sc_closure_rules.proofs.MakingLaws.{puts_one}
use Rattle.sc_candidates.proofs.memberships.put_member.Goals as goal

pub returns-clause-ok : goal.returns-clause-ok
returns-clause-ok c = puts_one _ _ _ _ _ _ c.in_ok-m.ensures.kept c.in_ok-m.ensures.ok c.in_ok-push.ensures.items
