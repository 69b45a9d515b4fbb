use Rattle.sc_closure_rules.proofs.FollowLaws.{rule_is}
use Rattle.sc_closure_rules.proofs.following.rule_at.Goals as goal

pub returns : goal.returns
returns c = rule_is _ _ _ _ c.node.ensures.stands c.node.ensures.parts_in c.rule_of.ensures
