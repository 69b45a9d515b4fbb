use Rattle.sc_closure_rules.proofs.FollowLaws.{all_put}
use Rattle.sc_closure_rules.proofs.following.put_following.Goals as goal

pub returns-clause-ok : goal.returns-clause-ok
returns-clause-ok c =
    all_put _ _ _ _ _ _ _ c.requires.within _ _ _ _ _ _ c.in_ok-put_inputs.ensures.ok c.in_ok-put_inside.ensures.ok c.in_ok-put_choices.ensures.ok c.in_ok-put_beside.ensures.ok c.in_ok-put_parts.ensures
