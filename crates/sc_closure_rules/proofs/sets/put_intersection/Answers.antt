use Rattle.std.proofs.lemmas.Result.{on_ok_weaker}
use Rattle.sc_closure_rules.proofs.StandingLaws.{picked_from}
use Rattle.sc_closure_rules.proofs.sets.put_intersection.Goals as goal

pub returns-clause-ok : goal.returns-clause-ok
returns-clause-ok c =
    on_ok_weaker c.put_picked.result (picked_from _ _ _ _ _ _ _ _ _ c.requires.a_in c.requires.b_in c.in_ok-pick.ensures.kept c.in_ok-pick.ensures.ok) c.put_picked.ensures.ok
