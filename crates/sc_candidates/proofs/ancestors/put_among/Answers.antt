use Rattle.std.proofs.lemmas.Result.{on_ok_weaker}
use Rattle.sc_closure_rules.proofs.MakingLaws.{stood_later}
use Rattle.sc_closure_rules.proofs.MemberLaws.{within_later}
use Rattle.sc_candidates.proofs.AncestorLaws.{puts_among}
use Rattle.sc_candidates.proofs.ancestors.put_among.Goals as goal

pub put_each_in-requires-clause-members_in : goal.put_each_in-requires-clause-members_in
put_each_in-requires-clause-members_in c = within_later _ _ c.in_ok-all.ensures.kept.longer _ c.requires.members_in

pub returns-clause-ok : goal.returns-clause-ok
returns-clause-ok c =
    on_ok_weaker c.put_each_in.result (puts_among _ _ _ _ _ c.args.members.now _ _ (stood_later _ _ c.in_ok-all.ensures.kept _ c.requires.members_in) c.in_ok-all.ensures.kept c.in_ok-all.ensures.ok) c.put_each_in.ensures.ok
