use Rattle.std.proofs.Common.{sym, ◌∙◌}
use Rattle.sc_footprint.proofs.CandidateLaws.{owned_within, told_none}
use Rattle.sc_footprint.proofs.ShelvingLaws.{not_added}
use Rattle.sc_footprint.proofs.shelves.put_owned.Goals as goal

pub put_on-requires-clause-key_in : goal.put_on-requires-clause-key_in
put_on-requires-clause-key_in c = owned_within _ _ _ _ (sym c.owned.ensures ∙ c.in-Some.is) c.node.ensures.parts_in

pub returns-in-None : goal.returns-in-None
returns-in-None c = not_added _ _ _ _ c.requires.within (told_none _ _ _ c.node.ensures.stands (sym c.owned.ensures ∙ c.in-None.is))
