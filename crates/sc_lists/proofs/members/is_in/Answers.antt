use Rattle.std.proofs.Common.{◌∙◌}
use Rattle.sc_lists.proofs.OrderedLaws.{is_in_place}
use Rattle.sc_lists.proofs.members.is_in.Goals as goal

pub returns : goal.returns
returns g c = c.is_ok.ensures.value ∙ is_in_place g.met.K.Ord.total c.args.members.now c.args.x.now _ c.place.ensures.found c.place.ensures.absent
