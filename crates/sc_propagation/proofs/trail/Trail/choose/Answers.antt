use Rattle.sc_propagation.proofs.TrailLaws.{choice-or-all}
use Rattle.sc_propagation.proofs.trail.Trail.choose.Goals as goal

pub returns : goal.returns
returns c = choice-or-all c.args.self.now.cells.items c.first_choice.result c.first_choice.ensures
