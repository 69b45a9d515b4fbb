use Rattle.std.proofs.Common.{true, false, arith}
use Rattle.sc_propagation.proofs.lists.Lists.places_of.Goals as goal

pub index-requires : goal.index-requires
index-requires c = omega (arith, c.requires true, c.args.self.now.negations.ok.0)

pub index-requires-2 : goal.index-requires-2
index-requires-2 c = omega (arith, c.requires false, c.args.self.now.atoms.ok.0)
