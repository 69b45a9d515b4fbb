use Rattle.sc_propagation.proofs.ListedLaws.{place-at}
use Rattle.sc_propagation.proofs.watches.Watches.place_at.Goals as goal
use Rattle.sc_propagation.specs.Lists.{places_of}

pub returns : goal.returns
returns c = place-at (places_of c.args.self.now.lists c.args.lit) c.args.at c.place_at.result c.place_at.ensures
