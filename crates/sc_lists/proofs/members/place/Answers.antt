use Rattle.sc_lists.proofs.OrderedLaws.{members_searched}
use Rattle.sc_lists.proofs.members.place.Goals as goal

pub returns-clause-found : goal.returns-clause-found
returns-clause-found g c = (members_searched g.met.K.Ord.total c.args.members.now c.args.x.now _ c.requires c.binary_search.ensures.bound c.binary_search.ensures.position).0

pub returns-clause-absent : goal.returns-clause-absent
returns-clause-absent g c = (members_searched g.met.K.Ord.total c.args.members.now c.args.x.now _ c.requires c.binary_search.ensures.bound c.binary_search.ensures.position).1
