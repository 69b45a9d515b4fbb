use Rattle.sc_closure.proofs.HeldLaws.{roles_later}
use Rattle.sc_closure.proofs.TakesLaws.{follows_all}
use Rattle.sc_closure.proofs.closing.follow.Goals as goal

pub take_roles-requires-clause-are : goal.take_roles-requires-clause-are
take_roles-requires-clause-are c = roles_later _ _ c.in_ok-put_following.ensures.kept _ c.requires.are

pub returns-clause-ok : goal.returns-clause-ok
returns-clause-ok c = follows_all _ _ _ _ _ _ _ _ _ c.requires.within c.requires.are (rw c.new-numbers.ensures.items at c.in_ok-put_following.ensures.ok) c.in_ok-take_roles.ensures.ok
