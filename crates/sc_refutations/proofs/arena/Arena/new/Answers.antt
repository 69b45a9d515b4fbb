use Rattle.sc_refutations.proofs.ArenaLaws.{no_pieces, none_ordered}
use Rattle.sc_refutations.proofs.arena.Arena.new.Goals as goal

pub invariant_of-result : goal.invariant_of-result
invariant_of-result c = rw (c.new.ensures.items, c.new-2.ensures.items) none_ordered

pub returns : goal.returns
returns c = rw (c.new.ensures.items, c.new-2.ensures.items) no_pieces
