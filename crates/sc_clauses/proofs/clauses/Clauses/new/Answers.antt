use Rattle.sc_clauses.proofs.ArrayLaws.{empty, empty_cut}
use Rattle.sc_clauses.proofs.clauses.Clauses.new.Goals as goal

pub invariant_of-result : goal.invariant_of-result
invariant_of-result c = rw (c.new.ensures.items, c.new-2.ensures.items) empty

pub returns : goal.returns
returns c = rw (c.new.ensures.items, c.new-2.ensures.items) empty_cut
