use Rattle.sc_closure.proofs.TakesLaws.{takes_here}
use Rattle.sc_closure.proofs.taking.take_pattern.Goals as goal

pub returns-then-is_pattern_known-clause-ok : goal.returns-then-is_pattern_known-clause-ok
returns-then-is_pattern_known-clause-ok c = takes_here _ _ _ _ c.requires.are (rw c.as_slice.ensures at c.is_pattern_known.ensures c.if-is_pattern_known.true)
