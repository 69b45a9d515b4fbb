use Rattle.std.proofs.lemmas.Result.{on_ok_weaker}
use Rattle.sc_closure.proofs.TakesLaws.{takes_unasked, takes_asked}
use Rattle.sc_closure.proofs.taking.take_subset.Goals as goal

pub returns-then-is_written-clause-ok : goal.returns-then-is_written-clause-ok
returns-then-is_written-clause-ok c = takes_unasked _ _ _ _ _ _ c.requires.are c.is_written.ensures c.if-is_written.true

pub returns-clause-ok : goal.returns-clause-ok
returns-clause-ok c = on_ok_weaker c.take_flow.result (takes_asked _ _ _ _ _ _ _ _ _ c.is_written.ensures c.if-is_written.false) c.take_flow.ensures.ok
