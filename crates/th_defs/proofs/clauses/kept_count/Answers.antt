use Rattle.th_defs.proofs.LoopLaws.{few_kept}
use Rattle.th_defs.proofs.clauses.kept_count.Goals as goal

pub overflow_add-count : goal.overflow_add-count
overflow_add-count c = record { fits = few_kept _ _ _ _ c.loop-clause.invariant c.loop-clause-test.true c.clause_count-clause-end.type_inv }
