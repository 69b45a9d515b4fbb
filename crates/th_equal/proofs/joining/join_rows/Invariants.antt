use Rattle.th_equal.specs.Classes.{IsCoarser}
use Rattle.th_equal.specs.Joining.{AreRowsJoined}
use Rattle.th_equal.proofs.joining.join_rows.Given as goal

abbrev pub invariant-loop-one : goal.invariant-loop-one
invariant-loop-one l = record {
  coarser : IsCoarser l.fn.parents.items l.parents.items;
  joined : AreRowsJoined l.named.problem.now l.named.m.now l.named.numbers.items l.one l.parents.items;
}
