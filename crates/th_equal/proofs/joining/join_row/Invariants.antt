use Rattle.th_equal.specs.Classes.{IsCoarser}
use Rattle.th_equal.specs.Joining.{IsRowJoined}
use Rattle.th_equal.proofs.joining.join_row.Given as goal

abbrev pub invariant-loop-other : goal.invariant-loop-other
invariant-loop-other l = record {
  coarser : IsCoarser l.fn.parents.items l.parents.items;
  joined : IsRowJoined l.named.problem.now l.named.m.now l.named.numbers.items l.one l.other l.parents.items;
}
