use Rattle.th_equal.specs.Classes.{IsCoarser}
use Rattle.th_equal.specs.Joining.{AreAtomsJoined}
use Rattle.th_equal.proofs.joining.join_atoms.Given as goal

abbrev pub invariant-loop-n : goal.invariant-loop-n
invariant-loop-n l = record {
  coarser : IsCoarser l.fn.parents.items l.parents.items;
  joined : AreAtomsJoined l.problem l.m l.n l.parents.items;
}
