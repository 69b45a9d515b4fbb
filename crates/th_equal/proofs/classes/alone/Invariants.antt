use Rattle.std.proofs.Common.{◌≡◌, length}
use Rattle.th_equal.specs.Classes.{AreParents}
use Rattle.th_equal.proofs.classes.alone.Given as goal

abbrev pub invariant-loop-item : goal.invariant-loop-item
invariant-loop-item l = record {
  sized : length l.parents.items ≡ l.item;
  parents : AreParents l.parents.items;
}
