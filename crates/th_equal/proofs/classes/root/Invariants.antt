use Rattle.std.proofs.Common.{◌<◌, length}
use Rattle.th_equal.specs.Classes.{IsSame}
use Rattle.th_equal.proofs.classes.root.Given as goal

abbrev pub invariant-loop-parent : goal.invariant-loop-parent
invariant-loop-parent l = record {
  within : l.at < length l.parents;
  class : IsSame l.parents l.item l.at;
}

abbrev pub decreases-loop-parent : goal.decreases-loop-parent
decreases-loop-parent l = l.at
