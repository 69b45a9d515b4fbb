use Rattle.std.proofs.Common.{◌-◌, length}
use Rattle.sc_names.specs.Scanning.{start, Stands}
use Rattle.sc_names.proofs.path.check_path.Given as goal

abbrev pub invariant-loop-at : goal.invariant-loop-at
invariant-loop-at l = Stands l.text l.at start

abbrev pub decreases-loop-at : goal.decreases-loop-at
decreases-loop-at l = length l.text - l.at
