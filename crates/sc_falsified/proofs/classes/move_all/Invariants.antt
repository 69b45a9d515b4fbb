use Rattle.std.proofs.Common.{◌≡◌, ◌++◌, map, take, drop}
use Rattle.sc_falsified.specs.Classes.{moved}
use Rattle.sc_falsified.proofs.classes.move_all.Given as goal

abbrev pub invariant-loop-label : goal.invariant-loop-label
invariant-loop-label l = l.label-items ≡ map (moved l.from l.to) (take l.label-index l.fn.labels.items) ++ drop l.label-index l.fn.labels.items
