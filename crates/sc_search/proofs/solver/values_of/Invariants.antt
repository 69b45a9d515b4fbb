use Rattle.std.proofs.Common.{◌≡◌, map, take}
use Rattle.sc_propagation.specs.Rooms.{cell_value}
use Rattle.sc_search.proofs.solver.values_of.Given as goal

abbrev pub invariant-loop-cell : goal.invariant-loop-cell
invariant-loop-cell l = l.values ≡ map cell_value (take l.cell-index l.cells)
