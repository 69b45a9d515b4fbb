use Rattle.std.proofs.Common.{map, take, length}
use Rattle.sc_refutations.specs.Arenas.{lit_of}
use Rattle.sc_propagation.specs.Trails.{AllInCells}
use Rattle.sc_propagation.proofs.trail.Trail.are_in_cells.Given as goal

-- the literals before have cells
abbrev pub invariant-loop-code : goal.invariant-loop-code
invariant-loop-code l = AllInCells (length l.self.cells.items) (map lit_of (take l.code-index l.clause))
