use Rattle.std.proofs.Common.{map, take, length}
use Rattle.sc_refutations.specs.Arenas.{lit_of}
use Rattle.sc_propagation.specs.Readings.{IsSoFar}
use Rattle.sc_propagation.proofs.trail.Trail.status.Given as goal

abbrev pub invariant-loop-code : goal.invariant-loop-code
invariant-loop-code l = IsSoFar l.self.cells.items (length l.self.lits.items) (take l.code-index (map lit_of l.clause)) l.open
