use Rattle.std.proofs.Common.{◌≤◌, length}
use Rattle.sc_propagation.specs.Analyses.{IsCollected, RefutesMet}
use Rattle.sc_propagation.proofs.trail.Trail.refute.Given as goal

abbrev pub invariant-back : goal.invariant-back
invariant-back l = record {
  within : l.i ≤ length l.self.lits.items;
  collected : IsCollected (length l.self.cells.items) l.self.cells.items 0 l.analysis.met l.analysis.lower.items;
  refutes : RefutesMet l.clauses l.self.cells.items (length l.self.lits.items) l.i l.analysis.met l.analysis.hints.items;
}

abbrev pub decreases-back : goal.decreases-back
decreases-back l = l.i
