use Rattle.std.proofs.Common.{◌≡◌, map, take, length}
use Rattle.sc_refutations.specs.Arenas.{lit_of}
use Rattle.sc_propagation.specs.Analyses.{IsCollected, MeetsMore, AreMet}
use Rattle.sc_propagation.proofs.trail.Trail.meet_all.Given as goal

abbrev pub invariant-loop-code : goal.invariant-loop-code
invariant-loop-code l = record {
  collected : IsCollected (length l.self.cells.items) l.self.cells.items l.first l.analysis.met l.analysis.lower.items;
  more : MeetsMore l.initial.analysis.met l.analysis.met;
  met : AreMet l.analysis.met (take l.code-index (map lit_of l.clause));
  hints : l.analysis.hints ≡ l.initial.analysis.hints;
}
