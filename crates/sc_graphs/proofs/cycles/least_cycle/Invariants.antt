use Rattle.std.proofs.Common.{◌≡◌, []}
use Rattle.sc_graphs.specs.Paths.{Stands}
use Rattle.sc_graphs.proofs.FoundLaws.{LeftBefore}
use Rattle.sc_graphs.proofs.cycles.least_cycle.Given as goal

abbrev pub invariant-loop-start : goal.invariant-loop-start
invariant-loop-start l = record { stands : Stands l.graph l.search; nowhere : l.search.parts.items ≡ []; left : LeftBefore l.search.marks.items l.start }
