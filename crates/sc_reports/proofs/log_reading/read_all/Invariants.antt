use Rattle.std.proofs.Common.{◌≡◌, ℕ, List, IsSome}
use Rattle.sc_reports.specs.LogReading.{IsOnTheWay, SameProblem}
use Rattle.sc_reports.proofs.log_reading.read_all.Given as goal

abbrev pub invariant-loop-piece : goal.invariant-loop-piece
invariant-loop-piece g l = record {
  started : IsSome (g.F.Files.left l.files);
  same : SameProblem l.initial.checker l.checker;
  way : IsOnTheWay (g.F.Files.left l.initial.files) l.initial.checker l.checker l.room (g.F.Files.left l.files);
  keeps : (other : List ℕ) → g.F.Files.content l.files other ≡ g.F.Files.content l.initial.files other;
  stays : g.F.Files.started l.files ≡ g.F.Files.started l.initial.files;
  calm : g.F.Files.faults l.initial.files ≡ g.F.Files.faults l.files;
}

abbrev pub decreases-loop-piece : goal.decreases-loop-piece
decreases-loop-piece g l = l.room
