use Rattle.std.proofs.Common.{◌∙◌, ℕ, List, [], subst, sym}
use Rattle.sc_outside.proofs.CountLaws.{stands}
use Rattle.sc_outside.proofs.PieceLaws.{stays_started}
use Rattle.sc_outside.specs.Counts.{Rose}
use Rattle.sc_outside.specs.Failures.{FailsOn}
use Rattle.sc_outside.specs.Reads.{IsLast}
use Rattle.sc_inputs.proofs.ReadingLaws.{fails_so}
use Rattle.sc_inputs.specs.Refusals.{log_limit}
use Rattle.sc_reports.proofs.LogReadingLaws.{same-on, way-fails, way-on}
use Rattle.sc_reports.specs.LogReading.{ComesTo, RefusesPiece}
use Rattle.sc_reports.proofs.log_reading.read_all.Goals as goal

pub returns-in-Err-clause-fails : goal.returns-in-Err-clause-fails
returns-in-Err-clause-fails g c =
    let left = g.F.Files.left c.loop-piece.files in
    let start = g.F.Files.left c.args.files.now in
    let faults = g.F.Files.faults in
    let later = FailsOn g.F.Files c.loop-piece.files c.next_piece.new.files in
    let failed = FailsOn g.F.Files c.args.files.now c.next_piece.new.files in
    fails_so (RefusesPiece left c.loop-piece.room later) (RefusesPiece start log_limit failed)
    (way-fails start c.args.checker.now c.loop-piece.checker c.loop-piece.room left later failed
    (λ (h : later). (subst (λ (n : ℕ). Rose n (faults c.next_piece.new.files)) (sym c.loop-piece.invariant.calm) h.0, subst (IsLast (g.F.Files.failed c.next_piece.new.files)) c.loop-piece.invariant.stays h.1)) c.loop-piece.invariant.way)
    c.in-Err.fault c.in-Err.ensures.fails

pub loop-piece-preserved : goal.loop-piece-preserved
loop-piece-preserved g c =
    let faults = g.F.Files.faults in
    let fed = subst (λ (bytes : List ℕ). ComesTo c.loop-piece.checker bytes c.feed.new.checker []) c.deref.ensures.value c.in-Ok-feed.ensures.fed in
    record {
      started = stays_started (g.F.Files.left c.loop-piece.files) (g.F.Files.left c.next_piece.new.files) c.in-Ok.piece.items c.in-Ok.ensures.front c.loop-piece.invariant.started;
      same = same-on c.args.checker.now c.loop-piece.checker c.feed.new.checker c.loop-piece.invariant.same c.in-Ok-feed.ensures.problem;
      way = way-on (g.F.Files.left c.args.files.now) c.args.checker.now c.loop-piece.checker c.feed.new.checker c.in-Ok.piece.items c.loop-piece.room c.next_piece.new.room
          (g.F.Files.left c.loop-piece.files) (g.F.Files.left c.next_piece.new.files) c.loop-piece.invariant.way c.in-Ok.ensures.front c.in-Ok.ensures.room c.in-Ok-feed.ensures.problem fed;
      keeps = λ other. c.in-Ok.ensures.keeps other ∙ c.loop-piece.invariant.keeps other;
      stays = c.in-Ok.ensures.stays ∙ c.loop-piece.invariant.stays;
      calm = c.loop-piece.invariant.calm ∙ stands (faults c.loop-piece.files) (faults c.next_piece.new.files) c.in-Ok.ensures.later c.in-Ok.ensures.told;
    }
