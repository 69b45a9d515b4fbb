use Rattle.std.proofs.Common.{rules, arith}
use Rattle.sc_reports.proofs.LogReadingLaws.{piece-far}
use Rattle.sc_reports.specs.LogReading.{piece_long, piece_unread}
use Rattle.sc_reports.proofs.log_reading.next_piece.Goals as goal

pub returns-then-count-room-clause-fails : goal.returns-then-count-room-clause-fails
returns-then-count-room-clause-fails g c = piece_long (piece-far (g.F.Files.left c.args.files.now) (g.F.Files.left c.more.new.self) c.in-Ok.piece.items c.args.room.now c.in-Ok.ensures.takes.front (omega arith))

pub returns-in-Err-Failed-clause-fails : goal.returns-in-Err-Failed-clause-fails
returns-in-Err-Failed-clause-fails g c = piece_unread (search rules, search rules)
