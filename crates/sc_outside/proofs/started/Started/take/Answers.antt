use Rattle.std.proofs.Common.{◌-◌, drop, length, take}
use Rattle.std.proofs.lemmas.List.{take_rest}
use Rattle.sc_outside.proofs.PieceLaws.{piece_taken}
use Rattle.sc_outside.proofs.started.Started.take.Goals as goal

pub returns-clause-piece : goal.returns-clause-piece
returns-clause-piece c =
    piece_taken c.args.bytes.now (take (length c.args.bytes.now - c.min-from.result) (drop c.min-from.result c.args.bytes.now)) c.in_ok-piece.piece.items c.args.self.now.taken c.min-from.result c.min-count.result c.args.max c.min-from.ensures (take_rest c.args.bytes.now c.min-from.result) c.min-count.ensures c.in_ok-piece.ensures.items c.requires
