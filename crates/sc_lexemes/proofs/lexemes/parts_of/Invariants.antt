use Rattle.std.proofs.Common.{◌≡◌, map, take}
use Rattle.sc_lexemes.specs.Shapes.{part_of}
use Rattle.sc_lexemes.proofs.lexemes.parts_of.Given as goal

abbrev pub invariant-loop-piece : goal.invariant-loop-piece
invariant-loop-piece l = l.parts ≡ map part_of (take l.piece-index l.pieces)
