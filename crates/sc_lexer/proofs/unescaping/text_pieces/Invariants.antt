use Rattle.std.proofs.Common.{◌≡◌, ◌++◌, length}
use Rattle.std.specs.Str.{chars}
use denote.Text.{Utf8}
use denote.Shadow.{shadow}
use Rattle.sc_lexer.specs.Pieces.{pieces_after}
use Rattle.sc_lexer.proofs.unescaping.text_pieces.Given as goal

abbrev pub invariant-loop-piece : goal.invariant-loop-piece
invariant-loop-piece l = shadow (Utf8 l.left) × (l.pieces ++ pieces_after 0 (chars l.left) ≡ pieces_after 0 (chars l.text))

abbrev pub decreases-loop-piece : goal.decreases-loop-piece
decreases-loop-piece l = length (pieces_after 0 (chars l.left))
