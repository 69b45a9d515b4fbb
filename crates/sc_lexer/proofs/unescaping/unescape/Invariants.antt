use Rattle.std.proofs.Common.{◌≡◌, take, map, string_bytes}
use Rattle.std.specs.Str.{encode_utf8_all}
use Rattle.sc_lexer.specs.Pieces.{piece_char}
use Rattle.sc_lexer.proofs.unescaping.unescape.Given as goal

abbrev pub invariant-loop-piece : goal.invariant-loop-piece
invariant-loop-piece l = string_bytes l.string ≡ encode_utf8_all (map piece_char (take l.piece-index l.piece-items))
