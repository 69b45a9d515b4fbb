use Rattle.std.proofs.Common.{◌≡◌, map, take}
use Rattle.sc_lexemes.specs.Shapes.{lexeme_of}
use Rattle.sc_lexemes.proofs.lexemes.lexemes_of.Given as goal

abbrev pub invariant-loop-token : goal.invariant-loop-token
invariant-loop-token l = l.lexemes ≡ map (lexeme_of l.bytes) (take l.token-index l.tokens)
