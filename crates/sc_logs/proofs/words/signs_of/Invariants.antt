use Rattle.std.proofs.Common.{◌≡◌, map, take}
use Rattle.sc_logs.specs.Texts.{sign_text}
use Rattle.sc_logs.proofs.words.signs_of.Given as goal

-- the bytes before are read
abbrev pub invariant-loop-byte : goal.invariant-loop-byte
invariant-loop-byte l = map sign_text l.signs ≡ take l.byte-index l.word
