use Rattle.std.proofs.Common.{◌≡◌, ◌++◌, map, take, string_bytes}
use Rattle.sc_logs.specs.Texts.{sign_text}
use Rattle.sc_logs.proofs.writing.write_signs.Given as goal

abbrev pub invariant-loop-sign : goal.invariant-loop-sign
invariant-loop-sign l = string_bytes l.text ≡ string_bytes l.initial.text ++ map sign_text (take l.sign-index l.signs)
