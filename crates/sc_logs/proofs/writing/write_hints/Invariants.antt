use Rattle.std.proofs.Common.{◌≡◌, ◌++◌, map, take, string_bytes, decimal}
use Rattle.sc_logs.specs.Texts.{spaced}
use Rattle.sc_logs.proofs.writing.write_hints.Given as goal

abbrev pub invariant-loop-hint : goal.invariant-loop-hint
invariant-loop-hint l = string_bytes l.text ≡ string_bytes l.initial.text ++ spaced (map decimal (take l.hint-index l.hints))
