use Rattle.std.proofs.Common.{◌≡◌, ◌++◌, map, take, string_bytes}
use Rattle.sc_logs.specs.Texts.{spaced, lit_text}
use Rattle.sc_logs.proofs.writing.write_lits.Given as goal

abbrev pub invariant-loop-lit : goal.invariant-loop-lit
invariant-loop-lit l = string_bytes l.text ≡ string_bytes l.initial.text ++ spaced (map lit_text (take l.lit-index l.lits))
