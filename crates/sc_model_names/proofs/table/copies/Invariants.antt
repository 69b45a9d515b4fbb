use Rattle.std.proofs.Common.{◌≡◌, map, take, string_bytes}
use Rattle.std.specs.Str.{chars}
use Rattle.sc_model_names.proofs.table.copies.Given as goal

abbrev pub invariant-loop-string : goal.invariant-loop-string
invariant-loop-string l = map chars l.texts ≡ map (λ s. chars (string_bytes s)) (take l.string-index l.strings)
