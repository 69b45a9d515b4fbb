use Rattle.std.proofs.Common.{◌≡◌, map, take, string_bytes}
use Rattle.std.specs.Str.{chars}
use Rattle.sc_languages.proofs.strings.texts_of.Given as goal

abbrev pub invariant-loop-word : goal.invariant-loop-word
invariant-loop-word l = map (λ s. chars (string_bytes s)) l.texts.items ≡ take l.word-index l.words
