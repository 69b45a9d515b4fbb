use Rattle.std.proofs.Common.{◌≡◌, ◌++◌, map, take, string_bytes}
use Rattle.sc_logs.specs.Texts.{spaced, word_text}
use Rattle.sc_logs.proofs.writing.write_words.Given as goal

abbrev pub invariant-loop-word : goal.invariant-loop-word
invariant-loop-word l = string_bytes l.text ≡ string_bytes l.initial.text ++ spaced (map word_text (take l.word-index l.words))
