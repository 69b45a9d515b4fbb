use Rattle.std.proofs.Common.{◌≡◌, ◌++◌, true, map, length}
use Rattle.std.specs.List.{list_all}
use Rattle.sc_logs.specs.Texts.{word_text}
use Rattle.sc_footprint.specs.Written.{is_word}
use Rattle.sc_logs.proofs.words.words_of.Given as goal

-- the words before are read
abbrev pub invariant-loop-word : goal.invariant-loop-word
invariant-loop-word l = record {
  fit : list_all is_word l.read ≡ true;
  text : l.initial.words ≡ map word_text l.read ++ l.words;
}

abbrev pub decreases-loop-word : goal.decreases-loop-word
decreases-loop-word l = length l.words
