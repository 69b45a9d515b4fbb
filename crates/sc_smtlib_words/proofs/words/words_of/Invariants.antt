use Rattle.std.proofs.Common.{◌≡◌, ◌++◌, [], drop}
use Rattle.sc_smtlib_words.specs.Words.{between, words_from}
use Rattle.sc_smtlib_words.proofs.words.words_of.Given as goal

-- the words so far and those to come are those of the line
abbrev pub invariant-loop-b : goal.invariant-loop-b
invariant-loop-b l = l.words.items ++ words_from l.mode l.now.items (drop l.b-index l.text) ≡ words_from between [] l.text
