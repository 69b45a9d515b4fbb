use Rattle.std.proofs.Common.{◌≡◌, ◌++◌, length}
use Rattle.sc_smtlib_words.specs.Words.{rest_of, spelled}
use Rattle.sc_smtlib_words.proofs.spelling.spell.Given as goal

-- the words so far and those to come are all
abbrev pub invariant-loop-next : goal.invariant-loop-next
invariant-loop-next l = l.out.items ++ rest_of l.word l.rest ≡ spelled l.fn.words

abbrev pub decreases-loop-next : goal.decreases-loop-next
decreases-loop-next l = length l.rest
