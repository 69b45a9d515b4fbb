use Rattle.sc_logs.specs.Texts.{word_text}
use Rattle.sc_footprint.specs.Written.{is_word}
use Rattle.sc_logs.proofs.WordLaws.{next_none}
use Rattle.sc_logs.proofs.words.words_of.Goals as goal

pub returns-in_default-2 : goal.returns-in_default-2
returns-in_default-2 c =
    next_none is_word word_text c.args.words.now c.loop-word.words c.next_word.new.self c.in-Some.word.now c.loop-word.read c.loop-word.invariant.text c.in-Some.ensures (rw c.in_default-2.is at c.in_ok-next.ensures)
