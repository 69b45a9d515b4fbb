use Rattle.sc_languages.proofs.SymbolLaws.{words_next, letters_all}
use Rattle.sc_languages.proofs.symbols.letters_of.Goals as goal

pub loop-word-preserved : goal.loop-word-preserved
loop-word-preserved c = record {
  of_items = λ d h. c.in_ok-note_word.ensures.kept d (c.loop-word.invariant.of_items d h);
  of_words =
      words_next _ c.loop-word.word-index c.word-item.result _ _ c.loop-word-test.true c.word-item.is c.loop-word.invariant.of_words c.in_ok-note_word.ensures.kept
      (rw c.as_slice.ensures at c.in_ok-note_word.ensures.noted);
}

pub returns : goal.returns
returns c = letters_all _ _ _ _ c.loop-word-test.false c.loop-word.invariant.of_items c.loop-word.invariant.of_words
