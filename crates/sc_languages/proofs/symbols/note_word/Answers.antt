use Rattle.sc_languages.proofs.SymbolLaws.{word_next, kept_on}
use Rattle.sc_languages.proofs.symbols.note_word.Goals as goal

pub loop-c-preserved : goal.loop-c-preserved
loop-c-preserved c = record {
  kept = kept_on _ _ _ _ c.loop-c.invariant.kept c.in_ok-note_letter.ensures;
  noted = word_next _ c.loop-c.c-index c.c-item.result _ _ c.loop-c-test.true c.c-item.is c.loop-c.invariant.noted c.in_ok-note_letter.ensures;
}
