use Rattle.sc_languages.proofs.SymbolLaws.{items_next, kept_on}
use Rattle.sc_languages.proofs.symbols.note_items.Goals as goal

pub loop-item-preserved : goal.loop-item-preserved
loop-item-preserved c = record {
  kept = kept_on _ _ _ _ c.loop-item.invariant.kept c.in_ok-note_letter.ensures;
  noted = items_next _ _ _ _ _ c.loop-item-test.true c.loop-item.invariant.noted c.in_ok-note_letter.ensures;
}
