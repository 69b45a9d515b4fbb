use Rattle.sc_languages.proofs.SymbolLaws.{within_next}
use Rattle.sc_languages.proofs.symbols.other_within.Goals as goal

pub loop-number-preserved : goal.loop-number-preserved
loop-number-preserved c = within_next _ _ _ c.loop-number.invariant c.in_default.ensures
