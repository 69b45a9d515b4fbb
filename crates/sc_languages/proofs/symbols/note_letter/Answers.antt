use Rattle.sc_languages.proofs.SymbolLaws.{noted_push}
use Rattle.sc_languages.proofs.symbols.note_letter.Goals as goal

pub returns : goal.returns
returns c = noted_push _ _ _ _ c.in-Char.is c.in_ok-push.ensures.items
