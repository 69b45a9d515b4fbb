use Rattle.std.proofs.Common.{sym, subst}
use Rattle.sc_languages.specs.Searching.{Covers}
use Rattle.sc_languages.proofs.SymbolLaws.{covers_all, covers_with}
use Rattle.sc_languages.proofs.symbols.symbols.Goals as goal

pub returns-in_default : goal.returns-in_default
returns-in_default c = covers_all c.args.items.now c.args.words.now _ (rw c.as_slice.ensures.value at c.in_default.ensures)

pub returns : goal.returns
returns c =
    subst (Covers c.args.items.now c.args.words.now) (sym c.in_ok-insert.ensures.items)
    (covers_with c.args.items.now c.args.words.now _ _ c.in_ok-letters.ensures (rw c.as_slice.ensures.value at c.in-Some.ensures))
