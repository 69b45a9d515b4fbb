use Rattle.std.proofs.Common.{ℕ, take}
use Rattle.sc_lists.specs.Members.{Has}
use Rattle.sc_languages.specs.declared.item.Item.TheVariants.{Char}
use Rattle.sc_languages.specs.Searching.{AreAmong}
use Rattle.sc_languages.proofs.symbols.note_items.Given as goal

abbrev pub invariant-loop-item : goal.invariant-loop-item
invariant-loop-item l = record {
  kept : AreAmong l.fn.letters.items l.letters.items;
  noted : (c : ℕ) → Has (take l.item-index l.items) (Char c) → Has l.letters.items c;
}
