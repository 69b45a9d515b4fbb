use Rattle.std.proofs.Common.{ℕ, List, take}
use Rattle.sc_lists.specs.Members.{Has}
use Rattle.sc_languages.specs.declared.item.Item.TheVariants.{Char}
use Rattle.sc_languages.proofs.symbols.letters_of.Given as goal

abbrev pub invariant-loop-word : goal.invariant-loop-word
invariant-loop-word l = record {
  of_items : (c : ℕ) → Has l.items (Char c) → Has l.letters.items c;
  of_words : (w : List ℕ) → Has (take l.word-index l.words) w → (c : ℕ) → Has w c → Has l.letters.items c;
}
