use Rattle.std.proofs.Common.{ℕ, take}
use Rattle.sc_lists.specs.Members.{Has}
use Rattle.sc_languages.specs.Searching.{AreAmong}
use Rattle.sc_languages.proofs.symbols.note_word.Given as goal

abbrev pub invariant-loop-c : goal.invariant-loop-c
invariant-loop-c l = record {
  kept : AreAmong l.fn.letters.items l.letters.items;
  noted : (c : ℕ) → Has (take l.c-index l.word) c → Has l.letters.items c;
}
