use Rattle.std.proofs.Common.{◌≡◌, take}
use Rattle.sc_languages.specs.Searching.{IsAt, IsWalk}
use Rattle.sc_languages.proofs.search.walk.Given as goal

abbrev pub invariant-loop-c : goal.invariant-loop-c
invariant-loop-c l = record {
  at : IsAt l.items l.marks.items l.word.items;
  read : l.word.items ≡ take l.c-index l.whole;
  so_far : IsWalk l.items l.symbols l.words l.fn.visited l.visited l.whole l.c-index;
}
