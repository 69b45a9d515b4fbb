use Rattle.std.proofs.Common.{take}
use Rattle.sc_languages.specs.Searching.{IsFollowed}
use Rattle.sc_languages.proofs.search.follow.Given as goal

abbrev pub invariant-loop-c : goal.invariant-loop-c
invariant-loop-c l = IsFollowed l.items (take l.c-index l.symbols) l.words l.marks l.word l.fn.visited l.visited
