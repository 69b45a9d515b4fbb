use Rattle.std.proofs.Common.{take}
use Rattle.sc_languages.specs.Searching.{AreEntries}
use Rattle.sc_languages.proofs.search.find.Given as goal

abbrev pub invariant-loop-w : goal.invariant-loop-w
invariant-loop-w l = AreEntries l.items l.symbols l.words (take l.w-index l.words) l.visited
