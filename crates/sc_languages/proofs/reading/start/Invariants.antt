use Rattle.std.proofs.Common.{◌≡◌, ◌++◌, true, drop}
use Rattle.sc_languages.specs.Items.{start}
use Rattle.sc_languages.proofs.reading.start.Given as goal

abbrev pub invariant-loop-item : goal.invariant-loop-item
invariant-loop-item l = l.marks.items ++ start l.first (drop l.item-index l.items) ≡ start true l.items
