use Rattle.std.proofs.Common.{◌≡◌, ◌++◌, false, drop}
use Rattle.sc_languages.specs.Items.{step}
use Rattle.sc_languages.proofs.reading.step.Given as goal

abbrev pub invariant-loop-item : goal.invariant-loop-item
invariant-loop-item l = l.next.items ++ step l.c l.reached l.skipped (drop l.item-index l.items) l.left ≡ step l.c false false l.items l.fn.marks
