use Rattle.std.proofs.Common.{◌≡◌, false, drop}
use Rattle.sc_languages.specs.Items.{is_dead}
use Rattle.sc_languages.proofs.reading.is_dead.Given as goal

abbrev pub invariant-loop-item : goal.invariant-loop-item
invariant-loop-item l = is_dead l.any l.star (drop l.item-index l.items) l.left ≡ is_dead false false l.fn.items l.fn.marks
