use Rattle.std.proofs.Common.{◌≡◌, false, drop}
use Rattle.sc_languages.specs.Items.{accepts}
use Rattle.sc_languages.proofs.reading.accepts.Given as goal

abbrev pub invariant-loop-item : goal.invariant-loop-item
invariant-loop-item l = accepts l.skipped (drop l.item-index l.items) l.left ≡ accepts false l.fn.items l.fn.marks
