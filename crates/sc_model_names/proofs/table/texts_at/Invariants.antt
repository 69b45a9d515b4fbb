use Rattle.std.proofs.Common.{◌≡◌, length}
use Rattle.sc_model_names.specs.Tables.{texts_at}
use Rattle.sc_model_names.proofs.table.texts_at.Given as goal

abbrev pub invariant-loop-entry : goal.invariant-loop-entry
invariant-loop-entry l = texts_at l.rest l.signs ≡ texts_at l.fn.table l.signs

abbrev pub decreases-loop-entry : goal.decreases-loop-entry
decreases-loop-entry l = length l.rest
