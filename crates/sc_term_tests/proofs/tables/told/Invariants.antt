use Rattle.std.proofs.Common.{◌≡◌, drop}
use Rattle.sc_term_tests.specs.Tables.{told}
use Rattle.sc_term_tests.proofs.tables.told.Given as goal

abbrev pub invariant-loop-row : goal.invariant-loop-row
invariant-loop-row l = told (drop l.row-index l.rows) l.one l.other ≡ told l.rows l.one l.other
