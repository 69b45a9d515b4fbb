use Rattle.std.proofs.Common.{◌≡◌, drop}
use Rattle.sc_term_tests.specs.Tables.{told_either}
use Rattle.sc_term_tests.proofs.tables.told_either.Given as goal

abbrev pub invariant-loop-row : goal.invariant-loop-row
invariant-loop-row l = told_either (drop l.row-index l.rows) l.one l.other ≡ told_either l.rows l.one l.other
