use Rattle.std.proofs.Common.{◌≡◌, ◌++◌, length}
use Rattle.sc_terms.specs.Tables.{tree}
use Rattle.th_strings.specs.Known.{row_at}
use Rattle.th_strings.proofs.signs.row.Given as goal

abbrev pub invariant-loop-pattern : goal.invariant-loop-pattern
invariant-loop-pattern l = l.row ++ row_at l.problem l.m l.rest (tree l.problem.nodes l.term) ≡ row_at l.problem l.m l.fn.patterns (tree l.problem.nodes l.term)

abbrev pub decreases-loop-pattern : goal.decreases-loop-pattern
decreases-loop-pattern l = length l.rest
