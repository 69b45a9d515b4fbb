use Rattle.std.proofs.Common.{◌≡◌, false, length, take}
use Rattle.std.specs.List.{AllByRecursion}
use Rattle.sc_clauses.specs.Assignments.{falsifies}
use Rattle.sc_footprint.specs.Definitions.{kept}
use Rattle.th_defs.specs.Items.{item_clauses}
use Rattle.th_defs.proofs.clauses.falsified_number.Given as goal

abbrev pub invariant-loop-clause : goal.invariant-loop-clause
invariant-loop-clause l = record {
  counted : l.number ≡ length (kept (take l.clause (item_clauses l.problem l.item)));
  quiet : AllByRecursion (λ c. falsifies l.m c ≡ false) (kept (take l.clause (item_clauses l.problem l.item)));
}
