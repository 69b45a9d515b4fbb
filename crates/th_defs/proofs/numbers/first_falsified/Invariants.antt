use Rattle.std.proofs.Common.{◌≡◌, false, length}
use Rattle.std.specs.List.{AllByRecursion}
use Rattle.sc_clauses.specs.Assignments.{falsifies}
use Rattle.th_defs.proofs.WholeLaws.{upto}
use Rattle.th_defs.proofs.numbers.first_falsified.Given as goal

abbrev pub invariant-loop-place : goal.invariant-loop-place
invariant-loop-place l = record {
  counted : l.before ≡ length (upto l.problem l.place);
  quiet : AllByRecursion (λ c. falsifies l.m c ≡ false) (upto l.problem l.place);
}
