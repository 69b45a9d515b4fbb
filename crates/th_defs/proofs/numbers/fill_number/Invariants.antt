use Rattle.std.proofs.Common.{◌≡◌, ◌<◌, ◌+◌, length}
use Rattle.th_defs.proofs.WholeLaws.{upto}
use Rattle.th_defs.proofs.numbers.fill_number.Given as goal

abbrev pub invariant-loop-place : goal.invariant-loop-place
invariant-loop-place l = record {
  positive : 0 < l.left;
  counted : l.left + length (upto l.problem l.place) ≡ l.number;
}
