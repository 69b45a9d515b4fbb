use Rattle.std.proofs.Common.{◌≡◌, ◌++◌, true, drop, length}
use Rattle.sc_logs.specs.Texts.{has_no_newline}
use Rattle.sc_checker.proofs.line_checker.lines_end.Given as goal

-- no newline stands behind what is left
abbrev pub invariant-loop-last : goal.invariant-loop-last
invariant-loop-last l = record {
  front : l.bytes ≡ l.left ++ drop (length l.left) l.bytes;
  behind : has_no_newline (drop (length l.left) l.bytes) ≡ true;
}

abbrev pub decreases-loop-last : goal.decreases-loop-last
decreases-loop-last l = length l.left
