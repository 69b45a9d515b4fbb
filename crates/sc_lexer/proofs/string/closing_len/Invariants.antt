use Rattle.std.proofs.Common.{length, ◌-◌}
use Rattle.sc_lexer.proofs.StringLaws.{Passes}
use Rattle.sc_lexer.proofs.string.closing_len.Given as goal

abbrev pub invariant-loop-at : goal.invariant-loop-at
invariant-loop-at l = Passes l.bytes l.at

abbrev pub decreases-loop-at : goal.decreases-loop-at
decreases-loop-at l = length l.bytes - l.at
