use Rattle.std.proofs.Common.{◌≤◌, ◌-◌, length, take}
use Rattle.sc_lexer.specs.Escapes.{IsSpelled}
use Rattle.sc_lexer.proofs.spelling.bad_escape.Given as goal

abbrev pub invariant-loop-at : goal.invariant-loop-at
invariant-loop-at l = (l.at ≤ length l.text) × IsSpelled l.like (take l.at l.text)

abbrev pub decreases-loop-at : goal.decreases-loop-at
decreases-loop-at l = length l.text - l.at
