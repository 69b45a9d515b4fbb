use Rattle.std.proofs.Common.{◌<◌, ◌≤◌, length}
use Rattle.sc_term_tests.proofs.term_tests.number_of.Given as goal

abbrev pub invariant-loop-letter : goal.invariant-loop-letter
invariant-loop-letter l = (l.last.0 < length l.terms) × (l.last.1 < length l.terms) × (l.last.2 < length l.terms) × (length l.fn.terms ≤ length l.terms)
