use Rattle.std.proofs.Common.{◌<◌, ◌≤◌, length}
use Rattle.sc_row_tests.proofs.words.number_of.Given as goal

abbrev pub invariant-loop-word : goal.invariant-loop-word
invariant-loop-word l = (l.last.0 < length l.terms) × (l.last.1 < length l.terms) × (l.last.2 < length l.terms) × (length l.fn.terms ≤ length l.terms)
