use Rattle.std.proofs.Common.{◌≡◌, take}
use Rattle.sc_term_tests.proofs.search_tests.array_of.Given as goal

abbrev pub invariant-loop-clause : goal.invariant-loop-clause
invariant-loop-clause l = l.array ≡ take l.clause-index l.clauses
