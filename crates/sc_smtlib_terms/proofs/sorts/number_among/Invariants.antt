use Rattle.std.proofs.Common.{◌≡◌, ◌+◌, ◌≤◌, drop}
use Rattle.sc_smtlib_terms.specs.Sorts.{number_among}
use Rattle.sc_smtlib_terms.proofs.sorts.number_among.Given as goal

abbrev pub invariant-loop-d : goal.invariant-loop-d
invariant-loop-d l = (l.before + number_among l.sort (drop l.d-index l.datatypes) ≡ number_among l.sort l.datatypes) × (l.before ≤ l.d-index)
