use Rattle.std.proofs.Common.{◌≡◌, ◌++◌, drop}
use Rattle.sc_smtlib_terms.specs.Patterns.{spaced}
use Rattle.sc_smtlib_terms.proofs.patterns.put_spaced.Given as goal

abbrev pub invariant-loop-text : goal.invariant-loop-text
invariant-loop-text l = l.out.items ++ spaced (drop l.text-index l.texts) ≡ l.fn.out.items ++ spaced l.texts
