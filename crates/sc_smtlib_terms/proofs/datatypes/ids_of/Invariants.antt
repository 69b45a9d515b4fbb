use Rattle.std.proofs.Common.{◌≡◌, ◌++◌, drop, map}
use Rattle.sc_smtlib_terms.specs.Sorts.{id_text}
use Rattle.sc_smtlib_terms.proofs.datatypes.ids_of.Given as goal

abbrev pub invariant-loop-uid : goal.invariant-loop-uid
invariant-loop-uid l = l.ids ++ map id_text (drop l.uid-index l.choices) ≡ map id_text l.choices
