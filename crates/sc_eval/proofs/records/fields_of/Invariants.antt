use Rattle.std.proofs.Common.{◌≡◌, ◌++◌}
use Rattle.sc_eval.proofs.records.fields_of.Given as goal

abbrev pub invariant-loop-name : goal.invariant-loop-name
invariant-loop-name l = l.fields ++ l.name-iterator ≡ l.fn.map.entries
