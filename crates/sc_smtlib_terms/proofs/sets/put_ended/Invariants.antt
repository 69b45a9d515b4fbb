use Rattle.std.proofs.Common.{◌≡◌, ◌++◌, drop}
use Rattle.std.specs.List.{flat_map}
use Rattle.sc_smtlib_terms.specs.Sets.{ended}
use Rattle.sc_smtlib_terms.proofs.sets.put_ended.Given as goal

abbrev pub invariant-loop-a : goal.invariant-loop-a
invariant-loop-a l = l.out.items ++ flat_map ended (drop l.a-index l.members) ≡ l.fn.out.items ++ flat_map ended l.members
