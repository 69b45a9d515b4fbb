use Rattle.std.proofs.Common.{◌≡◌, drop}
use Rattle.sc_typing.specs.Names.{fault_from, name_fault}
use Rattle.sc_typing.proofs.names.check_names.Given as goal

abbrev pub invariant-loop-i : goal.invariant-loop-i
invariant-loop-i l = fault_from l.schema l.i (drop l.i l.policies) ≡ name_fault l.schema l.policies
