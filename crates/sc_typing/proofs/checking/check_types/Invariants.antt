use Rattle.std.proofs.Common.{◌≡◌, drop}
use Rattle.sc_typing.specs.Checking.{refusing, fault_from, type_fault}
use Rattle.sc_typing.proofs.checking.check_types.Given as goal

abbrev pub invariant-loop-i : goal.invariant-loop-i
invariant-loop-i l = refusing (fault_from l.schema l.i (drop l.i l.policies)) ≡ refusing (type_fault l.schema l.policies)
