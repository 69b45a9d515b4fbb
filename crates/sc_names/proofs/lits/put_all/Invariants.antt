use Rattle.std.proofs.Common.{◌≡◌, ◌++◌, take}
use Rattle.sc_names.proofs.lits.put_all.Given as goal

abbrev pub invariant-loop-uid : goal.invariant-loop-uid
invariant-loop-uid l = l.list.items ≡ l.fn.list.items ++ take l.uid-index l.uids
