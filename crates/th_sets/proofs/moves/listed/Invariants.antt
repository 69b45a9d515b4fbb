use Rattle.std.proofs.Common.{◌≡◌, ◌++◌}
use Rattle.th_sets.proofs.moves.listed.Given as goal

abbrev pub invariant-loop-n : goal.invariant-loop-n
invariant-loop-n l = l.list.items ++ l.n-iterator ≡ l.numbers.keys
