use Rattle.std.proofs.Common.{◌≡◌, ◌++◌, filter, length}
use Rattle.th_sets.specs.Named.{is_of_sets}
use Rattle.th_sets.proofs.named.names_of_sets.Given as goal

abbrev pub invariant-loop-by : goal.invariant-loop-by
invariant-loop-by l = l.found.items ++ filter is_of_sets l.rest ≡ filter is_of_sets l.names

abbrev pub decreases-loop-by : goal.decreases-loop-by
decreases-loop-by l = length l.rest
