use Rattle.std.proofs.Common.{◌≡◌, None, replicate}
use Rattle.sc_propagation.proofs.watches.no_pairs.Given as goal

abbrev pub invariant-loop-clause : goal.invariant-loop-clause
invariant-loop-clause l = l.pairs.items ≡ replicate l._clause None
