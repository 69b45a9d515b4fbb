use Rattle.std.proofs.Common.{◌≤◌, length}
use Rattle.sc_falsified.proofs.chains.highest.Given as goal

abbrev pub invariant-loop-label : goal.invariant-loop-label
invariant-loop-label l = length l.labels ≤ l.most
