use Rattle.std.proofs.Common.{◌≢◌, ◌<◌, ℕ, true}
use Rattle.sc_graphs.specs.declared.path.Mark.TheVariants.{Left}
use Rattle.sc_graphs.specs.Paths.{mark_in}
use Rattle.sc_graphs.proofs.cycles.first_cyclic.Given as goal

abbrev pub invariant-loop-node : goal.invariant-loop-node
invariant-loop-node l = (k : ℕ) → k < l.node → mark_in l.marks k ≢ Left true
