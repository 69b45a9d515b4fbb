use Rattle.std.proofs.Common.{◌+◌, if◌then◌else◌}
use Rattle.sc_reduction.specs.Marked.{asked_by}
use Rattle.sc_reduction.specs.Passes.{IsPass, marked}
use Rattle.sc_reduction.proofs.reducing.reduce.Given as goal

abbrev pub invariant-loop-pass : goal.invariant-loop-pass
invariant-loop-pass l = IsPass (asked_by l.task) l.pass

abbrev pub decreases-loop-pass : goal.decreases-loop-pass
decreases-loop-pass l = (if l.pass.dropped then 1 else 0) + marked l.pass.kept.items
