use Rattle.std.proofs.Common.{◌≡◌, ◌≤◌, ◌+◌, ◌++◌, length}
use Rattle.sc_logs.specs.Readings.{AreWritable}
use Rattle.sc_logs.specs.Texts.{steps_text}
use Rattle.sc_logs.proofs.reading.read_steps.Given as goal

-- the steps are those of the lines before the rest
abbrev pub invariant-loop-rest : goal.invariant-loop-rest
invariant-loop-rest l = record {
  fit : AreWritable l.steps;
  text : steps_text l.steps ++ l.rest ≡ l.bytes;
  number : l.number ≡ length l.steps;
  room : l.number + length l.rest ≤ length l.bytes;
}

abbrev pub decreases-loop-rest : goal.decreases-loop-rest
decreases-loop-rest l = length l.rest
