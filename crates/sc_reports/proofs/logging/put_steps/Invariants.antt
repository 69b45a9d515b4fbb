use Rattle.std.proofs.Common.{◌≡◌, take}
use Rattle.sc_outside.specs.Writes.{all_appended}
use Rattle.sc_reports.specs.Logs.{step_lines}
use Rattle.sc_reports.proofs.logging.put_steps.Given as goal

abbrev pub invariant-loop-step : goal.invariant-loop-step
invariant-loop-step g l = record {
  text : g.O.Sink.written l.out ≡ all_appended (g.O.Sink.written l.initial.out) (take l.step-index (step_lines l.steps));
  calm : g.O.Sink.faults l.initial.out ≡ g.O.Sink.faults l.out;
}
