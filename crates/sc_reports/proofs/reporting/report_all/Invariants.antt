use Rattle.std.proofs.Common.{◌≡◌}
use Rattle.sc_reports.specs.Analyses.{asked_in}
use Rattle.sc_reports.specs.Progress.{Progress}
use Rattle.sc_reports.proofs.reporting.report_all.Given as goal

abbrev pub invariant-loop-env : goal.invariant-loop-env
invariant-loop-env g l = record {
  progress : Progress (asked_in l.inputs) l.envs l.env-index (g.O.Sink.written l.initial.out) (g.O.Sink.written l.out) l.tally;
  calm : g.O.Sink.faults l.initial.out ≡ g.O.Sink.faults l.out;
}
