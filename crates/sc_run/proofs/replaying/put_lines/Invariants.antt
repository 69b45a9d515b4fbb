use Rattle.std.proofs.Common.{◌≡◌, take}
use Rattle.sc_outside.specs.Writes.{all_appended}
use Rattle.sc_run.proofs.replaying.put_lines.Given as goal

abbrev pub invariant-loop-line : goal.invariant-loop-line
invariant-loop-line g l = record {
  text : g.O.Sink.written l.out ≡ all_appended (g.O.Sink.written l.initial.out) (take l.line-index l.lines);
  calm : g.O.Sink.faults l.initial.out ≡ g.O.Sink.faults l.out;
}
