use Rattle.std.proofs.Common.{refl, rules, arith}
use Rattle.sc_outside.specs.Counts.{Rose}
use Rattle.sc_reports.proofs.LineLaws.{first-none, line-more, lines-all, puts-stop}
use Rattle.sc_run.proofs.replaying.put_lines.Goals as goal

pub loop-line-init : goal.loop-line-init
loop-line-init g c = record { text = first-none (g.O.Sink.written c.args.out.now) c.args.lines.now; calm = refl }

pub loop-line-preserved : goal.loop-line-preserved
loop-line-preserved g c = record {
  text = line-more c.args.lines.now c.loop-line.line-index c.line-item.result (g.O.Sink.written c.args.out.now) (g.O.Sink.written c.loop-line.out) (g.O.Sink.written c.write.new.self) (omega arith) c.loop-line.invariant.text (search rules);
  calm = search rules;
}

pub returns-clause-puts : goal.returns-clause-puts
returns-clause-puts g c = lines-all c.args.lines.now c.loop-line.line-index (g.O.Sink.written c.args.out.now) (g.O.Sink.written c.loop-line.out) (omega arith) c.loop-line.invariant.text

pub returns-in-Err-clause-puts : goal.returns-in-Err-clause-puts
returns-in-Err-clause-puts g c =
    puts-stop c.args.lines.now c.loop-line.line-index c.line-item.result (g.O.Sink.written c.args.out.now) (g.O.Sink.written c.loop-line.out) (g.O.Sink.written c.write.new.self) (Rose (g.O.Sink.faults c.args.out.now) (g.O.Sink.faults c.write.new.self))
    (omega arith) c.loop-line.invariant.text c.in-Err.fault (search rules) (search rules)
