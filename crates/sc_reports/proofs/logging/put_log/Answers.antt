use Rattle.std.proofs.Common.{List, subst, ap, Err}
use Rattle.sc_checker.specs.Texts.{first_line}
use Rattle.sc_clauses.specs.declared.step.Step.{Step}
use Rattle.sc_outside.proofs.CountLaws.{rose_before}
use Rattle.sc_outside.specs.Counts.{Rose}
use Rattle.sc_reports.proofs.LineLaws.{puts-first, puts-none}
use Rattle.sc_reports.specs.Lines.{PutsLines}
use Rattle.sc_reports.specs.Logs.{step_lines}
use Rattle.sc_reports.proofs.logging.put_log.Goals as goal

pub returns-in-Ok-clause-puts : goal.returns-in-Ok-clause-puts
returns-in-Ok-clause-puts g c =
    let faults = g.O.Sink.faults in
    let written = g.O.Sink.written in
    let risen = Rose (faults c.write.new.self) (faults c.put_steps.new.out) in
    let rose = Rose (faults c.args.out.now) (faults c.put_steps.new.out) in
    puts-first first_line (step_lines c.args.log.now) (written c.args.out.now) (written c.write.new.self) (written c.put_steps.new.out) risen rose
    (rose_before (faults c.args.out.now) (faults c.write.new.self) (faults c.put_steps.new.out) c.in-Ok.ensures.counts.later) c.in-Ok.ensures.text c.put_steps.result
    (subst (λ (steps : List Step). PutsLines (step_lines steps) (written c.write.new.self) (written c.put_steps.new.out) risen c.put_steps.result) c.steps.ensures.value c.put_steps.ensures.puts)

pub returns-in-Err-clause-puts : goal.returns-in-Err-clause-puts
returns-in-Err-clause-puts g c =
    puts-none first_line (step_lines c.args.log.now) (g.O.Sink.written c.args.out.now) (g.O.Sink.written c.write.new.self) (Rose (g.O.Sink.faults c.args.out.now) (g.O.Sink.faults c.write.new.self))
    c.in-Err.fault c.in-Err.ensures.text (λ e. c.in-Err.ensures.counts.rose (ap Err e))
