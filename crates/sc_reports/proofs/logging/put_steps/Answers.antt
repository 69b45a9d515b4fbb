use Rattle.std.proofs.Common.{◌∙◌, ℕ, [], ◌∷◌, ◌++◌, subst, sym, ap, arith}
use Rattle.sc_checker.specs.Texts.{step_line}
use Rattle.sc_outside.proofs.CountLaws.{stands}
use Rattle.sc_outside.specs.Counts.{Rose}
use Rattle.sc_outside.specs.Writes.{appended}
use Rattle.sc_reports.proofs.LineLaws.{line-more}
use Rattle.sc_reports.proofs.LogLaws.{step-line-at, step-lines-within, step-stop}
use Rattle.sc_reports.specs.Logs.{step_lines}
use Rattle.sc_reports.proofs.logging.put_steps.Goals as goal

pub returns-in-Err-clause-puts : goal.returns-in-Err-clause-puts
returns-in-Err-clause-puts g c =
    let faults = g.O.Sink.faults in
    let written = g.O.Sink.written in
    let steps = c.args.steps.now in
    let i = c.loop-step.step-index in
    let s = c.step-item.result in
    let risen = Rose (faults c.loop-step.out) (faults c.put_step.new.out) in
    let rose = Rose (faults c.args.out.now) (faults c.put_step.new.out) in
    step-stop (step_lines steps) i (step_line s ++ 10 ∷ []) (step_line s ++ 10 ∷ []) (written c.args.out.now) (written c.loop-step.out) (written c.put_step.new.out) risen rose
    (λ (h : risen). subst (λ (n : ℕ). Rose n (faults c.put_step.new.out)) (sym c.loop-step.invariant.calm) h)
    (step-lines-within steps i (omega arith)) c.loop-step.invariant.text (step-line-at steps i s s (omega arith) c.step-item.is) c.in-Err.fault c.in-Err.ensures.puts

pub loop-step-preserved : goal.loop-step-preserved
loop-step-preserved g c =
    let faults = g.O.Sink.faults in
    let written = g.O.Sink.written in
    let steps = c.args.steps.now in
    let i = c.loop-step.step-index in
    let s = c.step-item.result in
    record {
      text = line-more (step_lines steps) i (step_line s ++ 10 ∷ []) (written c.args.out.now) (written c.loop-step.out) (written c.put_step.new.out) (step-lines-within steps i (omega arith))
          c.loop-step.invariant.text (c.in-Ok.ensures.puts ∙ ap (appended (written c.loop-step.out)) (sym (step-line-at steps i s s (omega arith) c.step-item.is)));
      calm = c.loop-step.invariant.calm ∙ stands (faults c.loop-step.out) (faults c.put_step.new.out) c.in-Ok.ensures.later (λ up. absurd (let failed = c.in-Ok.ensures.told up in cc));
    }
