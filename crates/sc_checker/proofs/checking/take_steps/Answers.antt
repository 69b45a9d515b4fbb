use Rattle.std.proofs.Common.{arith}
use Rattle.sc_checker.proofs.ProgressLaws.{steps_more, steps_over}
use Rattle.sc_checker.proofs.checking.take_steps.Goals as goal

pub loop-step-preserved : goal.loop-step-preserved
loop-step-preserved g c = record {
  checked = c.in_ok-take.ensures.checked;
  rest = λ end later. c.loop-step.invariant.rest end
      (steps_more (g.T.Theory.has_instance c.args.rules.now c.args.problem.now) (g.T.Theory.clause_of c.args.rules.now c.args.problem.now) c.loop-step.checker _ end c.args.steps.now c.loop-step.step-index c.step-item.result (omega arith) c.step-item.is
      c.in_ok-take.ensures.taken later);
}

pub returns-clause-taken : goal.returns-clause-taken
returns-clause-taken g c =
    c.loop-step.invariant.rest c.loop-step.checker
    (steps_over (g.T.Theory.has_instance c.args.rules.now c.args.problem.now) (g.T.Theory.clause_of c.args.rules.now c.args.problem.now) c.loop-step.checker c.args.steps.now c.loop-step.step-index (omega arith))
