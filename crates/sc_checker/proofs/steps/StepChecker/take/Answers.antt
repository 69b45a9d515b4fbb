use Rattle.std.proofs.lemmas.Result.{on_ok_weaker}
use Rattle.sc_checker.proofs.ProgressLaws.{none_is, stays_at_fault, instance_step, learned_step, learned_taken, learned_checked}
use Rattle.sc_checker.proofs.steps.StepChecker.take.Goals as goal

pub take_instance-requires-clause-going : goal.take_instance-requires-clause-going
take_instance-requires-clause-going g c = none_is c.args.self.now.fault c.if-is_at_fault.ensures

pub take_lits-requires-clause-room : goal.take_lits-requires-clause-room
take_lits-requires-clause-room g c = c.requires.room (none_is c.args.self.now.fault c.if-is_at_fault.ensures)

pub returns-then-is_at_fault-clause-taken : goal.returns-then-is_at_fault-clause-taken
returns-then-is_at_fault-clause-taken g c =
    stays_at_fault (g.T.Theory.has_instance c.args.rules.now c.args.problem.now) (g.T.Theory.clause_of c.args.rules.now c.args.problem.now) c.args.self.now c.args.step.now c.if-is_at_fault.ensures

pub returns-in-Instance-clause-taken : goal.returns-in-Instance-clause-taken
returns-in-Instance-clause-taken g c =
    on_ok_weaker c.take_instance.result (λ e.
    instance_step (g.T.Theory.has_instance c.args.rules.now c.args.problem.now) (g.T.Theory.clause_of c.args.rules.now c.args.problem.now) c.args.self.now _ c.args.step.now c.in-Instance.instance
    (none_is c.args.self.now.fault c.if-is_at_fault.ensures) c.in-Instance.is e) c.take_instance.ensures.taken

pub returns-in-Learned-clause-taken : goal.returns-in-Learned-clause-taken
returns-in-Learned-clause-taken g c =
    on_ok_weaker c.take_lits.result (λ e.
    learned_step (g.T.Theory.has_instance c.args.rules.now c.args.problem.now) (g.T.Theory.clause_of c.args.rules.now c.args.problem.now) c.args.self.now _ c.args.step.now c.in-Learned.learned
    (none_is c.args.self.now.fault c.if-is_at_fault.ensures) c.in-Learned.is
    (learned_taken c.args.self.now _ _ _ c.in-Learned.learned c.as_slice.ensures c.as_slice-in-Learned.ensures e)) c.take_lits.ensures

pub returns-in-Learned-clause-checked : goal.returns-in-Learned-clause-checked
returns-in-Learned-clause-checked g c =
    on_ok_weaker c.take_lits.result (λ e.
    learned_checked c.args.problem.now c.args.self.now _ c.in-Learned.learned c.requires (none_is c.args.self.now.fault c.if-is_at_fault.ensures)
    (learned_taken c.args.self.now _ _ _ c.in-Learned.learned c.as_slice.ensures c.as_slice-in-Learned.ensures e)) c.take_lits.ensures
