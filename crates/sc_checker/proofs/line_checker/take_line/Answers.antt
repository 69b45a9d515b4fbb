use Rattle.std.proofs.Common.{sym, subst}
use Rattle.std.proofs.lemmas.Result.{on_ok_weaker}
use Rattle.sc_clauses.specs.declared.step.Learned as learned
use Rattle.sc_checker.specs.Progress.{IsChecked}
use Rattle.sc_checker.proofs.ProgressLaws.{learned_taken, learned_checked, failed_checked}
use Rattle.sc_checker.proofs.StreamLaws.{learned_line, instance_line, other_line}
use Rattle.sc_checker.proofs.line_checker.take_line.Goals as goal

pub returns-then-branch-clause-taken : goal.returns-then-branch-clause-taken
returns-then-branch-clause-taken g c =
    on_ok_weaker c.take_lits.result (λ e.
    learned_line (g.T.Theory.has_instance c.args.rules.now c.args.problem.now) (g.T.Theory.clause_of c.args.rules.now c.args.problem.now) c.args.line.now c.args.steps.now _ _ c.requires.going (rw c.if-branch.true at c.in_ok-read_learned.ensures)
    (learned_taken c.args.steps.now _ _ _ _ c.as_slice.ensures.value c.as_slice-then-branch.ensures.value e)) c.take_lits.ensures

pub returns-then-branch-clause-checked : goal.returns-then-branch-clause-checked
returns-then-branch-clause-checked g c =
    let l : learned.Learned = record { clause = c.as_slice.result.now; hints = c.as_slice-then-branch.result.now } in
    on_ok_weaker c.take_lits.result (λ e. learned_checked c.args.problem.now c.args.steps.now _ l c.requires.checked c.requires.going e) c.take_lits.ensures

pub returns-in-Some-clause-taken : goal.returns-in-Some-clause-taken
returns-in-Some-clause-taken g c =
    on_ok_weaker c.take_instance.result (λ e.
    instance_line (g.T.Theory.has_instance c.args.rules.now c.args.problem.now) (g.T.Theory.clause_of c.args.rules.now c.args.problem.now) c.args.line.now c.args.steps.now _ c.in-Some.instance c.requires.going (rw c.in-Some.is at c.in_ok-instance.ensures) e) c.take_instance.ensures.taken

pub returns-in-None-clause-taken : goal.returns-in-None-clause-taken
returns-in-None-clause-taken g c =
    other_line (g.T.Theory.has_instance c.args.rules.now c.args.problem.now) (g.T.Theory.clause_of c.args.rules.now c.args.problem.now) c.args.line.now c.args.steps.now _ c.next_number.result
    (rw c.if-branch.false at c.in_ok-read_learned.ensures) (rw c.in-None.is at c.in_ok-instance.ensures) c.next_number.ensures c.fail.ensures

pub returns-in-None-clause-checked : goal.returns-in-None-clause-checked
returns-in-None-clause-checked g c = subst (IsChecked c.args.problem.now) (sym c.fail.ensures) (failed_checked c.args.problem.now c.args.steps.now _ _ c.requires.checked)
