use Rattle.std.proofs.Common.{◌≡◌, ◌∙◌, ◌+◌, Ok, Err, sym, ap, subst}
use Rattle.std.proofs.lemmas.Result.{on_ok_weaker}
use Rattle.sc_clauses.specs.Clauses.{Clause}
use Rattle.sc_footprint.specs.Theories.{IsClauseOf}
use Rattle.sc_footprint.specs.Truths.{IsTrueIn}
use Rattle.sc_checker.specs.Progress.{Progress, IsChecked, counted, grown}
use Rattle.sc_checker.proofs.ProgressLaws.{instance_checked, failed_taken}
use Rattle.sc_checker.proofs.steps.StepChecker.take_instance.Goals as goal

pub returns-in-Ok-clause-taken : goal.returns-in-Ok-clause-taken
returns-in-Ok-clause-taken g c =
    on_ok_weaker c.add_lits.result (λ e. record {
      outcome = Ok c.in-Ok.clause;
      is_so = (c.in-Ok.ensures.has, c.in-Ok.ensures.clause);
      leaves = e ∙ (ap (λ (d : Clause). grown d c.count.new.self) c.as_slice.ensures ∙ ap (grown c.in-Ok.clause) c.count.ensures);
    }) c.add_lits.ensures

pub returns-in-Ok-clause-checked : goal.returns-in-Ok-clause-checked
returns-in-Ok-clause-checked g c =
    let p = c.args.problem.now in
    let lawful : IsClauseOf p c.in-Ok.clause =
    subst (IsClauseOf p) (sym c.in-Ok.ensures.clause) (g.met.T.Theory.lawful c.args.rules.now p c.args.instance.now c.problem_laws.ensures.terms c.laws.ensures c.in-Ok.ensures.has) in
    let checked : IsChecked p (grown c.in-Ok.clause (counted c.args.self.now)) =
    instance_checked p c.args.self.now c.in-Ok.clause lawful
    (λ w formed. subst (IsTrueIn p w) (sym c.in-Ok.ensures.clause) (g.met.T.Theory.sound c.args.rules.now p c.args.instance.now w c.problem_laws.ensures.terms c.laws.ensures c.in-Ok.ensures.has formed))
    c.requires.checked c.requires.going in
    on_ok_weaker c.add_lits.result (λ e. subst (IsChecked p) (sym (e ∙ ap (λ (d : Clause). grown d c.count.new.self) c.as_slice.ensures ∙ ap (grown c.in-Ok.clause) c.count.ensures)) checked) c.add_lits.ensures

pub returns-in-Err-Told-clause-taken : goal.returns-in-Err-Told-clause-taken
returns-in-Err-Told-clause-taken g c =
    let reason = c.in-Err-Told.reason in
    let number : c.fail.inside.steps ≡ c.args.self.now.steps + 1 = ap (λ (x : Progress). x.steps) (c.fail.view_is ∙ c.count.ensures) in
    record {
      outcome = Err reason;
      is_so = rw c.in-Err-Told.field-0-is at c.in-Err-Told.ensures.none;
      leaves = failed_taken c.args.self.now c.count.new.self _ c.fail.inside.steps _ reason c.fail-in-Err-Told.ensures number c.in-Err-Told.reason-is c.count.ensures;
    }
