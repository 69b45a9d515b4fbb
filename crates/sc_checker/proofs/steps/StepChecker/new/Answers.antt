use Rattle.std.proofs.Common.{◌∙◌}
use Rattle.sc_checker.proofs.ProgressLaws.{started}
use Rattle.sc_checker.proofs.steps.StepChecker.new.Goals as goal

pub returns-clause-checked : goal.returns-clause-checked
returns-clause-checked c =
    started c.args.problem.now _ _ (c.in_ok-known.ensures.0 ∙ c.atom_count.ensures) (c.in_ok-clauses.ensures ∙ c.in_ok-defined.ensures)
    (λ d is. c.defining_laws.ensures.lawful c.args.problem.now d c.laws.ensures is) (λ w d s h. c.defining_laws.ensures.holds c.args.problem.now w d c.laws.ensures s h)
