use Rattle.std.proofs.Common.{◌≡◌, sym, ap, subst}
use Rattle.std.proofs.lemmas.Result.{on_ok_weaker}
use Rattle.sc_checker.specs.Progress.{IsChecked}
use Rattle.sc_checker.specs.Streams.{Checking}
use Rattle.sc_checker.proofs.ProgressLaws.{failed_checked}
use Rattle.sc_checker.proofs.StreamLaws.{line_taken}
use Rattle.sc_checker.proofs.line_checker.LineChecker.take.Goals as goal

pub returns-then-self-clause-taken : goal.returns-then-self-clause-taken
returns-then-self-clause-taken g c =
    on_ok_weaker c.take_line.result (λ e.
    line_taken (g.T.Theory.has_instance c.args.rules.now c.args.problem.now) (g.T.Theory.clause_of c.args.rules.now c.args.problem.now) c.self.inside.begun c.self.inside.line.items c.args.line.now c.args.self.now c.self.inside.steps c.take_line.new.steps
    c.self.view_is c.if-self.true c.requires.nothing e) c.take_line.ensures.taken

pub returns-clause-checked : goal.returns-clause-checked
returns-clause-checked g c =
    let here : c.self.inside.steps ≡ c.args.self.now.progress = ap (λ (k : Checking). k.progress) c.self.view_is in
    subst (IsChecked c.args.problem.now) (sym c.fail.ensures)
    (failed_checked c.args.problem.now c.self.inside.steps _ _ (subst (IsChecked c.args.problem.now) (sym here) c.requires.checked))
