use Rattle.std.proofs.Common.{◌∙◌, sym, refl}
use Rattle.sc_checker.specs.declared.checking.Verdict.TheVariants.{Refuted, Rejected}
use Rattle.sc_checker.proofs.VerdictLaws.{verdict_found}
use Rattle.sc_checker.proofs.ProgressLaws.{refuted_sound}
use Rattle.sc_checker.proofs.checking.check.Goals as goal

pub returns-clause-exact : goal.returns-clause-exact
returns-clause-exact g c =
    (verdict_found (g.T.Theory.has_instance c.args.rules.now c.args.problem.now) (g.T.Theory.clause_of c.args.rules.now c.args.problem.now) c.args.problem.now c.args.log.now c.steps.result.now _ _ c.verdict.result
    c.in_ok-checker.ensures.start c.steps.ensures.value c.in_ok-take_steps.ensures.taken c.verdict.ensures c.verdict.result).0 refl

pub returns-clause-accepted : goal.returns-clause-accepted
returns-clause-accepted g c =
    verdict_found (g.T.Theory.has_instance c.args.rules.now c.args.problem.now) (g.T.Theory.clause_of c.args.rules.now c.args.problem.now) c.args.problem.now c.args.log.now c.steps.result.now _ _ c.verdict.result
    c.in_ok-checker.ensures.start c.steps.ensures.value c.in_ok-take_steps.ensures.taken c.verdict.ensures Refuted

pub returns-clause-rejected : goal.returns-clause-rejected
returns-clause-rejected g c number reason =
    verdict_found (g.T.Theory.has_instance c.args.rules.now c.args.problem.now) (g.T.Theory.clause_of c.args.rules.now c.args.problem.now) c.args.problem.now c.args.log.now c.steps.result.now _ _ c.verdict.result
    c.in_ok-checker.ensures.start c.steps.ensures.value c.in_ok-take_steps.ensures.taken c.verdict.ensures (Rejected number reason)

pub returns-clause-sound : goal.returns-clause-sound
returns-clause-sound g c = λ e. refuted_sound c.args.problem.now _ c.in_ok-take_steps.ensures.checked (sym c.verdict.ensures ∙ e)
