use Rattle.std.proofs.Common.{sym, subst}
use Rattle.sc_reports.proofs.AnalysisLaws.{has-room, refuted-holds}
use Rattle.sc_reports.proofs.ClaimLaws.{verdict-claims}
use Rattle.sc_reports.specs.Analyses.{asked_of}
use Rattle.sc_reports.specs.Claims.{Answer, Claims}
use Rattle.sc_reports.proofs.claims.check_problem.Goals as goal

pub returns-in-Ok-clause-claims : goal.returns-in-Ok-clause-claims
returns-in-Ok-clause-claims g c =
    let content = g.F.Files.content c.args.files.now c.args.name.now in
    let q = asked_of c.args.schema.now c.args.query.now 0 in
    let env = c.args.env.now in
    let p = c.args.problem.now in
    subst (λ (a : Answer). Claims content q env a) (sym c.answer_of.ensures)
    (verdict-claims q env p content c.in-Ok.verdict c.requires.problem (has-room q env p c.requires.problem)
    (λ is. refuted-holds c.goal_laws.ensures.right c.literal_laws.ensures q env p c.laws.ensures.lawful c.requires.problem (c.in-Ok.ensures.sound is)) c.in-Ok.ensures.verdict)
