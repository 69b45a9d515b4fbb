use Rattle.std.proofs.Common.{IfSome, Some, ap, subst}
use Rattle.sc_reports.specs.LogReading.{HasRead, Held}
use Rattle.sc_reports.proofs.LogReadingLaws.{read-checked}
use Rattle.sc_reports.proofs.claims.checked.Goals as goal

pub returns-in-Ok-end-clause-verdict : goal.returns-in-Ok-end-clause-verdict
returns-in-Ok-end-clause-verdict g c =
    let content = g.F.Files.content c.args.files.now c.args.name.now in
    let p = c.args.problem.now in
    read-checked content p c.in-Ok.checker c.in-Some.checker c.in-Ok-end.verdict (λ bytes d v. c.stream_laws.ensures.agrees c.new-rules.result p bytes d v)
    (λ bytes d. c.stream_laws.ensures.accepted c.new-rules.result p bytes d) (ap (λ x. x.problem) c.in-Ok.ensures) (ap (λ x. x.state) c.in-Ok.ensures)
    (subst (λ (h : Held). IfSome content (HasRead (Some c.in-Ok.checker) h)) c.in-Some.is c.in-Ok-read_log.ensures.read) c.in-Ok-end.ensures.ended
