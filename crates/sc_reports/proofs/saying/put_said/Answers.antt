use Rattle.std.proofs.Common.{◌∙◌, slice_get, rules}
use Rattle.sc_outside.specs.Counts.{Rose}
use Rattle.sc_schema.specs.Declarations.{environments}
use Rattle.sc_reports.specs.Analyses.{asked_within}
use Rattle.sc_reports.specs.Claims.{answer_view}
use Rattle.sc_reports.proofs.ClaimLaws.{said, said-cut}
use Rattle.sc_reports.proofs.saying.put_said.Goals as goal

pub returns-in-Ok-write-clause-puts : goal.returns-in-Ok-write-clause-puts
returns-in-Ok-write-clause-puts g c = λ content env at short claims.
    let i = c.args.claim.now.asking in
    said content (asked_within i 0) (slice_get (environments i.schema) c.args.claim.now.environment) c.environment_at-env.result.now env (answer_view c.args.answer) c.deref.result.now
    (g.O.Sink.written c.args.out.now) (g.O.Sink.written c.write.new.self) (Rose (g.O.Sink.faults c.args.out.now) (g.O.Sink.faults c.write.new.self)) c.answer_code.result
    c.environment_at-env.ensures at short claims (c.deref.ensures.value ∙ c.in-Ok.ensures) c.in-Ok-write.ensures.text c.answer_code.ensures

pub returns-in-Err-Failed-clause-puts : goal.returns-in-Err-Failed-clause-puts
returns-in-Err-Failed-clause-puts g c = λ content env at short claims.
    let i = c.args.claim.now.asking in
    said-cut content (asked_within i 0) (slice_get (environments i.schema) c.args.claim.now.environment) c.environment_at-env.result.now env (answer_view c.args.answer) c.deref.result.now
    (g.O.Sink.written c.args.out.now) (g.O.Sink.written c.write.new.self) (Rose (g.O.Sink.faults c.args.out.now) (g.O.Sink.faults c.write.new.self))
    c.environment_at-env.ensures at short claims (c.deref.ensures.value ∙ c.in-Ok.ensures) (search rules) (rw (c.in-Err-Failed.is, c.in-Err-Failed.field-0-is) at c.write.ensures.text)
