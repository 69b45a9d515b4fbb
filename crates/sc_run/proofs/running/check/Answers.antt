use Rattle.std.proofs.Common.{inl, inr, refl}
use Rattle.sc_inputs.specs.View.{refusal_view}
use Rattle.sc_reports.specs.Claims.{unchecked}
use Rattle.sc_run.proofs.StatusLaws.{unread-must}
use Rattle.sc_run.proofs.running.check.Goals as goal

pub returns-in-Ok-clause-checks : goal.returns-in-Ok-clause-checks
returns-in-Ok-clause-checks g c = λ env at.
    inl (c.put_said.ensures.puts (g.F.Files.content c.args.files.now c.args.claim.now.log.now) env at c.in-Ok.ensures.short (c.in-Ok.ensures.claims env at))

pub returns-in-Err-Told-clause-checks : goal.returns-in-Err-Told-clause-checks
returns-in-Err-Told-clause-checks g c = λ env at.
    inr (refusal_view c.in-Err-Told.refusal, (rw (c.in-Err-Told.is, c.in-Err-Told.field-0-is) at c.check_claim.ensures.fails), c.refuse.ensures.refuses)

pub returns-in-Err-NoMemory-clause-checks : goal.returns-in-Err-NoMemory-clause-checks
returns-in-Err-NoMemory-clause-checks g c = λ env at. inl (unchecked refl refl)

pub returns-in-Err-Told-clause-read_told : goal.returns-in-Err-Told-clause-read_told
returns-in-Err-Told-clause-read_told g c = λ up.
    unread-must c.in-Err-Told.refusal _ _ _ c.refuse.result _ ((rw (c.in-Err-Told.is, c.in-Err-Told.field-0-is) at c.check_claim.ensures.told) up) c.refuse.ensures.refuses refl
