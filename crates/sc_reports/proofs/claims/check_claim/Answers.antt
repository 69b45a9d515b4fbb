use Rattle.std.proofs.Common.{slice_get, sym, subst}
use Rattle.std.proofs.lemmas.Result.{IfOk-weaker}
use Rattle.sc_lists.proofs.ListLaws.{contains_place}
use Rattle.sc_schema.specs.Declarations.{environments}
use Rattle.sc_reports.proofs.AnalysisLaws.{may-be-posed, query-posed, query-problem, query-served, query-too-large, some-goal}
use Rattle.sc_reports.proofs.ClaimLaws.{claims-named}
use Rattle.sc_reports.specs.Analyses.{asked_of}
use Rattle.sc_reports.specs.Claims.{Claims, answer_view}
use Rattle.sc_reports.specs.declared.claims.Answer as code
use Rattle.sc_reports.proofs.claims.check_claim.Goals as goal

pub problem_of-requires : goal.problem_of-requires
problem_of-requires g c =
    let i = c.args.claim.now.asking in
    let env = c.environment_at-env.result.now in
    may-be-posed c.goal_laws.ensures.posed c.goal_laws.ensures.both i.schema env c.in-Ok.query (query-served i c.in-Ok.query c.in-Ok.ensures c.requires.allowed)
    (contains_place (environments i.schema) c.args.claim.now.environment env c.environment_at-env.ensures)

pub check_problem-requires : goal.check_problem-requires
check_problem-requires g c =
    let i = c.args.claim.now.asking in
    let env = c.environment_at-env.result.now in
    let q = c.in-Ok.query in
    let among = contains_place (environments i.schema) c.args.claim.now.environment env c.environment_at-env.ensures in
    let posed = some-goal _ (query-posed c.goal_laws.ensures.posed c.goal_laws.ensures.both i.schema env q (query-served i q c.in-Ok.ensures c.requires.allowed) among) in
    record { problem = query-problem i.schema env q 0 c.in-Ok-problem_of.problem posed.0 c.laws.ensures c.laws-in-Ok-problem_of.ensures posed.1 (c.in-Ok-problem_of.ensures.ok posed.0 posed.1) }

pub returns-in-Ok-problem_of-clause-claims : goal.returns-in-Ok-problem_of-clause-claims
returns-in-Ok-problem_of-clause-claims g c =
    let i = c.args.claim.now.asking in
    let content = g.F.Files.content c.args.files.now c.args.claim.now.log.now in
    IfOk-weaker c.check_problem.result _ _
    (λ a h. λ other at. claims-named content i c.in-Ok.query (slice_get (environments i.schema) c.args.claim.now.environment) c.environment_at-env.result.now other (answer_view a) c.in-Ok.ensures c.environment_at-env.ensures at h)
    c.check_problem.ensures.claims

pub returns-in-Err-Told-clause-claims : goal.returns-in-Err-Told-clause-claims
returns-in-Err-Told-clause-claims g c =
    let i = c.args.claim.now.asking in
    let content = g.F.Files.content c.args.files.now c.args.claim.now.log.now in
    let env = c.environment_at-env.result.now in
    let q = c.in-Ok.query in
    let among = contains_place (environments i.schema) c.args.claim.now.environment env c.environment_at-env.ensures in
    let posed = some-goal _ (query-posed c.goal_laws.ensures.posed c.goal_laws.ensures.both i.schema env q (query-served i q c.in-Ok.ensures c.requires.allowed) among) in
    let refused = rw (c.in-Err-Told.is, c.in-Err-Told.field-0-is) at c.problem_of.ensures.err in
    IfOk-weaker c.unchecked.result _ _
    (λ a h. λ other at. claims-named content i q (slice_get (environments i.schema) c.args.claim.now.environment) env other (answer_view a) c.in-Ok.ensures c.environment_at-env.ensures at
    (subst (λ (x : code.Answer). Claims content (asked_of i.schema q 0) env (answer_view x)) (sym h) (query-too-large i.schema env q 0 posed.0 posed.1 (refused posed.0 posed.1))))
    c.unchecked.ensures.answer
