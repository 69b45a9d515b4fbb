use Rattle.sc_reports.proofs.AnalysisLaws.{query-problem, query-too-large, some-goal}
use Rattle.sc_reports.proofs.analysing.analyse_env.Goals as goal

pub solved-requires : goal.solved-requires
solved-requires c =
    let s = c.args.schema.now in
    let env = c.args.env.now in
    let q = c.args.query.now in
    let posed = some-goal _ c.requires.typed in
    record { problem = query-problem s env q c.args.budget _ posed.0 c.laws.ensures c.laws-in-Ok.ensures posed.1 (c.in-Ok.ensures.ok posed.0 posed.1) }

pub returns-in-Err-Told-clause-answer : goal.returns-in-Err-Told-clause-answer
returns-in-Err-Told-clause-answer c =
    let s = c.args.schema.now in
    let env = c.args.env.now in
    let q = c.args.query.now in
    let posed = some-goal _ c.requires.typed in
    let refused = rw (c.in-Err-Told.is, c.in-Err-Told.field-0-is) at c.problem_of.ensures.err in
    query-too-large s env q c.args.budget posed.0 posed.1 (refused posed.0 posed.1)
