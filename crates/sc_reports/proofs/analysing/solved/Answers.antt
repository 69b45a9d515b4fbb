use Rattle.sc_reports.specs.Analyses.{asked_of}
use Rattle.sc_reports.proofs.AnalysisLaws.{has-room, refuted-holds, satisfied-violates, spent-undecided}
use Rattle.sc_reports.proofs.analysing.solved.Goals as goal

pub returns-in-Refuted-clause-answer : goal.returns-in-Refuted-clause-answer
returns-in-Refuted-clause-answer c =
    let solution = rw c.in-Refuted.is at c.in_ok-log.ensures in
    let q = asked_of c.args.schema.now c.args.query.now c.args.budget in (
      refuted-holds c.goal_laws.ensures.right c.literal_laws.ensures q c.args.env.now c.args.problem.now c.laws.ensures.lawful c.requires.problem solution.2,
      has-room q c.args.env.now c.args.problem.now c.requires.problem,
    )

pub returns-in-Refuted-clause-found : goal.returns-in-Refuted-clause-found
returns-in-Refuted-clause-found c =
    let solution = rw c.in-Refuted.is at c.in_ok-log.ensures in
    record { posed = c.args.problem.now; is_problem = c.requires.problem; accepted = solution.0; within = solution.1 }

pub returns-in-Violated-clause-answer : goal.returns-in-Violated-clause-answer
returns-in-Violated-clause-answer c =
    let solution = rw c.in-Violated.is at c.in_ok-log.ensures in
    let q = asked_of c.args.schema.now c.args.query.now c.args.budget in (
      satisfied-violates c.goal_laws.ensures.right c.literal_laws.ensures q c.args.env.now c.args.problem.now c.in-Violated.world c.laws.ensures.lawful c.requires.problem solution,
      has-room q c.args.env.now c.args.problem.now c.requires.problem,
    )

pub returns-in-Spent-clause-answer : goal.returns-in-Spent-clause-answer
returns-in-Spent-clause-answer c =
    let solution = rw c.in-Spent.is at c.in_ok-log.ensures in
    spent-undecided (asked_of c.args.schema.now c.args.query.now c.args.budget) c.args.env.now c.args.problem.now _ c.requires.problem solution
