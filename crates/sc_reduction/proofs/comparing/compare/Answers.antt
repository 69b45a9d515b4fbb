use Rattle.sc_reduction.proofs.TrialLaws.{too_large, trial, trial_goal, trial_problem}
use Rattle.sc_reduction.proofs.comparing.compare.Goals as goal

pub solved-requires : goal.solved-requires
solved-requires c =
    let s = c.args.task.now.schema.now in
    let env = c.args.env.now in
    let q = c.args.task.now.query.now in
    let budget = c.args.task.now.budget in
    let g = trial_goal c.goal_laws.ensures.posed c.goal_laws.ensures.both s env q c.args.left.now c.args.right.now budget c.requires.task c.requires.environment in
    record {
      problem = trial_problem s env q c.args.left.now c.args.right.now budget _ g.0 c.laws.ensures c.requires.task c.laws-in-Ok.ensures g.1 (c.in-Ok.ensures.ok g.0 g.1);
    }

pub returns-in-Err-Told : goal.returns-in-Err-Told
returns-in-Err-Told c =
    let s = c.args.task.now.schema.now in
    let env = c.args.env.now in
    let q = c.args.task.now.query.now in
    let budget = c.args.task.now.budget in
    let g = trial_goal c.goal_laws.ensures.posed c.goal_laws.ensures.both s env q c.args.left.now c.args.right.now budget c.requires.task c.requires.environment in
    let refused = rw (c.in-Err-Told.is, c.in-Err-Told.field-0-is) at c.problem_of.ensures.err in
    too_large (trial s q c.args.left.now c.args.right.now budget) env g.0 g.1 (refused g.0 g.1)
