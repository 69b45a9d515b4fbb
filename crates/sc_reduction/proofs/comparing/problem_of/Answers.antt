use Rattle.std.proofs.Common.{◌≡◌, List, sym, subst}
use Rattle.sc_footprint.specs.Goals.{IsGoal}
use Rattle.sc_names.specs.declared.uid.Uid.{Uid}
use Rattle.sc_terms.specs.Tables.{tree}
use Rattle.sc_reduction.proofs.TrialLaws.{goal_stands, query_posed, trial_closes, trial_goal}
use Rattle.sc_reduction.proofs.comparing.problem_of.Goals as goal

pub goal_of-requires-clause-posed : goal.goal_of-requires-clause-posed
goal_of-requires-clause-posed c =
    query_posed c.goal_laws.ensures.posed c.goal_laws.ensures.both c.args.task.now.schema.now c.args.env.now c.args.task.now.query.now c.requires.task c.requires.environment

pub close-requires-clause-within : goal.close-requires-clause-within
close-requires-clause-within c =
    let s = c.args.task.now.schema.now in
    let q = c.args.task.now.query.now in
    let g = trial_goal c.goal_laws.ensures.posed c.goal_laws.ensures.both s c.args.env.now q c.args.left.now c.args.right.now c.args.task.now.budget c.requires.task c.requires.environment in
    (goal_stands s c.args.env.now q c.args.left.now c.args.right.now c.args.task.now.budget _ _ g.0 c.requires.task g.1 c.in_ok-goal.ensures.ok).within

pub close-requires-clause-goal : goal.close-requires-clause-goal
close-requires-clause-goal c =
    let s = c.args.task.now.schema.now in
    let env = c.args.env.now in
    let q = c.args.task.now.query.now in
    let g = trial_goal c.goal_laws.ensures.posed c.goal_laws.ensures.both s env q c.args.left.now c.args.right.now c.args.task.now.budget c.requires.task c.requires.environment in
    let stands = goal_stands s env q c.args.left.now c.args.right.now c.args.task.now.budget _ _ g.0 c.requires.task g.1 c.in_ok-goal.ensures.ok in
    subst (λ (us : List Uid). IsGoal s env us (tree c.goal_of.new.terms c.in_ok-goal.goal)) (sym c.lits.ensures)
    (subst (IsGoal s env q.literals) (sym stands.is)
    (trial_closes c.posed_goals.ensures.goal c.declared_laws.ensures s env q c.args.left.now c.args.right.now c.args.task.now.budget g.0 c.laws-2.ensures.lawful c.requires.environment c.laws.ensures c.requires.task g.1))
