use Rattle.sc_reduction.specs.Marked.{trial_of}
use Rattle.sc_reduction.proofs.TrialLaws.{refuted_alike, satisfied_differs, spent_undecided}
use Rattle.sc_reduction.proofs.comparing.solved.Goals as goal

pub returns-in-Refuted : goal.returns-in-Refuted
returns-in-Refuted c =
    let solution = rw c.in-Refuted.is at c.in_ok-solve.ensures in
    refuted_alike c.goal_laws.ensures.right c.literal_laws.ensures (trial_of c.args.task.now c.args.left.now c.args.right.now) c.args.env.now c.args.problem.now c.laws.ensures.lawful c.requires.problem solution.2

pub returns-in-Violated : goal.returns-in-Violated
returns-in-Violated c =
    let solution = rw c.in-Violated.is at c.in_ok-solve.ensures in
    satisfied_differs c.goal_laws.ensures.right c.literal_laws.ensures (trial_of c.args.task.now c.args.left.now c.args.right.now) c.args.env.now c.args.problem.now c.laws.ensures.lawful c.requires.problem c.in-Violated.world solution

pub returns : goal.returns
returns c =
    let solution = rw c.in-Spent.is at c.in_ok-solve.ensures in
    spent_undecided (trial_of c.args.task.now c.args.left.now c.args.right.now) c.args.env.now c.args.problem.now _ c.requires.problem solution
