use Rattle.std.proofs.lemmas.Result.{IfOk-weaker}
use Rattle.sc_goal.specs.Queries.{second}
use Rattle.sc_goal_tests.proofs.CheckedLaws.{posed_at}
use Rattle.sc_goal_tests.proofs.problems.goal_in.Goals as goal

pub returns : goal.returns
returns c =
    let s = c.args.schema.now in
    let env = c.args.env.now in
    let q = c.args.query.now in
    let some = c.goal_laws.ensures.both s env q.question q.first (second q) (c.goal_laws.ensures.posed s env q.first c.requires.first.types c.requires.environment) (c.goal_laws.ensures.posed s env (second q) c.requires.second.types c.requires.environment) in
    IfOk-weaker c.goal.result _ _
    (λ n k. posed_at s env q c.laws.ensures.lawful c.requires.environment c.laws-2.ensures (c.declared_laws.ensures s) c.requires.first c.requires.second (c.posed_goals.ensures.goal s env) c.goal.new.terms n some k) c.goal.ensures.ok
