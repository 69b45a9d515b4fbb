use Rattle.std.proofs.Common.{ℕ, rules}
use Rattle.sc_rule_instances.specs.declared.rule.EntityRule.TheVariants.{En5}
use Rattle.th_entities.specs.Free.{IsFree, IsThroughFree}
use Rattle.th_entities.proofs.LeftLaws.{left_empty}
use Rattle.th_entities.proofs.ListedLaws.{run_free, through_free}
use Rattle.th_entities.proofs.MembershipLaws.{memberships_held}
use Rattle.th_entities.proofs.RunLaws.{held_behind, left_run, run_of}
use Rattle.th_entities.proofs.finding.fifth_rule.Goals as goal

pub loop-e-init : goal.loop-e-init
loop-e-init c = (memberships_held c.args.problem.now c.args.m.now c.args.known.now c.requires, through_free c.args.problem.now c.args.m.now c.args.known.now c.requires c.laws.ensures)

pub lifted_through-requires-clause-lows : goal.lifted_through-requires-clause-lows
lifted_through-requires-clause-lows c = run_of c.args.problem.now c.args.m.now c.loop-e.rest.now c.in-Some.e c.in-Some.lows.now c.in-Some.later.now c.in-Some.ensures.some c.loop-e.invariant.0

pub loop-e-preserved : goal.loop-e-preserved
loop-e-preserved c = (
  held_behind c.args.problem.now c.args.m.now c.loop-e.rest.now c.in-Some.e c.in-Some.lows.now c.in-Some.later.now c.in-Some.ensures.some c.loop-e.invariant.0,
  left_run (IsThroughFree c.args.problem.now c.args.m.now c.args.known.now) ((u : ℕ) → (f : ℕ) → (e : ℕ) → (x : ℕ) → IsFree c.args.problem.now c.args.m.now (En5 e f x u)) c.loop-e.rest.now c.in-Some.lows.now c.in-Some.later.now c.in-Some.ensures.some.whole
      (run_free c.args.problem.now c.args.m.now c.args.known.now c.in-Some.e c.in-Some.lows.now c.in-Some.ensures.some.alike c.in_default-lifted_through.ensures.none) c.loop-e.invariant.1,
)

pub returns-clause-none : goal.returns-clause-none
returns-clause-none c = left_empty (IsThroughFree c.args.problem.now c.args.m.now c.args.known.now) ((u : ℕ) → (f : ℕ) → (e : ℕ) → (x : ℕ) → IsFree c.args.problem.now c.args.m.now (En5 e f x u)) c.loop-e.rest.now (search rules) c.loop-e.invariant.1
