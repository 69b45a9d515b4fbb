use Rattle.std.proofs.Common.{rules}
use Rattle.std.specs.List.{AllByRecursion}
use Rattle.th_entities.specs.Free.{IsLifted}
use Rattle.th_entities.specs.Memberships.{IsHeld}
use Rattle.th_entities.proofs.LeftLaws.{first_of, left_less, left_none, others_of}
use Rattle.th_entities.proofs.RunLaws.{run_held}
use Rattle.th_entities.proofs.finding.lifted_any.Goals as goal

pub loop-next-init : goal.loop-next-init
loop-next-init c = (run_held c.args.problem.now c.args.m.now c.args.f c.args.ups.now c.requires.ups, λ h. h)

pub lifted-requires-clause-up : goal.lifted-requires-clause-up
lifted-requires-clause-up c = first_of (IsHeld c.args.problem.now c.args.m.now) c.loop-next.rest.now c.in-Some.later.now c.in-Some.next.now (search rules) c.loop-next.invariant.0

pub loop-next-preserved : goal.loop-next-preserved
loop-next-preserved c = (
  others_of (IsHeld c.args.problem.now c.args.m.now) c.loop-next.rest.now c.in-Some.later.now c.in-Some.next.now (search rules) c.loop-next.invariant.0,
  left_less (IsLifted c.args.problem.now c.args.m.now c.args.e c.args.f) (AllByRecursion (IsLifted c.args.problem.now c.args.m.now c.args.e c.args.f) c.args.ups.now) c.loop-next.rest.now c.in-Some.later.now c.in-Some.next.now (search rules) c.in_default-lifted.ensures.none
      c.loop-next.invariant.1,
)

pub returns-clause-none : goal.returns-clause-none
returns-clause-none c = left_none (IsLifted c.args.problem.now c.args.m.now c.args.e c.args.f) (AllByRecursion (IsLifted c.args.problem.now c.args.m.now c.args.e c.args.f) c.args.ups.now) c.loop-next.rest.now (search rules) c.loop-next.invariant.1
