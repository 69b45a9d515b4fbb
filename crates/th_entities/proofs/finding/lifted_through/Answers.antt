use Rattle.std.proofs.Common.{rules}
use Rattle.std.specs.List.{AllByRecursion}
use Rattle.th_entities.specs.Free.{IsUnder}
use Rattle.th_entities.proofs.LeftLaws.{left_empty}
use Rattle.th_entities.proofs.ListedLaws.{run_under}
use Rattle.th_entities.proofs.MembershipLaws.{memberships_held}
use Rattle.th_entities.proofs.RunLaws.{held_behind, left_run, run_of}
use Rattle.th_entities.proofs.finding.lifted_through.Goals as goal

pub loop-f-init : goal.loop-f-init
loop-f-init c = (memberships_held c.args.problem.now c.args.m.now c.args.known.now c.requires.known, λ h. h)

pub lifted_over-requires-clause-ups : goal.lifted_over-requires-clause-ups
lifted_over-requires-clause-ups c = run_of c.args.problem.now c.args.m.now c.loop-f.rest.now c.in-Some.f c.in-Some.ups.now c.in-Some.later.now c.in-Some.ensures.some c.loop-f.invariant.0

pub loop-f-preserved : goal.loop-f-preserved
loop-f-preserved c = (
  held_behind c.args.problem.now c.args.m.now c.loop-f.rest.now c.in-Some.f c.in-Some.ups.now c.in-Some.later.now c.in-Some.ensures.some c.loop-f.invariant.0,
  left_run (IsUnder c.args.problem.now c.args.m.now c.args.e c.args.lows.now) (AllByRecursion (IsUnder c.args.problem.now c.args.m.now c.args.e c.args.lows.now) c.args.known.now) c.loop-f.rest.now c.in-Some.ups.now c.in-Some.later.now c.in-Some.ensures.some.whole
      (run_under c.args.problem.now c.args.m.now c.args.e c.args.lows.now c.in-Some.f c.in-Some.ups.now c.in-Some.ensures.some.alike c.in_default-lifted_over.ensures.none) c.loop-f.invariant.1,
)

pub returns-clause-none : goal.returns-clause-none
returns-clause-none c = left_empty (IsUnder c.args.problem.now c.args.m.now c.args.e c.args.lows.now) (AllByRecursion (IsUnder c.args.problem.now c.args.m.now c.args.e c.args.lows.now) c.args.known.now) c.loop-f.rest.now (search rules) c.loop-f.invariant.1
