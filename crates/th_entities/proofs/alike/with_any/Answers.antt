use Rattle.std.proofs.Common.{rules}
use Rattle.std.specs.List.{AllByRecursion}
use Rattle.th_entities.specs.Alike.{IsAlikeFree}
use Rattle.th_entities.specs.Places.{IsPlace}
use Rattle.th_entities.proofs.LeftLaws.{first_of, left_less, left_none, others_of}
use Rattle.th_entities.proofs.alike.with_any.Goals as goal

pub loop-next-init : goal.loop-next-init
loop-next-init c = (c.requires.others, λ h. h)

pub with_one-requires-clause-other : goal.with_one-requires-clause-other
with_one-requires-clause-other c = first_of (IsPlace c.args.problem.now) c.loop-next.rest.now c.in-Some.later.now c.in-Some.next.now (search rules) c.loop-next.invariant.0

pub loop-next-preserved : goal.loop-next-preserved
loop-next-preserved c = (
  others_of (IsPlace c.args.problem.now) c.loop-next.rest.now c.in-Some.later.now c.in-Some.next.now (search rules) c.loop-next.invariant.0,
  left_less (λ b. AllByRecursion (λ a. IsAlikeFree c.args.problem.now c.args.m.now c.args.tags a.number b.number) c.args.run.now) (AllByRecursion (λ b. AllByRecursion (λ a. IsAlikeFree c.args.problem.now c.args.m.now c.args.tags a.number b.number) c.args.run.now) c.args.others.now) c.loop-next.rest.now c.in-Some.later.now c.in-Some.next.now (search rules) c.in_default-with_one.ensures.none c.loop-next.invariant.1,
)

pub returns-clause-none : goal.returns-clause-none
returns-clause-none c = left_none (λ b. AllByRecursion (λ a. IsAlikeFree c.args.problem.now c.args.m.now c.args.tags a.number b.number) c.args.run.now) (AllByRecursion (λ b. AllByRecursion (λ a. IsAlikeFree c.args.problem.now c.args.m.now c.args.tags a.number b.number) c.args.run.now) c.args.others.now) c.loop-next.rest.now (search rules) c.loop-next.invariant.1
