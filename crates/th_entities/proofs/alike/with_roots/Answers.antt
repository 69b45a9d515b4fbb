use Rattle.std.proofs.Common.{rules}
use Rattle.std.specs.List.{AllByRecursion}
use Rattle.th_entities.specs.Alike.{IsFreeBeside}
use Rattle.th_entities.proofs.LeftLaws.{left_empty}
use Rattle.th_entities.proofs.RunLaws.{left_run, places_are, places_behind, root_within, rooted_of}
use Rattle.th_entities.proofs.alike.with_roots.Goals as goal

pub loop-q-init : goal.loop-q-init
loop-q-init c = (places_are c.args.problem.now c.args.places.now c.requires.places, λ h. h)

pub with_root-requires-clause-others : goal.with_root-requires-clause-others
with_root-requires-clause-others c = rooted_of c.args.problem.now c.loop-q.rest.now c.in-Some.q c.in-Some.others.now c.in-Some.later.now c.in-Some.ensures.some c.loop-q.invariant.0

pub with_root-requires-clause-q : goal.with_root-requires-clause-q
with_root-requires-clause-q c = root_within c.args.problem.now c.loop-q.rest.now c.in-Some.q c.in-Some.others.now c.in-Some.later.now c.in-Some.ensures.some c.loop-q.invariant.0

pub loop-q-preserved : goal.loop-q-preserved
loop-q-preserved c = (
  places_behind c.args.problem.now c.loop-q.rest.now c.in-Some.q c.in-Some.others.now c.in-Some.later.now c.in-Some.ensures.some c.loop-q.invariant.0,
  left_run (IsFreeBeside c.args.problem.now c.args.m.now c.args.run.now) (AllByRecursion (IsFreeBeside c.args.problem.now c.args.m.now c.args.run.now) c.args.places.now) c.loop-q.rest.now c.in-Some.others.now c.in-Some.later.now
      c.in-Some.ensures.some.whole c.in_default-with_root.ensures.none c.loop-q.invariant.1,
)

pub returns-clause-none : goal.returns-clause-none
returns-clause-none c =
    left_empty (IsFreeBeside c.args.problem.now c.args.m.now c.args.run.now) (AllByRecursion (IsFreeBeside c.args.problem.now c.args.m.now c.args.run.now) c.args.places.now) c.loop-q.rest.now (search rules) c.loop-q.invariant.1
