use Rattle.std.proofs.Common.{rules}
use Rattle.th_entities.proofs.AlikeLaws.{AreAllFree, IsFreeAmong, all_free, turned}
use Rattle.th_entities.proofs.LeftLaws.{left_empty}
use Rattle.th_entities.proofs.RunLaws.{left_run, places_are, places_behind, root_within, rooted_of}
use Rattle.th_entities.proofs.alike.unlike_places.Goals as goal

pub loop-r-init : goal.loop-r-init
loop-r-init c = (places_are c.args.problem.now c.args.places.now c.requires.places, all_free c.args.problem.now c.args.m.now c.args.places.now c.requires.places)

pub with_roots-requires-clause-run : goal.with_roots-requires-clause-run
with_roots-requires-clause-run c = rooted_of c.args.problem.now c.loop-r.rest.now c.in-Some.r c.in-Some.own.now c.in-Some.later.now c.in-Some.ensures.some c.loop-r.invariant.0

pub with_roots-requires-clause-r : goal.with_roots-requires-clause-r
with_roots-requires-clause-r c = root_within c.args.problem.now c.loop-r.rest.now c.in-Some.r c.in-Some.own.now c.in-Some.later.now c.in-Some.ensures.some c.loop-r.invariant.0

pub loop-r-preserved : goal.loop-r-preserved
loop-r-preserved c = (
  places_behind c.args.problem.now c.loop-r.rest.now c.in-Some.r c.in-Some.own.now c.in-Some.later.now c.in-Some.ensures.some c.loop-r.invariant.0,
  left_run (IsFreeAmong c.args.problem.now c.args.m.now c.args.places.now) (AreAllFree c.args.problem.now c.args.m.now) c.loop-r.rest.now c.in-Some.own.now c.in-Some.later.now c.in-Some.ensures.some.whole
      (turned c.args.problem.now c.args.m.now c.args.places.now c.in-Some.own.now c.in_default-with_roots.ensures.none) c.loop-r.invariant.1,
)

pub returns-clause-none : goal.returns-clause-none
returns-clause-none c = left_empty (IsFreeAmong c.args.problem.now c.args.m.now c.args.places.now) (AreAllFree c.args.problem.now c.args.m.now) c.loop-r.rest.now (search rules) c.loop-r.invariant.1
