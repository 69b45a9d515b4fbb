use Rattle.std.proofs.Common.{rules}
use Rattle.th_entities.specs.Alike.{IsAlikeFree, IsCandidateFree}
use Rattle.th_entities.proofs.AlikeLaws.{candidate_free}
use Rattle.th_entities.proofs.LeftLaws.{left_less, left_none}
use Rattle.th_entities.proofs.alike.by_candidate.Goals as goal

pub loop-next-init : goal.loop-next-init
loop-next-init c = candidate_free c.args.problem.now c.args.m.now c.laws.ensures c.args.known.now c.args.tags c.args.a c.args.b.number c.requires.known c.requires.place c.requires.set

pub loop-next-preserved : goal.loop-next-preserved
loop-next-preserved c =
    left_less (IsCandidateFree c.args.problem.now c.args.m.now c.args.tags c.args.a.number c.args.b.number) (IsAlikeFree c.args.problem.now c.args.m.now c.args.tags c.args.a.number c.args.b.number) c.loop-next.rest.now
    c.in-Some.later.now c.in-Some.next.now (search rules) c.in_default-candidate.ensures.none c.loop-next.invariant

pub returns-clause-none : goal.returns-clause-none
returns-clause-none c =
    left_none (IsCandidateFree c.args.problem.now c.args.m.now c.args.tags c.args.a.number c.args.b.number) (IsAlikeFree c.args.problem.now c.args.m.now c.args.tags c.args.a.number c.args.b.number) c.loop-next.rest.now
    (search rules) c.loop-next.invariant
