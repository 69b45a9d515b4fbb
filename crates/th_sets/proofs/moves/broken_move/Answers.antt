use Rattle.th_sets.proofs.MoveLaws.{told_found, told_some, told_none}
use Rattle.th_sets.proofs.moves.broken_move.Goals as goal

pub returns-in-Some-clause-found : goal.returns-in-Some-clause-found
returns-in-Some-clause-found c =
    told_found c.args.problem.now c.in_ok-all.all.problem.now c.args.m.now c.in_ok-all.all.m.now c.in_ok-all.all.members.items c.in_ok-all.all.sets.items c.in_ok-all.ensures.of c.in_ok-all.ensures.under
    _ c.in-Some.start c.in-Some.middle c.in-Some.end _ c.in-Some.is c.in_ok-start.ensures.found c.move_at.ensures

pub returns-in-Some-clause-none : goal.returns-in-Some-clause-none
returns-in-Some-clause-none c =
    told_some c.args.problem.now c.in_ok-all.all.problem.now c.args.m.now c.in_ok-all.all.m.now c.in_ok-all.all.members.items c.in_ok-all.all.sets.items c.in_ok-all.ensures.of c.in_ok-all.ensures.under
    _ c.in-Some.start c.in-Some.middle c.in-Some.end _ _ c.in-Some.is c.in_ok-start.ensures.found c.move_at.ensures

pub returns-clause-none : goal.returns-clause-none
returns-clause-none c =
    told_none c.args.problem.now c.in_ok-all.all.problem.now c.args.m.now c.in_ok-all.all.m.now c.in_ok-all.all.members.items c.in_ok-all.all.sets.items c.in_ok-all.ensures.of c.in_ok-all.ensures.under
    _ c.laws.ensures c.in_ok-all.ensures.all c.in-None.is c.in_ok-start.ensures.none
