use Rattle.std.proofs.Common.{◌++◌, ◌∷◌, [], ap, ◌∙◌, Vec, Global}
use Rattle.sc_clauses.specs.declared.step.Step.{Step}
use Rattle.sc_clauses.specs.declared.step.Step.TheVariants.{Instance}
use Rattle.sc_search.proofs.solver.Solver.log.Goals as goal

pub attach-requires-clause-alive : goal.attach-requires-clause-alive
attach-requires-clause-alive c = λ e. c.requires.alive

pub returns-clause-ready : goal.returns-clause-ready
returns-clause-ready c = let made = c.in_ok-attach.ensures.ready in record { in_cells = made.in_cells; watched = made.watched; trail = made.trail; seen = made.seen; marks = made.marks }

pub returns-clause-steps : goal.returns-clause-steps
returns-clause-steps c = c.in_ok-push.ensures.items ∙ ap (λ (v : Vec Step Global). v.items ++ Instance c.args.instance ∷ []) c.in_ok-attach.ensures.steps
