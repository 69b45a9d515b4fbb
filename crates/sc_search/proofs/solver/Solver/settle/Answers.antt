use Rattle.std.proofs.Common.{refl, sym, true≢false, ◌∙◌}
use Rattle.sc_search.proofs.solver.Solver.settle.Goals as goal
use Rattle.sc_search.proofs.DueLaws.{has-conflict}

pub returns-then-is_spent : goal.returns-then-is_spent
returns-then-is_spent c =
    let s = c.args.self.now in
    (refl, c.is_spent.ensures.0 c.if-is_spent.true, has-conflict _ s.clauses s.trail.cells.items s.trail.lits.items s.trail.levels.items c.requires.ready.trail c.args.conflict c.requires.falsified)

pub refute-requires-clause-few_clauses : goal.refute-requires-clause-few_clauses
refute-requires-clause-few_clauses c = c.requires.few_clauses (λ e. true≢false (sym (c.is_spent.ensures.1 e) ∙ c.if-is_spent.false))

pub learn-requires-clause-few_clauses : goal.learn-requires-clause-few_clauses
learn-requires-clause-few_clauses c = c.requires.few_clauses (λ e. true≢false (sym (c.is_spent.ensures.1 e) ∙ c.if-is_spent.false))

pub returns-then-is_empty : goal.returns-then-is_empty
returns-then-is_empty c = (c.in_ok-refute.ensures, λ e. true≢false (sym (c.is_spent.ensures.1 e) ∙ c.if-is_spent.false))

pub returns : goal.returns
returns c = (c.in_ok-learn.ensures, λ e. true≢false (sym (c.is_spent.ensures.1 e) ∙ c.if-is_spent.false))
