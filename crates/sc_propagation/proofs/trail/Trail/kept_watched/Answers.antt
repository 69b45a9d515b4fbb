use Rattle.std.proofs.Common.{Option, get_or, inl, inr, refl, subst, sym, ◌∙◌}
use Rattle.sc_propagation.proofs.ReadingLaws.{free-before}
use Rattle.sc_propagation.proofs.trail.Trail.kept_watched.Goals as goal
use Rattle.sc_propagation.specs.Watches.{IsWatched}
use Rattle.sc_propagation.specs.declared.watches.Watch.{Watch}

pub is_open-requires-clause-in_cells : goal.is_open-requires-clause-in_cells
is_open-requires-clause-in_cells c =
    let l = c.in-Some.watch.first in
    c.requires.in_cells l (subst (λ (o : Option Watch). IsWatched o l) (sym c.in-Some.is ∙ c.pair.ensures) (inl refl))

pub is_late-requires-clause-in_cells : goal.is_late-requires-clause-in_cells
is_late-requires-clause-in_cells c =
    let l = c.in-Some.watch.second in
    c.requires.in_cells l (subst (λ (o : Option Watch). IsWatched o l) (sym c.in-Some.is ∙ c.pair.ensures) (inr refl))

pub is_late-requires-2-clause-in_cells : goal.is_late-requires-2-clause-in_cells
is_late-requires-2-clause-in_cells c =
    let l = c.in-Some.watch.first in
    c.requires.in_cells l (subst (λ (o : Option Watch). IsWatched o l) (sym c.in-Some.is ∙ c.pair.ensures) (inl refl))

pub returns-then-is_open : goal.returns-then-is_open
returns-then-is_open c =
    let l = c.in-Some.watch.first in
    (subst (λ (o : Option Watch). IsWatched o l) (sym c.in-Some.is ∙ c.pair.ensures) (inl refl), record { at_levels = λ k lt. free-before c.args.self.now.cells.items (get_or c.args.self.now.levels.items k 0) l (c.is_open.ensures c.if-is_open.true) })

pub returns-then-is_late : goal.returns-then-is_late
returns-then-is_late c =
    let l = c.in-Some.watch.second in
    (subst (λ (o : Option Watch). IsWatched o l) (sym c.in-Some.is ∙ c.pair.ensures) (inr refl), c.is_late.ensures c.if-is_late.true)

pub returns-then-is_late-2 : goal.returns-then-is_late-2
returns-then-is_late-2 c =
    let l = c.in-Some.watch.first in
    (subst (λ (o : Option Watch). IsWatched o l) (sym c.in-Some.is ∙ c.pair.ensures) (inl refl), c.is_late-2.ensures c.if-is_late-2.true)
