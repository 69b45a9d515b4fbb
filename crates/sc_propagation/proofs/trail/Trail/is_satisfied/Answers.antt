use Rattle.std.proofs.Common.{Option, inl, inr, refl, true≢false, subst, sym, ◌∙◌}
use Rattle.sc_propagation.proofs.trail.Trail.is_satisfied.Goals as goal
use Rattle.sc_propagation.specs.Watches.{IsWatched}
use Rattle.sc_propagation.specs.declared.watches.Watch.{Watch}

pub is_one_true-requires-clause-first : goal.is_one_true-requires-clause-first
is_one_true-requires-clause-first c =
    let l = c.in-Some.watch.first in
    c.requires.in_cells l (subst (λ (o : Option Watch). IsWatched o l) (sym c.in-Some.is ∙ c.pair.ensures) (inl refl))

pub is_one_true-requires-clause-second : goal.is_one_true-requires-clause-second
is_one_true-requires-clause-second c =
    let l = c.in-Some.watch.second in
    c.requires.in_cells l (subst (λ (o : Option Watch). IsWatched o l) (sym c.in-Some.is ∙ c.pair.ensures) (inr refl))

pub returns-in-None : goal.returns-in-None
returns-in-None c = λ e. absurd (true≢false (sym e))

pub returns-in-Some : goal.returns-in-Some
returns-in-Some c =
    λ e.
    let w = c.is_one_true.ensures e in
    (w.0, subst (λ (o : Option Watch). IsWatched o w.0) (sym c.in-Some.is ∙ c.pair.ensures) w.1, w.2)
