use Rattle.std.proofs.Common.{Option, IsTrue, ◌↔◌, true≢false, subst, sym, ◌∙◌}
use Rattle.sc_propagation.proofs.watches.Watches.is_watched.Goals as goal
use Rattle.sc_propagation.specs.Watches.{IsWatched}
use Rattle.sc_propagation.specs.declared.watches.Watch.{Watch}

pub returns-in-None : goal.returns-in-None
returns-in-None c = (
  (λ e. absurd (true≢false (sym e))),
  (λ h. absurd (subst (λ (o : Option Watch). IsWatched o c.args.lit) (sym c.pair.ensures ∙ c.in-None.is) h)),
)

pub returns-in-Some : goal.returns-in-Some
returns-in-Some c = subst (λ (o : Option Watch). IsTrue c.is_of.result ↔ IsWatched o c.args.lit) (sym c.in-Some.is ∙ c.pair.ensures) c.is_of.ensures
