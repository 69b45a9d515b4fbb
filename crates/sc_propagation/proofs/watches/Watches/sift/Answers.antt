use Rattle.std.proofs.Common.{ℕ, inl, inr, refl, subst, sym, ◌∙◌, true≢false}
use Rattle.sc_propagation.proofs.watches.Watches.sift.Goals as goal
use Rattle.sc_propagation.specs.Watches.{IsWatched, watch_of}

pub returns-then-is_watched : goal.returns-then-is_watched
returns-then-is_watched c = inl (refl, refl, refl)

pub returns : goal.returns
returns c =
    inr (
      refl,
      refl,
      (λ h. true≢false (sym (c.is_watched.ensures.1 (subst (λ (i : ℕ). IsWatched (watch_of c.args.self.now i) c.args.lit) c.requires.place h)) ∙ c.if-is_watched.false)),
      c.unlist.ensures,
    )
