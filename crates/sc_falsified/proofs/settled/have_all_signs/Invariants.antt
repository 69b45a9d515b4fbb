use Rattle.std.proofs.Common.{◌<◌, ℕ, IsSome}
use Rattle.sc_falsified.proofs.settled.have_all_signs.Given as goal

abbrev pub invariant-loop-item : goal.invariant-loop-item
invariant-loop-item g l = (t p : ℕ) → t < l.item → p < g.S.Texts.patterns l.texts → IsSome (g.S.Texts.sign l.texts t p)
