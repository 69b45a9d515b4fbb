use Rattle.std.proofs.Common.{◌<◌, ℕ, IsSome}
use Rattle.sc_falsified.proofs.settled.has_all_signs.Given as goal

abbrev pub invariant-loop-pattern : goal.invariant-loop-pattern
invariant-loop-pattern g l = (p : ℕ) → p < l.pattern → IsSome (g.S.Texts.sign l.texts l.item p)
