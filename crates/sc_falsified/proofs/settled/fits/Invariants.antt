use Rattle.std.proofs.Common.{◌≡◌, ◌<◌, ℕ, Bool, get_or, Some, None}
use Rattle.sc_falsified.proofs.settled.fits.Given as goal

abbrev pub invariant-loop-pattern : goal.invariant-loop-pattern
invariant-loop-pattern g l = (p : ℕ) (s : Bool) → p < l.pattern → get_or l.signs p None ≡ Some s → g.S.Texts.sign l.texts l.item p ≡ Some s
