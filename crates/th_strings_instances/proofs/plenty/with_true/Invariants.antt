use Rattle.std.proofs.Common.{◌≡◌, ◌∷◌, ◌++◌, true, length}
use Rattle.th_strings_instances.proofs.plenty.with_true.Given as goal

abbrev pub invariant-loop-sign : goal.invariant-loop-sign
invariant-loop-sign l = l.all.items ++ l.rest ≡ true ∷ l.fn.signs

abbrev pub decreases-loop-sign : goal.decreases-loop-sign
decreases-loop-sign l = length l.rest
