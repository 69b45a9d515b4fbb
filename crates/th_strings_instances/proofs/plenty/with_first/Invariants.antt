use Rattle.std.proofs.Common.{◌≡◌, ◌∷◌, ◌++◌, length}
use Rattle.th_strings_instances.proofs.plenty.with_first.Given as goal

abbrev pub invariant-loop-pattern : goal.invariant-loop-pattern
invariant-loop-pattern l = l.all.items ++ l.rest ≡ l.fn.first ∷ l.fn.patterns

abbrev pub decreases-loop-pattern : goal.decreases-loop-pattern
decreases-loop-pattern l = length l.rest
