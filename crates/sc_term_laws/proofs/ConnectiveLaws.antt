-- Connectives of two truth values that are known.
use Rattle.std.proofs.Common.{◌≡◌, Bool, true, false, ◌&&◌, ◌||◌, Option, ap}
use Rattle.sc_terms.specs.Values.{yes, seen, and_value, and_seen, or_value, or_seen}
use Rattle.sc_terms.proofs.FoldValues.{seen_yes}

pub both_yes : (a b : Bool) → and_value (yes a) (yes b) ≡ yes (a && b)
unfolding and_value
both_yes true b = ap (λ (o : Option Bool). and_seen o (seen (yes b)) (yes true) (yes b)) (seen_yes true)
both_yes false b = ap (λ (o : Option Bool). and_seen o (seen (yes b)) (yes false) (yes b)) (seen_yes false)

pub either_yes : (a b : Bool) → or_value (yes a) (yes b) ≡ yes (a || b)
unfolding or_value
either_yes true b = ap (λ (o : Option Bool). or_seen o (seen (yes b)) (yes true) (yes b)) (seen_yes true)
either_yes false b = ap (λ (o : Option Bool). or_seen o (seen (yes b)) (yes false) (yes b)) (seen_yes false)
