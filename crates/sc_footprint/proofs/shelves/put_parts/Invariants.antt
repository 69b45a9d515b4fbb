use Rattle.std.proofs.Common.{◌≡◌, ℕ, List, map, length}
use Rattle.sc_closure.specs.Following.{put_new}
use Rattle.sc_footprint.proofs.shelves.put_parts.Given as goal

abbrev pub invariant-loop-part : goal.invariant-loop-part
invariant-loop-part l = put_new l.candidates.keys (map (λ (p : List ℕ × ℕ). p.1) l.rest) ≡ put_new l.initial.candidates.keys (map (λ (p : List ℕ × ℕ). p.1) l.parts)

abbrev pub decreases-loop-part : goal.decreases-loop-part
decreases-loop-part l = length l.rest
