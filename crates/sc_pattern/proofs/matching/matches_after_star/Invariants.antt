use Rattle.std.proofs.Common.{◌↔◌, ◌∷◌, ◌+◌, length}
use denote.Text.{Utf8}
use denote.Shadow.{shadow}
use Rattle.std.specs.Str.{chars}
use Rattle.sc_pattern.specs.declared.part.Part.TheVariants.{Star}
use Rattle.sc_pattern.specs.Language.{IsMatch}
use Rattle.sc_pattern.proofs.matching.matches_after_star.Given as goal

abbrev pub invariant-loop-left : goal.invariant-loop-left
invariant-loop-left l =
    shadow (Utf8 l.rest) × (IsMatch (Star ∷ l.fn.after) (chars l.fn.text) ↔ IsMatch (Star ∷ l.parts) (chars l.rest))

abbrev pub decreases-loop-left : goal.decreases-loop-left
decreases-loop-left l = length l.parts + length (chars l.rest)
