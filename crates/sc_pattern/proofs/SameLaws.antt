-- Patterns that are told to be one are one.
use Rattle.std.proofs.Common.{◌≡◌, List, [], ◌∷◌, true, refl, ap}
use Rattle.std.proofs.lemmas.Bool.{and_parts, false≢true}
use Rattle.std.specs.Cmp.{unsigned_Decides}
use Rattle.std.specs.Cmp.Lexicographic.{pointwise}
use Rattle.sc_pattern.specs.contracts.part.PartPartialEq.TheImpl.{ghosts as parts}
use Rattle.sc_pattern.specs.contracts.pattern.PatternPartialEq.TheImpl.{ghosts as patterns}
use Rattle.sc_pattern.specs.declared.part.Part.{Part}
use Rattle.sc_pattern.specs.declared.part.Part.TheVariants as part

part_same : (a b : Part) → parts.eq a b ≡ true → a ≡ b
part_same part.Star part.Star h = refl
part_same part.Star (part.Char d) h = absurd (false≢true h)
part_same (part.Char c) part.Star h = absurd (false≢true h)
part_same (part.Char c) (part.Char d) h = ap part.Char ((unsigned_Decides c d).0 h)

pub pattern_same : (q r : List Part) → patterns.eq q r ≡ true → q ≡ r
pattern_same [] [] h = refl
pattern_same [] (b ∷ r) h = absurd (false≢true h)
pattern_same (a ∷ q) [] h = absurd (false≢true h)
pattern_same (a ∷ q) (b ∷ r) h =
    let both = and_parts (parts.eq a b) (pointwise parts.eq q r) h in
    let first = part_same a b both.0 in
    let rest = pattern_same q r both.1 in
    λ i. first i ∷ rest i
