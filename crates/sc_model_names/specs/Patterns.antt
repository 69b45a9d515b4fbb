-- The patterns that terms ask of strings.
use Rattle.std.specs.Prelude.{◌≡◌, ◌&&◌, ◌==◌, ◌++◌, refl, Bool, true, false, List, [], ◌∷◌, Option, Some, None, if◌then◌else◌}
use Rattle.std.specs.List.{list_any}
use Rattle.sc_pattern.specs.declared.part.Part.{Part}
use Rattle.sc_pattern.specs.declared.part.Part.TheVariants.{Star, Char}
use Rattle.sc_sorts.specs.declared.node.UnaryOp.TheVariants.{Like}
use Rattle.sc_terms.specs.Trees.{Tree, one}
use Rattle.sc_rule_laws.specs.Strings.{Pattern, asked_of}

abbrev pub same_part : Part → Part → Bool
same_part Star Star = true
same_part (Char c) (Char d) = c == d
same_part _ _ = false

abbrev pub same_pattern : Pattern → Pattern → Bool
same_pattern [] [] = true
same_pattern (a ∷ p) (b ∷ q) = same_part a b && same_pattern p q
same_pattern _ _ = false

-- a pattern that isn't there yet goes last
abbrev pub put_pattern : List Pattern → Pattern → List Pattern
put_pattern qs p = if list_any (same_pattern p) qs then qs else qs ++ p ∷ []

abbrev pub put_if : List Pattern → Option Pattern → List Pattern
put_if qs None = qs
put_if qs (Some p) = put_pattern qs p

-- those of some terms are put, one after the other
unfoldable pub put_patterns : List Pattern → List Tree → List Pattern
put_patterns qs [] = qs
put_patterns qs (t ∷ ts) = put_patterns (put_if qs (asked_of t)) ts

-- ---- worked rows

-- a pattern that is asked of two strings is put once
pub asked_twice : (x y : Tree)
    → put_patterns [] (one (Like (Star ∷ Char 97 ∷ [])) x ∷ one (Like (Star ∷ Char 97 ∷ [])) y ∷ [])
    ≡ (Star ∷ Char 97 ∷ []) ∷ []
unfolding put_patterns
asked_twice x y = refl
