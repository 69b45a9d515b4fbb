-- The patterns that are asked, and their signs. No public promise speaks of them.
use Rattle.std.specs.Prelude.{Bool, List, [], ◌∷◌, Some, None}
use Rattle.sc_rule_laws.specs.Strings.{Pattern, Signs}

-- the patterns that have a sign
abbrev pub asked_patterns : List Pattern → Signs → List Pattern
asked_patterns [] v = []
asked_patterns (q ∷ qs) [] = []
asked_patterns (q ∷ qs) (Some sign ∷ v) = q ∷ asked_patterns qs v
asked_patterns (q ∷ qs) (None ∷ v) = asked_patterns qs v

-- the signs that are asked
abbrev pub asked_signs : Signs → List Bool
asked_signs [] = []
asked_signs (Some sign ∷ v) = sign ∷ asked_signs v
asked_signs (None ∷ v) = asked_signs v
