-- Runs: the characters of a pattern before its first star. No public promise speaks of them.
use Rattle.std.specs.Prelude.{◌≡◌, ℕ, List, [], ◌∷◌, ◌++◌, map, ⊤}
use Rattle.sc_pattern.specs.declared.part.Part.{Part}
use Rattle.sc_pattern.specs.declared.part.Part.TheVariants.{Star, Char}

-- a star comes first, or there is no part
abbrev pub BeginsNoRun : List Part → Type 0
BeginsNoRun [] = ⊤
BeginsNoRun (Star ∷ parts) = ⊤
BeginsNoRun (Char c ∷ parts) = ⊥

-- a pattern and a text both begin with these characters, and this is left of the two
pub record IsAfter (parts : List Part) (text : List ℕ) (left : List Part) (rest : List ℕ) : Type 0 where
  pub run : List ℕ
  pub parts_are : parts ≡ map Char run ++ left
  pub text_is : text ≡ run ++ rest

-- and they are all before the pattern's first star
pub record IsAfterRun (parts : List Part) (text : List ℕ) (left : List Part) (rest : List ℕ) : Type 0 where
  pub after : IsAfter parts text left rest
  pub stops : BeginsNoRun left
