-- The texts that a pattern of `like` matches. A text stands here as the list of its characters, which are Unicode
-- scalar values: `chars text`, the one list whose UTF-8 is the text. There is one, since a text is the UTF-8 of some
-- list of scalar values, and no two such lists have the same UTF-8.
use Rattle.std.specs.Prelude.{◌≡◌, ◌==◌, ◌&&◌, ◌||◌, ℕ, List, [], ◌∷◌, ◌++◌, Bool, true, false}
use Rattle.sc_pattern.specs.declared.part.Part.{Part}
use Rattle.sc_pattern.specs.declared.part.Part.TheVariants.{Star, Char}

-- the empty pattern matches the empty text; a character matches itself, and what follows it matches the rest; a star
-- matches any characters or none, and what follows it matches the rest
unfoldable pub IsMatch : List Part → List ℕ → Type 0
IsMatch [] text = text ≡ []
IsMatch (Char c ∷ parts) text = (rest : List ℕ) × (text ≡ c ∷ rest) × IsMatch parts rest
IsMatch (Star ∷ parts) text = (taken rest : List ℕ) × (text ≡ taken ++ rest) × IsMatch parts rest

-- ---- the same as a test, which definitions can compute with

abbrev pub is_end : List ℕ → Bool
is_end [] = true
is_end (c ∷ rest) = false

-- this character comes first, and what follows it passes
abbrev pub behind : ℕ → (List ℕ → Bool) → List ℕ → Bool
behind c test [] = false
behind c test (d ∷ rest) = (d == c) && test rest

-- the text passes, or what is left of it behind some of its characters
abbrev pub somewhere : (List ℕ → Bool) → List ℕ → Bool
somewhere test [] = test []
somewhere test (c ∷ rest) = test (c ∷ rest) || somewhere test rest

unfoldable pub is_match : List Part → List ℕ → Bool
is_match [] text = is_end text
is_match (Char c ∷ parts) text = behind c (is_match parts) text
is_match (Star ∷ parts) text = somewhere (is_match parts) text
