-- Paths: identifiers joined by `::`.
use Rattle.std.specs.Prelude.{◌≡◌, ◌==◌, ◌&&◌, ◌||◌, ℕ, ◌+◌, ◌<◌, ◌≤◌, List, [], ◌∷◌, ◌++◌, length, take, Bool, true, false, codes, if◌then◌else◌, ⊤}
use Rattle.std.specs.List.{list_all}
use Rattle.sc_lists.specs.declared.fault.Fault.{Fault}
use Rattle.sc_lists.specs.declared.fault.Fault.TheVariants.{Told, NoMemory}
use Rattle.sc_names.specs.declared.path.BadName.{BadName}
use Rattle.sc_names.specs.Names.{is_ident}

-- an identifier is a path, and so is an identifier, `::` and a path
pub data IsPath : List ℕ → Type 0 where
  ident : (w : List ℕ) → is_ident w ≡ true → IsPath w
  joined : (w p : List ℕ) → is_ident w ≡ true → IsPath p → IsPath (w ++ (codes "::" ++ p))

-- some path begins with these bytes
abbrev pub BeginsPath : List ℕ → Type 0
BeginsPath bytes = (rest : List ℕ) × IsPath (bytes ++ rest)

-- the first byte of a text that no path has there: the least `at` such that no path begins with the text's first `at
-- + 1` bytes; or the text's length, where a path begins with all of it, but it is none itself
pub record IsBadAt (text : List ℕ) (at : ℕ) : Type 0 where
  pub within : at ≤ length text
  pub before : (n : ℕ) → n ≤ at → BeginsPath (take n text)
  pub stops : at < length text → ¬ BeginsPath (take (at + 1) text)
  pub unfinished : at ≡ length text → ¬ IsPath text

-- what it says of a text that it was refused as a path with this fault
abbrev pub Refuses : List ℕ → Fault BadName → Type 0
Refuses text (Told bad) = IsBadAt text bad.at
Refuses text NoMemory = ⊤

abbrev pub is_separator : ℕ → ℕ → Bool
is_separator c d = (c == 58) && (d == 58)

-- c stands before the first of some texts
abbrev pub with_first : ℕ → List (List ℕ) → List (List ℕ)
with_first c [] = []
with_first c (part ∷ parts) = (c ∷ part) ∷ parts

-- what stands between the `::` of a text
unfoldable pub parts : List ℕ → List (List ℕ)
parts [] = [] ∷ []
parts (c ∷ []) = (c ∷ []) ∷ []
parts (c ∷ d ∷ cs) = if is_separator c d then [] ∷ parts cs else with_first c (parts (d ∷ cs))

-- whether a text is a path: all its parts are identifiers
abbrev pub is_path : List ℕ → Bool
is_path text = list_all is_ident (parts text)

-- whether a `::` stands in a text
unfoldable pub is_qualified : List ℕ → Bool
is_qualified [] = false
is_qualified (c ∷ []) = false
is_qualified (c ∷ d ∷ cs) = is_separator c d || is_qualified (d ∷ cs)
