-- For private clauses: a key that comes twice in a row.
use Rattle.std.specs.Prelude.{ℕ, List, [], ◌∷◌, Option, Some, None, if◌then◌else◌}
use Rattle.std.specs.Str.{bytes_eq}

-- the first key that is the one before it again, after this one
abbrev pub repeated_after : List ℕ → List (List ℕ) → Option (List ℕ)
repeated_after last [] = None
repeated_after last (key ∷ keys) = if bytes_eq key last then Some last else repeated_after key keys

abbrev pub first_repeated : List (List ℕ) → Option (List ℕ)
first_repeated [] = None
first_repeated (key ∷ keys) = repeated_after key keys
