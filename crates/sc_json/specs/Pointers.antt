-- Where in a file a value stands: a JSON pointer (RFC 6901).
use Rattle.std.specs.Prelude.{ℕ, List, ◌∷◌, [], ◌++◌, ◌==◌, if◌then◌else◌, codes}
use Rattle.std.specs.List.{flat_map}

-- `~0` for `~`, `~1` for `/`, and any other byte itself
unfoldable pub escaped : ℕ → List ℕ
escaped b = if b == 126 then codes "~0" else (if b == 47 then codes "~1" else b ∷ [])

abbrev pub escaped_key : List ℕ → List ℕ
escaped_key = flat_map escaped

-- the pointer that goes to the member of this name first, and then on
abbrev pub below : List ℕ → List ℕ → List ℕ
below key path = 47 ∷ (escaped_key key ++ path)
