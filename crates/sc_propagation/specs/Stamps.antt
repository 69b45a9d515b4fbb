-- What a stamp says.
use Rattle.std.specs.Prelude.{◌==◌, ℕ, Bool}

-- it is the present one
abbrev pub is_marked : ℕ → ℕ → Bool
is_marked present stamp = stamp == present
