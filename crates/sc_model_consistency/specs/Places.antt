-- Terms that go with closed ones past all places that a log can hold. No public promise speaks of it.
use Rattle.std.specs.Prelude.{◌≡◌, ℕ, Bool, false, is_some, refl}
use Rattle.sc_footprint.specs.Problems.{Posed, companion}

-- of a closed term's number
abbrev pub goes_past : Posed → ℕ → Bool
goes_past p n = is_some (companion p n 999999999999999999)

-- ---- worked rows

-- closed terms are counted from 1
pub nothing_at_zero : (p : Posed) → goes_past p 0 ≡ false
nothing_at_zero p = refl
