-- Tables of what is known of two items, and of how many texts there are, for tests.
use Rattle.std.specs.Prelude.{◌&&◌, ◌||◌, ◌==◌, ◌<◌, ◌+◌, ℕ, Bool, true, false, List, [], ◌∷◌, Option, Some, None, get_or, if◌then◌else◌}
use Rattle.sc_falsified.specs.Crowds.{Signs}

-- two items, and a truth
abbrev pub Row : Type 0
Row = ℕ × ℕ × Bool

-- the row is of these two
abbrev pub is_of : Row → ℕ → ℕ → Bool
is_of r i j = (r.0 == i) && (r.1 == j)

-- what a table says of two
abbrev pub told : List Row → ℕ → ℕ → Option Bool
told [] i j = None
told (r ∷ rs) i j = if is_of r i j then Some r.2 else told rs i j

-- and what it says of them in either order
abbrev pub told_either : List Row → ℕ → ℕ → Option Bool
told_either [] i j = None
told_either (r ∷ rs) i j = if is_of r i j || is_of r j i then Some r.2 else told_either rs i j

-- whether two are equal: each equals itself
abbrev pub equal_by : List Row → ℕ → ℕ → Option Bool
equal_by rs i j = if i == j then Some true else told_either rs i j

-- ---- texts, of which so many match the one pattern and so many don't

-- how many have a sign
abbrev pub with_sign : ℕ → ℕ → Option Bool → ℕ
with_sign matching other None = matching + other
with_sign matching other (Some true) = matching
with_sign matching other (Some false) = other

abbrev pub are_few : ℕ → ℕ → Signs → ℕ → Type 0
are_few matching other v k = with_sign matching other (get_or v 0 None) < k

abbrev pub sign_in : Option (Option Bool) → Option Bool
sign_in None = None
sign_in (Some sign) = sign
