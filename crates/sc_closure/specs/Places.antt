-- The place of a number in a list, counted from 1.
use Rattle.std.specs.Prelude.{◌==◌, ◌+◌, ℕ, List, [], ◌∷◌, if◌then◌else◌}

abbrev pub one_more : ℕ → ℕ
one_more n = if n == 0 then 0 else n + 1

-- the place of a number, counted from 1; 0 where it isn't there
abbrev pub place_among : List ℕ → ℕ → ℕ
place_among [] n = 0
place_among (m ∷ ms) n = if m == n then 1 else one_more (place_among ms n)
