-- Some of the policies of a set.
use Rattle.std.specs.Prelude.{List, [], ◌∷◌, Bool, if◌then◌else◌}

-- those at the places that are marked, in order
abbrev pub selected : {X : Type 0} → List Bool → List X → List X
selected [] xs = []
selected (m ∷ ms) [] = []
selected (m ∷ ms) (x ∷ xs) = if m then x ∷ selected ms xs else selected ms xs
