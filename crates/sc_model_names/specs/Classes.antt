-- One term of each class of equal terms.
use Rattle.std.specs.Prelude.{◌≡◌, ◌++◌, List, [], ◌∷◌, if◌then◌else◌, refl}
use Rattle.std.specs.List.{list_any}
use Rattle.sc_terms.specs.Trees.{Tree}
use Rattle.sc_model_laws.specs.Assignments.{Assignment}
use Rattle.sc_model_laws.specs.Names.{are_equal}

-- a term that equals none of those found goes last
abbrev pub put_class : Assignment → List Tree → Tree → List Tree
put_class m found x = if list_any (are_equal m x) found then found else found ++ x ∷ []

unfoldable pub classes : Assignment → List Tree → List Tree → List Tree
classes m found [] = found
classes m found (x ∷ xs) = classes m (put_class m found x) xs

-- ---- worked rows

pub first_class : (m : Assignment) (x : Tree) → classes m [] (x ∷ []) ≡ x ∷ []
unfolding classes
first_class m x = refl
