-- For private clauses: two ascending lists, walked together once.
use Rattle.std.specs.Prelude.{List, [], ◌∷◌, Bool, true, false, ◌&&◌, ◌||◌, if◌then◌else◌}
use Rattle.std.specs.declared.cmp.Ordering.{Ordering}
use Rattle.std.specs.Ordering.{is_lt, is_eq}

-- what is left of a list once the members below x are passed
abbrev pub from : {K : Type 0} → (K → K → Ordering) → K → List K → List K
from R x [] = []
from R x (y ∷ ys) = if is_lt (R y x) then from R x ys else y ∷ ys

abbrev pub starts_with : {K : Type 0} → (K → K → Ordering) → K → List K → Bool
starts_with R x [] = false
starts_with R x (y ∷ ys) = is_eq (R y x)

-- each of the first list is met in the second, which is walked from one to the next
abbrev pub meets_all : {K : Type 0} → (K → K → Ordering) → List K → List K → Bool
meets_all R [] ys = true
meets_all R (x ∷ xs) ys = starts_with R x (from R x ys) && meets_all R xs (from R x ys)

-- one of the first list is met in the second
abbrev pub meets_one : {K : Type 0} → (K → K → Ordering) → List K → List K → Bool
meets_one R [] ys = false
meets_one R (x ∷ xs) ys = starts_with R x (from R x ys) || meets_one R xs (from R x ys)
