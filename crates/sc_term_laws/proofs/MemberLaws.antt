-- Members that pass a test, and members of what a list is mapped to.
use Rattle.std.proofs.Common.{◌≡◌, ◌||◌, List, [], ◌∷◌, Bool, true, false, Contains, refl}
use Rattle.std.specs.List.{list_any}
use Rattle.sc_lists.proofs.ListLaws.{contains_first, contains_rest}

-- one that passes a test
any_by : {X : Type 0} (p : X → Bool) (x : X) (xs : List X) (b : Bool) → p x ≡ b → (b || list_any p xs) ≡ true → (list_any p xs ≡ true → (y : X) × Contains xs y × (p y ≡ true)) → (y : X) × Contains (x ∷ xs) y × (p y ≡ true)
any_by p x xs true e h later = (x, contains_first x xs, e)
any_by p x xs false e h later = let there = later h in (there.0, contains_rest x xs there.0 there.1, there.2)

pub any_found : {X : Type 0} (p : X → Bool) (xs : List X) → list_any p xs ≡ true → (x : X) × Contains xs x × (p x ≡ true)
any_found p [] h = absurd cc
any_found p (x ∷ xs) h = any_by p x xs (p x) refl h (any_found p xs)
