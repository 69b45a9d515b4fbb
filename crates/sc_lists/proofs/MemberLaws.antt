-- What is in a list that is put together from others.
use Rattle.std.proofs.Common.{Bool, true, false, ◌||◌, nat_eq, Some, slice_get, ◌≡◌, ◌⊎◌, inl, inr, ⊎_elim, List, [], ◌∷◌, ◌++◌, map, flat_map, refl, sym, ap, subst, ℕ, zero, suc, ◌<◌, length, get_or, Contains, arith}
use Rattle.std.proofs.lemmas.Bool.{eqb-true, eqb-false}
use Rattle.std.specs.Bool.{MatchBool}
use Rattle.std.specs.List.{AllByRecursion, list_any}
use Rattle.sc_lists.specs.Members.{Has}

pub Has-left : {X : Type 0} (xs ys : List X) (x : X) → Has xs x → Has (xs ++ ys) x
Has-left [] ys x h = absurd h
Has-left (z ∷ zs) ys x (inl e) = inl e
Has-left (z ∷ zs) ys x (inr h) = inr (Has-left zs ys x h)

pub Has-right : {X : Type 0} (xs ys : List X) (x : X) → Has ys x → Has (xs ++ ys) x
Has-right [] ys x h = h
Has-right (z ∷ zs) ys x h = inr (Has-right zs ys x h)

pub Has-append : {X : Type 0} (xs ys : List X) (x : X) → Has (xs ++ ys) x → Has xs x ⊎ Has ys x
Has-append [] ys x h = inr h
Has-append (z ∷ zs) ys x (inl e) = inl (inl e)
Has-append (z ∷ zs) ys x (inr h) = ⊎_elim (λ k. inl (inr k)) inr (Has-append zs ys x h)

pub Has-last : {X : Type 0} (xs : List X) (x : X) → Has (xs ++ x ∷ []) x
Has-last [] x = inl refl
Has-last (z ∷ zs) x = inr (Has-last zs x)

pub Has-push : {X : Type 0} (xs : List X) (y x : X) → Has (xs ++ y ∷ []) x → Has xs x ⊎ (y ≡ x)
Has-push [] y x (inl e) = inr e
Has-push [] y x (inr h) = absurd h
Has-push (z ∷ zs) y x (inl e) = inl (inl e)
Has-push (z ∷ zs) y x (inr h) = ⊎_elim (λ k. inl (inr k)) inr (Has-push zs y x h)

pub Has-map : {X Y : Type 0} (f : X → Y) (xs : List X) (x : X) → Has xs x → Has (map f xs) (f x)
Has-map f [] x h = absurd h
Has-map f (z ∷ zs) x (inl e) = inl (ap f e)
Has-map f (z ∷ zs) x (inr h) = inr (Has-map f zs x h)

pub map-Has : {X Y : Type 0} (f : X → Y) (xs : List X) (y : Y) → Has (map f xs) y → (x : X) × Has xs x × (f x ≡ y)
map-Has f [] y h = absurd h
map-Has f (z ∷ zs) y (inl e) = (z, inl refl, e)
map-Has f (z ∷ zs) y (inr h) = let k = map-Has f zs y h in (k.0, inr k.1, k.2)

pub Has-flat_map : {X Y : Type 0} (f : X → List Y) (xs : List X) (x : X) (y : Y) → Has xs x → Has (f x) y → Has (flat_map f xs) y
Has-flat_map f [] x y h k = absurd h
Has-flat_map f (z ∷ zs) x y (inl e) k = Has-left (f z) (flat_map f zs) y (subst (λ w. Has (f w) y) (sym e) k)
Has-flat_map f (z ∷ zs) x y (inr h) k = Has-right (f z) (flat_map f zs) y (Has-flat_map f zs x y h k)

pub flat_map-Has : {X Y : Type 0} (f : X → List Y) (xs : List X) (y : Y) → Has (flat_map f xs) y → (x : X) × Has xs x × Has (f x) y
flat_map-Has f [] y h = absurd h
flat_map-Has f (z ∷ zs) y h =
    ⊎_elim (λ k. (z, inl refl, k)) (λ k. let r = flat_map-Has f zs y k in (r.0, inr r.1, r.2)) (Has-append (f z) (flat_map f zs) y h)

pub Has-at : {X : Type 0} (xs : List X) (i : ℕ) (x : X) → i < length xs → get_or xs i x ≡ x → Has xs x
Has-at [] i x h e = absurd (omega arith)
Has-at (y ∷ ys) zero x h e = inl e
Has-at (y ∷ ys) (suc i) x h e = inr (Has-at ys i x (omega arith) e)

pub Has-from_Contains : {X : Type 0} (xs : List X) (x : X) → Contains xs x → Has xs x
Has-from_Contains xs x h = Has-at xs h.0 x h.1 h.2

pub Contains-from_Has : {X : Type 0} (xs : List X) (x : X) → Has xs x → Contains xs x
Contains-from_Has [] x h = absurd h
Contains-from_Has (y ∷ ys) x (inl e) = (0, omega arith, e)
Contains-from_Has (y ∷ ys) x (inr h) = let k = Contains-from_Has ys x h in (suc k.0, omega (arith, k.1), k.2)

-- the place of a member
pub Has-place : {X : Type 0} (xs : List X) (x : X) → Has xs x → (i : ℕ) × (i < length xs) × (slice_get xs i ≡ Some x)
Has-place [] x h = absurd h
Has-place (y ∷ ys) x (inl e) = (0, omega arith, ap Some e)
Has-place (y ∷ ys) x (inr h) = let r = Has-place ys x h in (suc r.0, omega (arith, r.1), r.2)

-- what holds of all holds of each, and the other way round
pub AllByRecursion-Has : {X : Type 0} (P : X → Type 0) (xs : List X) (x : X) → AllByRecursion P xs → Has xs x → P x
AllByRecursion-Has P [] x h k = absurd k
AllByRecursion-Has P (y ∷ ys) x h (inl e) = subst P e h.0
AllByRecursion-Has P (y ∷ ys) x h (inr k) = AllByRecursion-Has P ys x h.1 k

pub Has-AllByRecursion : {X : Type 0} (P : X → Type 0) (xs : List X) → ((x : X) → Has xs x → P x) → AllByRecursion P xs
Has-AllByRecursion P [] h = tt
Has-AllByRecursion P (x ∷ xs) h = (h x (inl refl), Has-AllByRecursion P xs (λ y k. h y (inr k)))

-- a test of numbers tells whether one is in a list
any_step : (t : Bool) (xs : List ℕ) (x c : ℕ) (b : Bool) → nat_eq x c ≡ t → MatchBool b (Has xs c) (¬ (Has xs c)) → MatchBool (t || b) (Has (x ∷ xs) c) (¬ (Has (x ∷ xs) c))
any_step true xs x c b is h = inl (eqb-true x c is)
any_step false xs x c true is h = inr h
any_step false xs x c false is h = λ has. elim has [ inl e ↦ eqb-false x c is e | inr k ↦ h k ]

pub list_any-Has : (xs : List ℕ) (c : ℕ) → MatchBool (list_any (λ y. nat_eq y c) xs) (Has xs c) (¬ (Has xs c))
list_any-Has [] c = λ h. h
list_any-Has (x ∷ xs) c = any_step (nat_eq x c) xs x c (list_any (λ y. nat_eq y c) xs) refl (list_any-Has xs c)
