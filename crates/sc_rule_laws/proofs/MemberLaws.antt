-- Members of lists, by their places and where they pass a test.
use Rattle.std.proofs.Common.{◌≡◌, ◌||◌, ◌&&◌, Bool, true, false, not, cond, inl, inr, List, [], ◌∷◌, filter, find, Some, refl, sym, ap, ◌∙◌}
use Rattle.std.specs.List.{list_all, list_any}
use Rattle.std.specs.Cmp.Derive.{both_true}
use Rattle.std.proofs.lemmas.Bool.{or_left, or_right}
use Rattle.sc_lists.specs.Members.{Has}
use Rattle.sc_laws.proofs.BoolLaws.{and_first, and_second, never}

-- ---- by places

-- ---- tests of all and of any

pub all_has : {X : Type 0} (p : X → Bool) (xs : List X) (x : X) → list_all p xs ≡ true → Has xs x → p x ≡ true
all_has p [] x e h = absurd h
all_has p (y ∷ ys) x e (inl is) = ap p (sym is) ∙ and_first (p y) (list_all p ys) e
all_has p (y ∷ ys) x e (inr later) = all_has p ys x (and_second (p y) (list_all p ys) e) later

pub has_all : {X : Type 0} (p : X → Bool) (xs : List X) → ((x : X) → Has xs x → p x ≡ true) → list_all p xs ≡ true
has_all p [] h = refl
has_all p (y ∷ ys) h = both_true (h y (inl refl)) (has_all p ys (λ x k. h x (inr k)))

pub has_any : {X : Type 0} (p : X → Bool) (xs : List X) (x : X) → Has xs x → p x ≡ true → list_any p xs ≡ true
has_any p [] x h e = absurd h
has_any p (y ∷ ys) x (inl is) e = or_left (p y) (list_any p ys) (ap p is ∙ e)
has_any p (y ∷ ys) x (inr later) e = or_right (p y) (list_any p ys) (has_any p ys x later e)

-- ---- the first that passes

pub record IsFirst {X : Type 0} (p : X → Bool) (xs : List X) : Type 0 where
  pub found : X
  pub is : find p xs ≡ Some found
  pub there : Has xs found
  pub passes : p found ≡ true

first_by : {X : Type 0} (b : Bool) (p : X → Bool) (y : X) (ys : List X) → p y ≡ b → (list_any p ys ≡ true → IsFirst p ys) → (b || list_any p ys) ≡ true → IsFirst p (y ∷ ys)
first_by true p y ys f later e = record { found = y; is = ap (λ (b : Bool). cond b (Some y) (find p ys)) f; there = inl refl; passes = f }
first_by false p y ys f later e =
    let next = later e in
    record { found = next.found; is = ap (λ (b : Bool). cond b (Some y) (find p ys)) f ∙ next.is; there = inr next.there; passes = next.passes }

pub any_first : {X : Type 0} (p : X → Bool) (xs : List X) → list_any p xs ≡ true → IsFirst p xs
any_first p [] e = absurd cc
any_first p (y ∷ ys) e = first_by (p y) p y ys refl (any_first p ys) e

fails_by : (b c d : Bool) → (c ≡ false → d ≡ true) → (b && c) ≡ false → (not b || d) ≡ true
fails_by true c d later e = later e
fails_by false c d later e = refl

-- where not all pass, one doesn't
not_all : {X : Type 0} (p : X → Bool) (xs : List X) → list_all p xs ≡ false → list_any (λ x. not (p x)) xs ≡ true
not_all p [] e = never _ e
not_all p (y ∷ ys) e = fails_by (p y) (list_all p ys) (list_any (λ x. not (p x)) ys) (not_all p ys) e

pub fails_first : {X : Type 0} (p : X → Bool) (xs : List X) → list_all p xs ≡ false → IsFirst (λ x. not (p x)) xs
fails_first p xs e = any_first (λ x. not (p x)) xs (not_all p xs e)

-- ---- those that pass

passes_by : {X : Type 0} (b : Bool) (p : X → Bool) (y x : X) (ys : List X) → p y ≡ b → Has (cond b (y ∷ ys) ys) x → (Has ys x → p x ≡ true) → p x ≡ true
passes_by true p y x ys e (inl is) later = ap p (sym is) ∙ e
passes_by true p y x ys e (inr more) later = later more
passes_by false p y x ys e h later = later h

pub filter_passes : {X : Type 0} (p : X → Bool) (xs : List X) (x : X) → Has (filter p xs) x → p x ≡ true
filter_passes p [] x h = absurd h
filter_passes p (y ∷ xs) x h = passes_by (p y) p y x (filter p xs) refl h (filter_passes p xs x)

within_by : {X : Type 0} (b : Bool) (y x : X) (ys zs : List X) → Has (cond b (y ∷ ys) ys) x → (Has ys x → Has zs x) → Has (y ∷ zs) x
within_by true y x ys zs (inl is) later = inl is
within_by true y x ys zs (inr more) later = inr (later more)
within_by false y x ys zs h later = inr (later h)

pub filter_within : {X : Type 0} (p : X → Bool) (xs : List X) (x : X) → Has (filter p xs) x → Has xs x
filter_within p [] x h = absurd h
filter_within p (y ∷ xs) x h = within_by (p y) y x (filter p xs) xs h (filter_within p xs x)

kept_by : {X : Type 0} (b : Bool) (p : X → Bool) (y x : X) (ys zs : List X) → p y ≡ b → p x ≡ true → Has (y ∷ zs) x → (Has zs x → Has ys x) → Has (cond b (y ∷ ys) ys) x
kept_by true p y x ys zs e f (inl is) later = inl is
kept_by true p y x ys zs e f (inr more) later = inr (later more)
kept_by false p y x ys zs e f (inl is) later = never _ (sym f ∙ ap p (sym is) ∙ e)
kept_by false p y x ys zs e f (inr more) later = later more

pub filter_kept : {X : Type 0} (p : X → Bool) (xs : List X) (x : X) → Has xs x → p x ≡ true → Has (filter p xs) x
filter_kept p [] x h e = absurd h
filter_kept p (y ∷ xs) x h e = kept_by (p y) p y x (filter p xs) xs refl e h (λ more. filter_kept p xs x more e)
