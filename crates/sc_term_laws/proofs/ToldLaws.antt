-- What one test tells is told by another of the same fact.
use Rattle.std.proofs.Common.{◌≡◌, ◌↔◌, cond, ◌||◌, ◌⊎◌, inl, inr, ◌==◌, List, [], ◌∷◌, length, Bool, true, false, Option, Some, None, option_map, is_some, find, Result, IsTrue, IfOk, refl, sym, ap, ◌∙◌}
use Rattle.std.specs.List.{list_any}
use Rattle.std.proofs.Math.Dec.{eqb-suc-zero}
use Rattle.std.proofs.lemmas.Bool.{false≢true}
use Rattle.std.proofs.lemmas.Result.{IfOk-weaker}

pub by_fact : {E P Q : Type 0} (r : Result Bool E) → P ↔ Q → IfOk r (λ b. IsTrue b ↔ P) → IfOk r (λ b. IsTrue b ↔ Q)
by_fact r same told = IfOk-weaker r _ _ (λ b h. (λ t. same.0 (h.0 t), λ q. h.1 (same.1 q))) told

pub by_test : {E Q : Type 0} (r : Result Bool E) (t : Bool) → (t ≡ true) ↔ Q → IfOk r (λ b. b ≡ t) → IfOk r (λ b. IsTrue b ↔ Q)
by_test r t same told = IfOk-weaker r _ _ (λ b h. (λ e. same.0 (sym h ∙ e), λ q. h ∙ same.1 q)) told

-- of two facts the first doesn't hold, or it does
pub first_fails : {P Q : Type 0} (a : Bool) → (IsTrue a ↔ P) → a ≡ false → IsTrue false ↔ (P × Q)
first_fails a p e = (λ h. absurd cc, λ both. let t : a ≡ true = p.1 both.0 in cc)

pub first_holds : {P Q : Type 0} (a b : Bool) → (IsTrue a ↔ P) → a ≡ true → (IsTrue b ↔ Q) → IsTrue b ↔ (P × Q)
first_holds a b p e q = (λ h. (p.0 e, q.0 h), λ both. q.1 both.1)

pub first_with : {P : Type 0} (a b t : Bool) → (IsTrue a ↔ P) → a ≡ true → b ≡ t → IsTrue b ↔ (P × IsTrue t)
first_with a b t p e is = (λ h. (p.0 e, sym is ∙ h), λ both. is ∙ both.1)

-- of one of two facts the first holds, or it doesn't
pub either_first : {P Q : Type 0} (a : Bool) → (IsTrue a ↔ P) → a ≡ true → IsTrue true ↔ (P ⊎ Q)
either_first a p e = (λ h. inl (p.0 e), λ q. refl)

pub either_second : {P Q : Type 0} (a b : Bool) → (IsTrue a ↔ P) → a ≡ false → (IsTrue b ↔ Q) → IsTrue b ↔ (P ⊎ Q)
either_second a b p e q = (
  λ h. inr (q.0 h),
  λ some. elim some [
    | inl x ↦ absurd (false≢true (sym e ∙ p.1 x))
    | inr y ↦ q.1 y
  ],
)

-- an empty list
pub empty_is : {X : Type 0} (xs : List X) → (length xs == 0) ≡ true → xs ≡ []
empty_is [] h = refl
empty_is (x ∷ xs) h = let both : false ≡ true = sym (eqb-suc-zero (length xs)) ∙ h in absurd (false≢true both)

pub empty_told : {X : Type 0} (xs : List X) (b : Bool) → b ≡ (length xs == 0) → IsTrue b ↔ (xs ≡ [])
empty_told xs b is = (λ h. empty_is xs (sym is ∙ h), λ e. is ∙ ap (λ (ys : List _). length ys == 0) e)

-- what is seen of an option
pub some_map : {X Y : Type 0} (f : X → Y) (o : Option X) → is_some (option_map f o) ≡ is_some o
some_map f None = refl
some_map f (Some x) = refl

find_by : {X : Type 0} (p : X → Bool) (x : X) (xs : List X) (b : Bool) → (b || list_any p xs) ≡ true → (list_any p xs ≡ true → is_some (find p xs) ≡ true) → is_some (cond b (Some x) (find p xs)) ≡ true
find_by p x xs true h later = refl
find_by p x xs false h later = later h

pub found_some : {X : Type 0} (p : X → Bool) (xs : List X) → list_any p xs ≡ true → is_some (find p xs) ≡ true
found_some p [] h = cc
found_some p (x ∷ xs) h = find_by p x xs (p x) h (found_some p xs)
