-- Outcomes of typing, step by step: what is asked of an outcome holds where it holds of all that may come next.
use Rattle.std.proofs.Common.{◌≡◌, Bool, true, false, if◌then◌else◌, Option, Some, None, Result, Ok, Err, IfOk, refl}
use Rattle.sc_ast.specs.declared.place.Place.{Place}
use Rattle.sc_typed.specs.declared.fault.TypeFault.{TypeFault}
use Rattle.sc_typed.specs.declared.fault.TypeRule.{TypeRule}
use Rattle.sc_typed.specs.Outcomes.{◌>>=◌, check, or_fails}

pub after : {A B : Type 0} (o : Result A TypeFault) (f : A → Result B TypeFault) (Q : B → Type 0) → ((a : A) → IfOk (f a) Q) → IfOk (o >>= f) Q
after (Ok a) f Q k = k a
after (Err fault) f Q k = tt

pub through : {A B : Type 0} (P : A → Type 0) (o : Result A TypeFault) (f : A → Result B TypeFault) (Q : B → Type 0) → IfOk o P → ((a : A) → P a → IfOk (f a) Q) → IfOk (o >>= f) Q
through P (Ok a) f Q h k = k a h
through P (Err fault) f Q h k = tt

pub in_either : {B : Type 0} (b : Bool) (x y : Result B TypeFault) (Q : B → Type 0) → (b ≡ true → IfOk x Q) → (b ≡ false → IfOk y Q) → IfOk (if b then x else y) Q
in_either true x y Q h k = h refl
in_either false x y Q h k = k refl

-- a test that has passed
pub checked : {B : Type 0} (b : Bool) (rule : TypeRule) (place : Place) (f : Unit {0} → Result B TypeFault) (Q : B → Type 0) → (b ≡ true → IfOk (f tt) Q) → IfOk (check b rule place >>= f) Q
checked true rule place f Q k = k refl
checked false rule place f Q k = tt

-- what has been found
pub found : {A B : Type 0} (o : Option A) (rule : TypeRule) (place : Place) (f : A → Result B TypeFault) (Q : B → Type 0) → ((a : A) → o ≡ Some a → IfOk (f a) Q) → IfOk (or_fails rule place o >>= f) Q
found (Some a) rule place f Q k = k a refl
found None rule place f Q k = tt

pub weaker : {A : Type 0} (P Q : A → Type 0) (o : Result A TypeFault) → ((a : A) → P a → Q a) → IfOk o P → IfOk o Q
weaker P Q (Ok a) k h = k a h
weaker P Q (Err fault) k h = tt

-- what holds of an outcome for each i holds for each i of the outcome
pub swapped : {I A : Type 0} (P : I → A → Type 0) (o : Result A TypeFault) → ((i : I) → IfOk o (P i)) → IfOk o (λ a. (i : I) → P i a)
swapped P (Ok a) h = h
swapped P (Err fault) h = tt
