-- Members of lists and of clauses.
use Rattle.std.proofs.Common.{◌≡◌, ◌≢◌, ◌⊎◌, inl, inr, ⊎_elim, zero, suc, List, [], ◌∷◌, true, length, refl, sym, ◌∙◌, subst, arith}
use Rattle.std.specs.List.{Contains}
use Rattle.std.proofs.lemmas.Bool.{or_cases, or_left, or_right}
use Rattle.sc_lists.proofs.ListLaws.{contains_first, contains_nothing}
use Rattle.sc_laws.proofs.BoolLaws.{and_first, and_second}
use Rattle.sc_clauses.specs.Clauses.{Clause, lit_eq, is_in, contained}
use Rattle.sc_clauses.specs.declared.lit.Lit.{Lit}
use Rattle.sc_clauses.proofs.LitLaws.{lit_eq-true, lit_eq-itself}
use Rattle.sc_propagation.proofs.WatchedLitLaws.{lit-cases}

pub tail-has : {X : Type 0} (x y : X) (xs : List X) → Contains xs y → Contains (x ∷ xs) y
tail-has x y xs (k, lt, e) = (suc k, omega arith, e)

pub cons-cases : {X : Type 0} (x y : X) (xs : List X) → Contains (x ∷ xs) y → (x ≡ y) ⊎ Contains xs y
cons-cases x y xs (zero, lt, e) = inl e
cons-cases x y xs (suc k, lt, e) = inr (k, omega arith, e)

pub nil-of : {X : Type 0} (xs : List X) → length xs ≡ 0 → xs ≡ []
nil-of [] e = refl
nil-of (x ∷ xs) e = absurd (omega arith)

-- a literal that the test finds is in the list
pub found : (xs : List Lit) (m : Lit) → is_in xs m ≡ true → Contains xs m
found [] m e = absurd cc
found (x ∷ xs) m e =
    ⊎_elim
    (λ (t : lit_eq m x ≡ true). subst (λ (w : Lit). Contains (x ∷ xs) w) (sym (lit_eq-true m x t)) (contains_first x xs))
    (λ (t : is_in xs m ≡ true). tail-has x m xs (found xs m t))
    (or_cases (lit_eq m x) (is_in xs m) e)

-- a literal in the list is found
pub has-in : (xs : List Lit) (m : Lit) → Contains xs m → is_in xs m ≡ true
has-in [] m has = absurd (contains_nothing m has)
has-in (x ∷ xs) m has =
    ⊎_elim
    (λ (s : x ≡ m). or_left (lit_eq m x) (is_in xs m) (subst (λ (w : Lit). lit_eq m w ≡ true) (sym s) (lit_eq-itself m)))
    (λ (old : Contains xs m). or_right (lit_eq m x) (is_in xs m) (has-in xs m old))
    (cons-cases x m xs has)

-- each literal of the one clause is in the other
pub contained-has : (c d : Clause) → contained c d ≡ true → (m : Lit) → Contains c m → Contains d m
contained-has [] d e m has = absurd (contains_nothing m has)
contained-has (x ∷ c) d e m has =
    ⊎_elim
    (λ (s : x ≡ m). subst (λ (w : Lit). Contains d w) s (found d x (and_first (is_in d x) (contained c d) e)))
    (λ (old : Contains c m). contained-has c d (and_second (is_in d x) (contained c d) e) m old)
    (cons-cases x m c has)

pub has-or-not : (c : Clause) (l : Lit) → Contains c l ⊎ ((m : Lit) → Contains c m → m ≢ l)
has-or-not [] l = inr (λ m has e. contains_nothing m has)
has-or-not (x ∷ c) l =
    ⊎_elim
    (λ (s : x ≡ l). inl (subst (λ (w : Lit). Contains (x ∷ c) w) s (contains_first x c)))
    (λ (ne : x ≢ l).
    ⊎_elim
    (λ (old : Contains c l). inl (tail-has x l c old))
    (λ (none : (m : Lit) → Contains c m → m ≢ l).
    inr (λ m has. ⊎_elim (λ (s : x ≡ m). λ (e : m ≡ l). ne (s ∙ e)) (λ (old : Contains c m). none m old) (cons-cases x m c has)))
    (has-or-not c l))
    (lit-cases x l)
