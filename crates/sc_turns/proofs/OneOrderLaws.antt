-- There is one order in which things are told in turn.
use Rattle.std.proofs.Common.{◌≡◌, ◌<◌, ◌≤◌, ◌+◌, ◌⊎◌, inl, inr, ⊎_elim, ℕ, zero, suc, List, [], ◌∷◌, ◌++◌, length, take, get_or, refl, sym, ap, ◌∙◌, subst, arith}
use Rattle.sc_lists.specs.Members.{Has}
use Rattle.sc_turns.specs.Turns.{IsReady, IsNext, InTurn, begins, goes_on}

one_longer : (xs : List ℕ) (x : ℕ) → length (xs ++ x ∷ []) ≡ suc (length xs)
one_longer [] x = refl
one_longer (y ∷ xs) x = ap suc (one_longer xs x)

front : (xs : List ℕ) (x i : ℕ) → i ≤ length xs → take i (xs ++ x ∷ []) ≡ take i xs
front [] x zero h = refl
front [] x (suc i) h = absurd (omega (arith, h))
front (y ∷ xs) x zero h = refl
front (y ∷ xs) x (suc i) h = ap (λ z. y ∷ z) (front xs x i (omega (arith, h)))

whole_front : (xs : List ℕ) → take (length xs) xs ≡ xs
whole_front [] = refl
whole_front (x ∷ xs) = ap (λ z. x ∷ z) (whole_front xs)

before_last : (xs : List ℕ) (x i : ℕ) → i < length xs → get_or (xs ++ x ∷ []) i 0 ≡ get_or xs i 0
before_last [] x i h = absurd (omega (arith, h))
before_last (y ∷ xs) x zero h = refl
before_last (y ∷ xs) x (suc i) h = before_last xs x i (omega (arith, h))

last_is : (xs : List ℕ) (x : ℕ) → get_or (xs ++ x ∷ []) (length xs) 0 ≡ x
last_is [] x = refl
last_is (y ∷ xs) x = last_is xs x

one_more : (xs : List ℕ) (i : ℕ) → i < length xs → take (suc i) xs ≡ take i xs ++ get_or xs i 0 ∷ []
one_more [] i h = absurd (omega (arith, h))
one_more (y ∷ xs) zero h = refl
one_more (y ∷ xs) (suc i) h = ap (λ z. y ∷ z) (one_more xs i (omega (arith, h)))

same_or_less : (i n : ℕ) → i < suc n → (i < n) ⊎ (i ≡ n)
same_or_less zero zero h = inr refl
same_or_less zero (suc n) h = inl (omega arith)
same_or_less (suc i) zero h = absurd (omega (arith, h))
same_or_less (suc i) (suc n) h = ⊎_elim (λ k. inl (omega (arith, k))) (λ e. inr (ap suc e)) (same_or_less i n (omega (arith, h)))

next_step : (parts : List (List ℕ)) (told : List ℕ) (x i : ℕ) → IsNext parts told x → (i < length told → IsNext parts (take i told) (get_or told i 0))
    → (i < length told) ⊎ (i ≡ length told) → IsNext parts (take i (told ++ x ∷ [])) (get_or (told ++ x ∷ []) i 0)
next_step parts told x i n before (inl less) =
    subst (λ z. IsNext parts z (get_or (told ++ x ∷ []) i 0)) (sym (front told x i (omega (arith, less)))) (subst (IsNext parts (take i told)) (sym (before_last told x i less)) (before less))
next_step parts told x i n before (inr e) =
    let taken : take i (told ++ x ∷ []) ≡ told = ap (λ z. take z (told ++ x ∷ [])) e ∙ front told x (length told) (omega arith) ∙ whole_front told in
    let here : get_or (told ++ x ∷ []) i 0 ≡ x = ap (λ z. get_or (told ++ x ∷ []) z 0) e ∙ last_is told x in
    subst (λ z. IsNext parts z (get_or (told ++ x ∷ []) i 0)) (sym taken) (subst (IsNext parts told) (sym here) n)

-- what stands at each place is the next after those before it
next_at : (parts : List (List ℕ)) (all : List ℕ) → InTurn parts all → (i : ℕ) → i < length all → IsNext parts (take i all) (get_or all i 0)
next_at parts _ begins i h = absurd (omega (arith, h))
next_at parts _ (goes_on told x t n) i h =
    next_step parts told x i n (λ less. next_at parts told t i less) (same_or_less i (length told) (subst (λ z. i < z) (one_longer told x) h))

one_next : (parts : List (List ℕ)) (told : List ℕ) (x y : ℕ) → IsNext parts told x → IsNext parts told y → x ≡ y
one_next parts told x y m n = omega (arith, m.least y n.ready, n.least x m.ready)

-- the shorter of two begins the longer
begins_as : (parts : List (List ℕ)) (a b : List ℕ) → InTurn parts a → InTurn parts b → length a ≤ length b → a ≡ take (length a) b
begins_as parts _ b begins u h = refl
begins_as parts _ b (goes_on told x t n) u h =
    let longer : suc (length told) ≤ length b = subst (λ z. z ≤ length b) (one_longer told x) h in
    let same : told ≡ take (length told) b = begins_as parts told b t u (omega (arith, longer)) in
    let next : IsNext parts told (get_or b (length told) 0) = subst (λ z. IsNext parts z (get_or b (length told) 0)) (sym same) (next_at parts b u (length told) longer) in
    let e : x ≡ get_or b (length told) 0 = one_next parts told x (get_or b (length told) 0) n next in
    ap (λ z. z ++ x ∷ []) same ∙ ap (λ z. take (length told) b ++ z ∷ []) e ∙ sym (one_more b (length told) longer) ∙ sym (ap (λ z. take z b) (one_longer told x))

less_or_not : (m n : ℕ) → (m ≤ n) ⊎ (n < m)
less_or_not zero n = inl (omega arith)
less_or_not (suc m) zero = inr (omega arith)
less_or_not (suc m) (suc n) = ⊎_elim (λ k. inl (omega (arith, k))) (λ k. inr (omega (arith, k))) (less_or_not m n)

-- and no shorter one has each thing
as_long : (parts : List (List ℕ)) (a b : List ℕ) → InTurn parts a → InTurn parts b → ((x : ℕ) → x < length parts → Has a x) → length a ≤ length b → length b ≤ length a
as_long parts a b t u all h = ⊎_elim (λ k. k) (λ less. absurd (no less)) (less_or_not (length b) (length a))
  where
    no : length a < length b → ⊥
    no less =
        let next = next_at parts b u (length a) less in
        let same : a ≡ take (length a) b = begins_as parts a b t u h in
        next.ready.new (subst (λ z. Has z (get_or b (length a) 0)) same (all (get_or b (length a) 0) next.ready.within))

ordered : (parts : List (List ℕ)) (a b : List ℕ) → InTurn parts a → InTurn parts b → ((x : ℕ) → x < length parts → Has a x) → length a ≤ length b → a ≡ b
ordered parts a b t u all h =
    let e : length a ≡ length b = omega (arith, h, as_long parts a b t u all h) in
    begins_as parts a b t u h ∙ ap (λ z. take z b) e ∙ whole_front b

pub one_order : (parts : List (List ℕ)) (a b : List ℕ) → InTurn parts a → InTurn parts b
    → ((x : ℕ) → x < length parts → Has a x) → ((x : ℕ) → x < length parts → Has b x) → a ≡ b
one_order parts a b t u all every =
    ⊎_elim (λ h. ordered parts a b t u all h) (λ h. sym (ordered parts b a u t every (omega (arith, h)))) (less_or_not (length a) (length b))
