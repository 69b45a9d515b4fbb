-- How many numbers pass a test.
use Rattle.std.proofs.Common.{◌≡◌, ℕ, zero, suc, ◌<◌, ◌≤◌, ◌+◌, ◌==◌, ◌||◌, Bool, true, false, List, [], ◌∷◌, length, ◌⊎◌, inl, inr, ⊎_elim, refl, sym, ap, subst, arith, eq-eqb}
use Rattle.std.proofs.lemmas.Bool.{cases_lt, cases_eq, eqb-true, or_cases, or_left, or_right}
use Rattle.std.proofs.lemmas.List.Elements.{All-head, All-tail}
use Rattle.std.specs.Prelude.{⊤}
use Rattle.std.specs.List.{All}
use Rattle.sc_falsified.specs.Crowds.{one_if, count_from}

one_less : (a b : Bool) → (a ≡ true → b ≡ true) → one_if a ≤ one_if b
one_less true b h = rw (h refl) (omega arith)
one_less false b h = omega arith

pub count_less : (s t : ℕ → Bool) → ((i : ℕ) → s i ≡ true → t i ≡ true) → (at m : ℕ) → count_from s at m ≤ count_from t at m
count_less s t h at zero = omega arith
count_less s t h at (suc m) =
    let first = one_less (s at) (t at) (h at) in
    let rest = count_less s t h (suc at) m in
    omega arith

-- one more number passes the second test
pub count_more : (s t : ℕ → Bool) (k : ℕ) → ((i : ℕ) → s i ≡ true → t i ≡ true) → s k ≡ false → t k ≡ true → (at m : ℕ) → at ≤ k → k < at + m
    → count_from s at m + 1 ≤ count_from t at m
count_more s t k h before now at zero low high = absurd (omega arith)
count_more s t k h before now at (suc m) low high =
    ⊎_elim
    (λ (e : at ≡ k).
    let no_ : s at ≡ false = subst (λ i. s i ≡ false) (sym e) before in
    let yes_ : t at ≡ true = subst (λ i. t i ≡ true) (sym e) now in
    let rest = count_less s t h (suc at) m in
    let left : one_if (s at) ≡ 0 = ap one_if no_ in
    let right : one_if (t at) ≡ 1 = ap one_if yes_ in
    omega arith)
    (λ (other : at ≡ k → ⊥).
    let first = one_less (s at) (t at) (h at) in
    let above : suc at ≤ k = ⊎_elim (λ (l : at < k). omega arith) (λ (g : k ≤ at). absurd (other (omega arith))) (cases_lt at k) in
    let rest = count_more s t k h before now (suc at) m above (omega arith) in
    omega arith)
    (cases_eq at k)

-- all of m numbers pass
pub count_all : (at m : ℕ) → count_from (λ i. true) at m ≡ m
count_all at zero = refl
count_all at (suc m) = let rest = count_all (suc at) m in omega arith

-- ---- the members of a list

abbrev pub is_in : List ℕ → ℕ → Bool
is_in [] i = false
is_in (t ∷ ts) i = (i == t) || is_in ts i

abbrev pub AreDistinct : List ℕ → Type 0
AreDistinct [] = ⊤
AreDistinct (t ∷ ts) = (is_in ts t ≡ false) × AreDistinct ts

in_head : (t : ℕ) (ts : List ℕ) → is_in (t ∷ ts) t ≡ true
in_head t ts = or_left (t == t) (is_in ts t) (eq-eqb t t refl)

in_tail : (t : ℕ) (ts : List ℕ) (i : ℕ) → is_in ts i ≡ true → is_in (t ∷ ts) i ≡ true
in_tail t ts i e = or_right (i == t) (is_in ts i) e

pub members : (n : ℕ) (ts : List ℕ) → All (λ t. t < n) ts → AreDistinct ts → length ts ≤ count_from (is_in ts) 0 n
members n [] h d = omega arith
members n (t ∷ ts) h d =
    let rest = members n ts (All-tail (λ (i : ℕ). i < n) t ts h) d.1 in
    let less : t < n = All-head (λ (i : ℕ). i < n) t ts h in
    let more = count_more (is_in ts) (is_in (t ∷ ts)) t (λ i e. in_tail t ts i e) d.0 (in_head t ts) 0 n (omega arith) (omega arith) in
    omega arith

-- what holds of each element holds of each number in the list
pub all_in : (P : ℕ → Type 0) (ts : List ℕ) (i : ℕ) → All P ts → is_in ts i ≡ true → P i
all_in P [] i h e = absurd cc
all_in P (t ∷ ts) i h e =
    ⊎_elim (λ k. subst P (sym (eqb-true i t k)) (All-head P t ts h)) (λ k. all_in P ts i (All-tail P t ts h) k) (or_cases (i == t) (is_in ts i) e)

pub in_cases : (t : ℕ) (ts : List ℕ) (i : ℕ) → is_in (t ∷ ts) i ≡ true → (i ≡ t) ⊎ (is_in ts i ≡ true)
in_cases t ts i e = ⊎_elim (λ k. inl (eqb-true i t k)) inr (or_cases (i == t) (is_in ts i) e)
