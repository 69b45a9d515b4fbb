-- How many items have a label: at least three, if three that breach transitivity have it.
use Rattle.std.proofs.Common.{◌≡◌, ◌≢◌, ℕ, zero, suc, ◌<◌, ◌≤◌, ◌+◌, ◌==◌, Bool, true, false, List, [], ◌∷◌, length, take, get_or, Some, refl, sym, ap, ◌∙◌, subst, arith, eq-eqb, ⊎_elim}
use Rattle.std.proofs.lemmas.Bool.{cases_lt}
use Rattle.std.proofs.lemmas.List.{get_or_past}
use Rattle.sc_falsified.specs.Truths.{Truth}
use Rattle.sc_falsified.specs.Classes.{AreLabels}
use Rattle.sc_falsified.specs.Chains.{NoneFrom, AreSizes, count_of}
use Rattle.sc_falsified.specs.Crowds.{one_if}

one_most : (b : Bool) → one_if b ≤ 1
one_most true = omega arith
one_most false = omega arith

one_same : (x l : ℕ) → x ≡ l → one_if (x == l) ≡ 1
one_same x l e = ap one_if (eq-eqb x l e)

next : (xs : List ℕ) (at l : ℕ) → at < length xs → count_of (take (suc at) xs) l ≡ one_if (get_or xs at 0 == l) + count_of (take at xs) l
next [] at l less = absurd (omega arith)
next (x ∷ xs) zero l less = refl
next (x ∷ xs) (suc at) l less = let rest = next xs at l (omega arith) in omega arith

-- one more is counted
count_next : (xs : List ℕ) (at l : ℕ) → at < length xs → count_of (take (at + 1) xs) l ≡ one_if (get_or xs at 0 == l) + count_of (take at xs) l
count_next xs at l less = let more : at + 1 ≡ suc at = omega arith in ap (λ (n : ℕ). count_of (take n xs) l) more ∙ next xs at l less

front : (n : ℕ) (xs : List ℕ) (l : ℕ) → count_of (take n xs) l ≤ n
front zero xs l = omega arith
front (suc n) [] l = omega arith
front (suc n) (x ∷ xs) l = omega (arith, one_most (x == l), front n xs l)

module _ (labels sizes : List ℕ) (at : ℕ) (sized : length labels ≤ length sizes) (less : at < length labels) (counted : (k : ℕ) → k < length sizes → get_or sizes k 0 ≡ count_of (take at labels) k) where
  -- a label is counted no more often than there are items
  pub room : get_or sizes (get_or labels at 0) 0 < length sizes
  room =
      let l : ℕ = get_or labels at 0 in
      ⊎_elim (λ (within : l < length sizes). omega (arith, counted l within, front at labels l, less, sized))
      (λ (past : length sizes ≤ l). omega (arith, get_or_past sizes l 0 past, less, sized)) (cases_lt l (length sizes))

  pub counted_next : (more : List ℕ) → ((l : ℕ) → l < length sizes → get_or more l 0 ≡ one_if (get_or labels at 0 == l) + get_or sizes l 0) → (k : ℕ) → k < length sizes → get_or more k 0 ≡ count_of (take (at + 1) labels) k
  counted_next more h k within =
      h k within ∙ ap (λ (n : ℕ). one_if (get_or labels at 0 == k) + n) (counted k within) ∙ sym (count_next labels at k less)

-- ---- items with a label

module _ (l : ℕ) where
  one : (xs : List ℕ) (i : ℕ) → i < length xs → get_or xs i 0 ≡ l → 1 ≤ count_of xs l
  one [] i less e = absurd (omega arith)
  one (x ∷ xs) zero less e = let here = one_same x l e in omega arith
  one (x ∷ xs) (suc i) less e = let rest = one xs i (omega arith) e in omega arith

  two : (xs : List ℕ) (i j : ℕ) → i ≢ j → i < length xs → j < length xs → get_or xs i 0 ≡ l → get_or xs j 0 ≡ l → 2 ≤ count_of xs l
  two [] i j apart less under e f = absurd (omega arith)
  two (x ∷ xs) zero zero apart less under e f = absurd (apart refl)
  two (x ∷ xs) zero (suc j) apart less under e f = let here = one_same x l e in let rest = one xs j (omega arith) f in omega arith
  two (x ∷ xs) (suc i) zero apart less under e f = let here = one_same x l f in let rest = one xs i (omega arith) e in omega arith
  two (x ∷ xs) (suc i) (suc j) apart less under e f = let rest = two xs i j (λ same. apart (ap suc same)) (omega arith) (omega arith) e f in omega arith

  three : (xs : List ℕ) (i j k : ℕ) → i ≢ j → i ≢ k → j ≢ k → i < length xs → j < length xs → k < length xs → get_or xs i 0 ≡ l → get_or xs j 0 ≡ l → get_or xs k 0 ≡ l → 3 ≤ count_of xs l
  three [] i j k a b c less under below e f g = absurd (omega arith)
  three (x ∷ xs) zero zero k a b c less under below e f g = absurd (a refl)
  three (x ∷ xs) zero (suc j) zero a b c less under below e f g = absurd (b refl)
  three (x ∷ xs) zero (suc j) (suc k) a b c less under below e f g =
      let here = one_same x l e in let rest = two xs j k (λ same. c (ap suc same)) (omega arith) (omega arith) f g in omega arith
  three (x ∷ xs) (suc i) zero zero a b c less under below e f g = absurd (c refl)
  three (x ∷ xs) (suc i) zero (suc k) a b c less under below e f g =
      let here = one_same x l f in let rest = two xs i k (λ same. b (ap suc same)) (omega arith) (omega arith) e g in omega arith
  three (x ∷ xs) (suc i) (suc j) zero a b c less under below e f g =
      let here = one_same x l g in let rest = two xs i j (λ same. a (ap suc same)) (omega arith) (omega arith) e f in omega arith
  three (x ∷ xs) (suc i) (suc j) (suc k) a b c less under below e f g =
      let rest = three xs i j k (λ same. a (ap suc same)) (λ same. b (ap suc same)) (λ same. c (ap suc same)) (omega arith) (omega arith) (omega arith) e f g in omega arith

-- an item whose label fewer than three have is in no breach
pub few_from : (truth : Truth) (n : ℕ) (labels sizes : List ℕ) (a : ℕ) → AreLabels truth n labels → AreSizes labels sizes → a < n → get_or labels a 0 < length sizes → get_or sizes (get_or labels a 0) 0 ≤ 2 → NoneFrom truth n n a
few_from truth n labels sizes a h counted bound within few c after below apart b less first second =
    let size = h.sized in
    let other : a ≢ c = λ same. absurd (omega arith) in
    let not_first : a ≢ b = λ same. let never : Some true ≡ Some false = sym (subst (λ k. truth k c ≡ Some true) (sym same) second) ∙ apart in absurd cc in
    let not_last : b ≢ c = λ same. let never : Some true ≡ Some false = sym (subst (λ k. truth a k ≡ Some true) same first) ∙ apart in absurd cc in
    let middle : get_or labels b 0 ≡ get_or labels a 0 = sym (h.joined a b bound less first) in
    let last : get_or labels c 0 ≡ get_or labels a 0 = sym (h.joined b c less below second) ∙ middle in
    let count = three (get_or labels a 0) labels a b c not_first other not_last (omega arith) (omega arith) (omega arith) refl middle last in
    let is = counted.at (get_or labels a 0) within in
    absurd (omega arith)
