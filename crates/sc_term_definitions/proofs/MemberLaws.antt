-- What is in a list, and numbers below a bound.
use Rattle.std.proofs.Common.{◌≡◌, ℕ, zero, suc, ◌+◌, ◌<◌, ◌≤◌, inl, inr, List, [], ◌∷◌, ◌++◌, take, get_or, length, refl, ap, ◌∙◌, arith}
use Rattle.std.proofs.Common.{add-one}
use Rattle.std.proofs.Math.Seq.{take-suc}
use Rattle.std.specs.List.{AllByRecursion}
use Rattle.sc_lists.specs.Members.{Has}

-- ---- by places

-- ---- the first of a list

pub take_sub : (i : ℕ) (ns : List ℕ) (n : ℕ) → Has (take i ns) n → Has ns n
take_sub zero ns n h = absurd h
take_sub (suc i) [] n h = absurd h
take_sub (suc i) (m ∷ ms) n (inl e) = inl e
take_sub (suc i) (m ∷ ms) n (inr h) = inr (take_sub i ms n h)

pub take_whole : (ns : List ℕ) (i : ℕ) → length ns ≤ i → take i ns ≡ ns
take_whole [] zero h = refl
take_whole [] (suc i) h = refl
take_whole (n ∷ ns) zero h = absurd (omega arith)
take_whole (n ∷ ns) (suc i) h = ap (λ (l : List ℕ). n ∷ l) (take_whole ns i (omega arith))

pub take_next : (ns : List ℕ) (i n : ℕ) → i < length ns → get_or ns i n ≡ n → take (i + 1) ns ≡ take i ns ++ n ∷ []
take_next ns i n h e = rw add-one (take-suc ns i n h) ∙ ap (λ (m : ℕ). take i ns ++ m ∷ []) e

-- ---- numbers below a bound

pub within_later : (m n : ℕ) → m ≤ n → (ns : List ℕ) → AllByRecursion (λ k. k < m) ns → AllByRecursion (λ k. k < n) ns
within_later m n h [] k = tt
within_later m n h (x ∷ xs) k = (omega (arith, k.0), within_later m n h xs k.1)

pub within_append : (l : ℕ) (ns ms : List ℕ) → AllByRecursion (λ n. n < l) ns → AllByRecursion (λ n. n < l) ms → AllByRecursion (λ n. n < l) (ns ++ ms)
within_append l [] ms h k = k
within_append l (n ∷ ns) ms h k = (h.0, within_append l ns ms h.1 k)

pub within_push : (l m : ℕ) (ns : List ℕ) → AllByRecursion (λ n. n < l) ns → m < l → AllByRecursion (λ n. n < l) (ns ++ m ∷ [])
within_push l m ns h k = within_append l ns (m ∷ []) h (k, tt)

pub within_Has : (l : ℕ) (ns : List ℕ) → AllByRecursion (λ n. n < l) ns → (n : ℕ) → Has ns n → n < l
within_Has l [] h n k = absurd k
within_Has l (m ∷ ms) h n (inl e) = omega (arith, h.0)
within_Has l (m ∷ ms) h n (inr k) = within_Has l ms h.1 n k

-- what is read at a place, whatever stands for what is past the end
pub read_at : (ns : List ℕ) (i : ℕ) → i < length ns → get_or ns i 0 ≡ get_or ns i (get_or ns i 0)
read_at [] i h = absurd (omega arith)
read_at (n ∷ ns) zero h = refl
read_at (n ∷ ns) (suc i) h = read_at ns i (omega arith)

pub within_at : (l : ℕ) (ns : List ℕ) → AllByRecursion (λ n. n < l) ns → (i n : ℕ) → i < length ns → n ≡ get_or ns i n → n < l
within_at l [] h i n k e = absurd (omega arith)
within_at l (m ∷ ms) h zero n k e = omega (arith, h.0, e)
within_at l (m ∷ ms) h (suc i) n k e = within_at l ms h.1 i n (omega arith) e
