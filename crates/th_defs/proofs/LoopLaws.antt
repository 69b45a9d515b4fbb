-- Clauses of an item one after the other: those that are kept, and which of them is falsified.
use Rattle.std.proofs.Common.{◌≡◌, ◌<◌, ◌≤◌, ◌+◌, ◌-◌, ◌^◌, ℕ, zero, suc, Bool, true, false, not, cond, List, [], ◌∷◌, ◌++◌, take, drop, length, get_or, Some, refl, sym, ap, ◌∙◌, arith, length-append}
use Rattle.std.proofs.Math.Seq.{get_or-append_seam}
use Rattle.std.proofs.lemmas.List.Elements.{filter-append}
use Rattle.std.specs.List.{slice_index_or}
use Rattle.sc_clauses.specs.Assignments.{Assignment, falsifies}
use Rattle.sc_clauses.specs.Clauses.{Clause}
use Rattle.sc_footprint.specs.Definitions.{is_tautology, kept}
use Rattle.th_defs.specs.Places.{IsFirstFalsified}

-- ---- fronts of lists

-- what stands at a place, between what is before it and what is after
split_at : {X : Type 0} (xs : List X) (i : ℕ) (d : X) → i < length xs → xs ≡ take i xs ++ get_or xs i d ∷ drop (i + 1) xs
split_at [] i d h = absurd (omega (arith, h))
split_at (x ∷ xs) zero d h = refl
split_at {X} (x ∷ xs) (suc i) d h = let e : suc i + 1 ≡ suc (i + 1) = omega arith in rw e (ap (λ (ys : List X). x ∷ ys) (split_at xs i d (omega (arith, h))))

-- ---- clauses that are kept

abbrev test : Clause → Bool
test c = not (is_tautology c)

-- what is kept, at the number of one that is
pub kept_split : (cs : List Clause) (k : ℕ) → k < length cs → is_tautology (get_or cs k []) ≡ false → kept cs ≡ kept (take k cs) ++ get_or cs k [] ∷ kept (drop (k + 1) cs)
kept_split cs k h e =
    ap kept (split_at cs k [] h) ∙ filter-append test (take k cs) (get_or cs k [] ∷ drop (k + 1) cs) ∙ ap (λ (b : Bool). kept (take k cs) ++ cond (not b) (get_or cs k [] ∷ kept (drop (k + 1) cs)) (kept (drop (k + 1) cs))) e

pub kept_at : (cs : List Clause) (k : ℕ) → k < length cs → is_tautology (get_or cs k []) ≡ false → slice_index_or (kept cs) (length (kept (take k cs))) [] ≡ get_or cs k []
kept_at cs k h e = ap (λ (ds : List Clause). get_or ds (length (kept (take k cs))) []) (kept_split cs k h e) ∙ get_or-append_seam (kept (take k cs)) (get_or cs k []) (kept (drop (k + 1) cs)) []

pub kept_inside : (cs : List Clause) (k : ℕ) → k < length cs → is_tautology (get_or cs k []) ≡ false → length (kept (take k cs)) < length (kept cs)
kept_inside cs k h e =
    let a = ap length (kept_split cs k h e) in
    let b = length-append (kept (take k cs)) (get_or cs k [] ∷ kept (drop (k + 1) cs)) in
    omega (arith, a, b)

-- no more are kept than there are
pub kept_fewer : (cs : List Clause) → length (kept cs) ≤ length cs
kept_fewer [] = omega arith
kept_fewer (c ∷ cs) = by (test c) (kept_fewer cs)
  where
    by : (b : Bool) → length (kept cs) ≤ length cs → length (cond b (c ∷ kept cs) (kept cs)) ≤ length (c ∷ cs)
    by true h = omega (arith, h)
    by false h = omega (arith, h)

take_fewer : {X : Type 0} (xs : List X) (k : ℕ) → length (take k xs) ≤ k
take_fewer [] zero = omega arith
take_fewer [] (suc k) = omega arith
take_fewer (x ∷ xs) zero = omega arith
take_fewer (x ∷ xs) (suc k) = let e = take_fewer xs k in omega (arith, e)

pub kept_below : (cs : List Clause) (k : ℕ) → length (kept (take k cs)) ≤ k
kept_below cs k = let a = kept_fewer (take k cs) in let b = take_fewer cs k in omega (arith, a, b)

-- ---- numbers of those that are kept

module _ (cs : List Clause) (k : ℕ) (h : k < length cs) (e : is_tautology (get_or cs k []) ≡ false) where
  -- the one at a place, by how many are kept before it
  pub kept_here : (n : ℕ) → n ≡ length (kept (take k cs)) → slice_index_or (kept cs) (n + 1 - 1) [] ≡ get_or cs k []
  kept_here n is = let back : n + 1 - 1 ≡ length (kept (take k cs)) = omega (arith, is) in ap (λ (i : ℕ). slice_index_or (kept cs) i []) back ∙ kept_at cs k h e

  pub falsified_here : (m : Assignment) (n : ℕ) → n ≡ length (kept (take k cs)) → falsifies m (get_or cs k []) ≡ true → IsFirstFalsified m (kept cs) (Some (n + 1))
  falsified_here m n is found = (
    omega arith,
    (let below = kept_inside cs k h e in omega (arith, below, is)),
    ap (falsifies m) (kept_here n is) ∙ found,
  )

  pub place_here : (left number : ℕ) → left ≡ 1 → left + length (kept (take k cs)) ≡ number → get_or cs k [] ≡ slice_index_or (kept cs) (number - 1) []
  place_here left number one all =
      let back : number - 1 ≡ length (kept (take k cs)) = omega (arith, one, all) in
      sym (ap (λ (i : ℕ). slice_index_or (kept cs) i []) back ∙ kept_at cs k h e)

pub few_kept : (cs : List Clause) (n k end : ℕ) → n ≡ length (kept (take k cs)) → k < end → end < 2 ^ 64 → n + 1 < 2 ^ 64
few_kept cs n k end is below small = let e = kept_below cs k in omega (arith, e, is, below, small)
