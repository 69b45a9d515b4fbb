-- Which elements a list has once one is taken out.
use Rattle.std.proofs.Common.{◌≡◌, ◌≢◌, ◌⊎◌, ⊎_elim, ℕ, ◌+◌, ◌-◌, ◌<◌, ◌≤◌, List, length, get_or, sym, ap, ◌∙◌, subst, arith, get_or-set_same, get_or-set_other}
use Rattle.std.specs.List.{Contains, swap_remove}
use Rattle.std.proofs.Math.ListN.{set, length-set}
use Rattle.std.proofs.lemmas.Bool.{cases_eq}
use Rattle.std.proofs.lemmas.List.{get_or_default, get_or-take, length-take-le}

stands : (xs : List ℕ) (k i : ℕ) → k < length xs → get_or xs k 0 ≡ i → Contains xs i
stands xs k i lt e = (k, lt, get_or_default xs k i 0 lt ∙ e)

module _ (xs : List ℕ) (at : ℕ) (lt : at < length xs) where
  set-length : length (set xs at (get_or xs (length xs - 1) 0)) ≡ length xs
  set-length = length-set xs at (get_or xs (length xs - 1) 0)

  pub removed-length : length (swap_remove xs at 0) + 1 ≡ length xs
  removed-length =
      let e = set-length in
      let k : length (swap_remove xs at 0) ≡ length xs - 1 = length-take-le (length xs - 1) (set xs at (get_or xs (length xs - 1) 0)) (omega arith) in
      omega arith

  removed-at : (j : ℕ) → j < length xs - 1 → get_or (swap_remove xs at 0) j 0 ≡ get_or (set xs at (get_or xs (length xs - 1) 0)) j 0
  removed-at j less = get_or-take (length xs - 1) (set xs at (get_or xs (length xs - 1) 0)) j 0 less

  -- an element behind the place is still there, at the place or behind it
  pub removed-kept : (j i : ℕ) → at ≤ j → j ≢ at → j < length xs → get_or xs j 0 ≡ i → (k : ℕ) × (at ≤ k) × (k < length (swap_remove xs at 0)) × (get_or (swap_remove xs at 0) k 0 ≡ i)
  removed-kept j i le ne less is =
      let size = removed-length in
      ⊎_elim
      (λ (e : j ≡ length xs - 1).
      let here : at < length xs - 1 = omega arith in
      (at, omega arith, omega arith, removed-at at here ∙ get_or-set_same xs at (get_or xs (length xs - 1) 0) 0 lt ∙ ap (λ (k : ℕ). get_or xs k 0) (sym e) ∙ is))
      (λ (other : j ≢ length xs - 1).
      let low : j < length xs - 1 = omega arith in
      (j, le, omega arith, removed-at j low ∙ get_or-set_other xs at j (get_or xs (length xs - 1) 0) 0 ne ∙ is))
      (cases_eq j (length xs - 1))

  -- each element but the one taken out is still in the list
  pub removed-has : (i : ℕ) → Contains xs i → i ≢ get_or xs at 0 → Contains (swap_remove xs at 0) i
  removed-has i (j, less, is) ne =
      let size = removed-length in
      let same : get_or xs j 0 ≡ i = get_or_default xs j 0 i less ∙ is in
      let apart : j ≢ at = λ e. ne (sym same ∙ ap (λ (k : ℕ). get_or xs k 0) e) in
      ⊎_elim
      (λ (e : j ≡ length xs - 1).
      let here : at < length xs - 1 = omega arith in
      stands (swap_remove xs at 0) at i (omega arith) (removed-at at here ∙ get_or-set_same xs at (get_or xs (length xs - 1) 0) 0 lt ∙ ap (λ (k : ℕ). get_or xs k 0) (sym e) ∙ same))
      (λ (other : j ≢ length xs - 1).
      let low : j < length xs - 1 = omega arith in
      stands (swap_remove xs at 0) j i (omega arith) (removed-at j low ∙ get_or-set_other xs at j (get_or xs (length xs - 1) 0) 0 apart ∙ same))
      (cases_eq j (length xs - 1))

  -- and there is no new one
  pub removed-only : (i : ℕ) → Contains (swap_remove xs at 0) i → Contains xs i
  removed-only i (j, less, is) =
      let size = removed-length in
      let low : j < length xs - 1 = omega arith in
      let now : get_or (set xs at (get_or xs (length xs - 1) 0)) j 0 ≡ i = sym (removed-at j low) ∙ get_or_default (swap_remove xs at 0) j 0 i less ∙ is in
      ⊎_elim
      (λ (e : j ≡ at). stands xs (length xs - 1) i (omega arith) (sym (subst (λ (k : ℕ). get_or (set xs at (get_or xs (length xs - 1) 0)) k 0 ≡ get_or xs (length xs - 1) 0) (sym e) (get_or-set_same xs at (get_or xs (length xs - 1) 0) 0 lt)) ∙ now))
      (λ (ne : j ≢ at). stands xs j i (omega arith) (sym (get_or-set_other xs at j (get_or xs (length xs - 1) 0) 0 ne) ∙ now))
      (cases_eq j at)
