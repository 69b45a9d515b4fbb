-- Classes are joined one pair after the other.
use Rattle.std.proofs.Common.{◌≤◌, ◌≡◌, ℕ, ◌<◌, ◌+◌, ◌==◌, List, length, get_or, map, Bool, true, false, Some, ⊎_elim, refl, sym, ◌∙◌, ap, subst, arith, eq-eqb}
use Rattle.std.proofs.lemmas.List.{get_or-map, length-map}
use Rattle.std.proofs.lemmas.Bool.{cases_lt}
use Rattle.sc_falsified.specs.Truths.{Truth}
use Rattle.sc_falsified.specs.Classes.{moved, IsJoined, AreLabels}
use Rattle.sc_laws.proofs.NumberLaws.{last_or_before}

moved_from : (from to : ℕ) → moved from to from ≡ to
moved_from from to = rw (eq-eqb from from refl) refl

-- the one label becomes the other, which stays
moved_to : (from to : ℕ) → moved from to to ≡ to
moved_to from to = moved_to_by (to == from) from to refl where
  moved_to_by : (t : Bool) (from to : ℕ) → (to == from) ≡ t → moved from to to ≡ to
  moved_to_by true from to e = rw e refl
  moved_to_by false from to e = rw e refl

module _ (truth : Truth) (n : ℕ) where
  pub joined_skip : (i j : ℕ) (labels : List ℕ) → ¬ (truth i j ≡ Some true) → IsJoined truth n i j labels → IsJoined truth n i (j + 1) labels
  joined_skip i j labels other h = record {
    sized = h.sized;
    rows = h.rows;
    row = λ b less e. ⊎_elim (λ l. h.row b l e) (λ (same : b ≡ j). absurd (other (subst (λ m. truth i m ≡ Some true) same e))) (last_or_before b j less);
  }

  kept : (labels : List ℕ) (from to a b : ℕ) → a < length labels → b < length labels → get_or labels a 0 ≡ get_or labels b 0
      → get_or (map (moved from to) labels) a 0 ≡ get_or (map (moved from to) labels) b 0
  kept labels from to a b first second e =
      get_or-map (moved from to) labels a 0 0 first ∙ ap (moved from to) e ∙ sym (get_or-map (moved from to) labels b 0 0 second)

  pub joined_merge : (i j : ℕ) (labels now : List ℕ) → now ≡ map (moved (get_or labels j 0) (get_or labels i 0)) labels → j < i → i < n
      → IsJoined truth n i j labels → IsJoined truth n i (j + 1) now
  joined_merge i j labels now is less bound h =
      let size = h.sized in
      let f : ℕ → ℕ = moved (get_or labels j 0) (get_or labels i 0) in
      let at_i : i < length labels = omega arith in
      let at_j : j < length labels = omega arith in
      subst (λ l. IsJoined truth n i (j + 1) l) (sym is) (record {
        sized = length-map labels f ∙ size;
        rows = λ a b under before e. kept labels (get_or labels j 0) (get_or labels i 0) a b (omega arith) (omega arith) (h.rows a b under before e);
        row = λ b under e.
            ⊎_elim (λ (l : b < j). kept labels (get_or labels j 0) (get_or labels i 0) i b (omega arith) (omega arith) (h.row b l e))
            (λ (same : b ≡ j).
            (get_or-map f labels i 0 0 at_i ∙ moved_to (get_or labels j 0) (get_or labels i 0))
            ∙ sym (subst (λ m. get_or (map f labels) m 0 ≡ get_or labels i 0) (sym same) (get_or-map f labels j 0 0 at_j ∙ moved_from (get_or labels j 0) (get_or labels i 0))))
            (last_or_before b j under);
      })

  pub joined_row : (i : ℕ) (labels : List ℕ) → IsJoined truth n i i labels → IsJoined truth n (i + 1) 0 labels
  joined_row i labels h = record {
    sized = h.sized;
    rows = λ a b under before e.
        ⊎_elim (λ (l : a < i). h.rows a b l before e)
        (λ (same : a ≡ i). subst (λ m. get_or labels m 0 ≡ get_or labels b 0) (sym same) (h.row b (omega arith) (subst (λ m. truth m b ≡ Some true) same e)))
        (last_or_before a i under);
    row = λ b under e. absurd (omega arith);
  }

  pub joined_start : (labels : List ℕ) → length labels ≡ n → IsJoined truth n 0 0 labels
  joined_start labels size = record {
    sized = size;
    rows = λ a b under before e. absurd (omega arith);
    row = λ b under e. absurd (omega arith);
  }

  pub joined_end : (labels : List ℕ) → ((i j : ℕ) → truth i j ≡ truth j i) → IsJoined truth n n 0 labels → AreLabels truth n labels
  joined_end labels symmetric h = record {
    sized = h.sized;
    joined = λ a b one two e.
        ⊎_elim (λ (l : a < b). sym (h.rows b a two l (symmetric b a ∙ e)))
        (λ (l : b ≤ a). ⊎_elim (λ (k : b < a). h.rows a b one k e) (λ (k : a ≤ b). ap (λ m. get_or labels m 0) (omega arith)) (cases_lt b a))
        (cases_lt a b);
  }
