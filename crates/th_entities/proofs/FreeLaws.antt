-- What holds of the first numbers, one more at a time.
use Rattle.std.proofs.Common.{◌≡◌, ◌<◌, ◌≤◌, ◌+◌, ℕ, zero, suc, length, None, refl, ◌∙◌, subst, arith, ⊎_elim}
use Rattle.std.proofs.lemmas.Bool.{cases_lt}
use Rattle.std.proofs.lemmas.List.{length-map}
use Rattle.std.proofs.lemmas.Option.{slice_get_past}
use Rattle.sc_terms.specs.Tables.{tree}
use Rattle.sc_footprint.specs.Problems.{Posed, closed_terms, numbered, term_of}
use Rattle.sc_footprint.proofs.NumberingLaws.{at_suc, numbered_map}
use Rattle.th_entities.specs.Free.{AreFirst}

module _ (P : ℕ → Type 0) where
  pub first_none : AreFirst P 0
  unfolding AreFirst
  first_none n less = absurd (omega (arith, less))

  pub first_more : (n : ℕ) → P (n + 1) → AreFirst P n → AreFirst P (n + 1)
  unfolding AreFirst
  first_more n here before k less =
      ⊎_elim (before k) (λ (past : n ≤ k). let same : n ≡ k = omega (arith, past, less) in subst (λ i. P (i + 1)) same here) (cases_lt k n)

  pub first_all : (p : Posed) (count : ℕ) → length p.closed ≤ count → ((n : ℕ) → term_of p n ≡ None → P n) → AreFirst P count → (n : ℕ) → P n
  unfolding AreFirst
  first_all p count all other h zero = other zero refl
  first_all p count all other h (suc k) = ⊎_elim (λ (less : k < count). let e : k + 1 ≡ suc k = omega arith in subst P e (h k less)) past (cases_lt k count)
    where
      past : count ≤ k → P (suc k)
      past far =
          let none : numbered (closed_terms p) (suc k) ≡ None = at_suc (closed_terms p) k ∙ slice_get_past (closed_terms p) k (let e = length-map p.closed (tree p.nodes) in omega (arith, all, far, e)) in
          other (suc k) (numbered_map (tree p.nodes) p.closed (suc k) ∙ none)
