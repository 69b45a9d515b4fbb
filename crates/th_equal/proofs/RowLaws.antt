-- Rows of rules: how many literals they have, and each of these.
use Rattle.std.proofs.Common.{◌≡◌, ◌≢◌, ◌<◌, ◌-◌, ◌==◌, ℕ, zero, suc, Bool, true, false, cond, List, [], ◌∷◌, map, length, slice_get, get_or, Option, Some, None, IsSomeAnd, refl, sym, ap, ◌∙◌, subst, arith}
use Rattle.std.proofs.lemmas.List.{length-map}
use Rattle.sc_clauses.specs.declared.lit.Lit.{Lit}
use Rattle.sc_clauses.specs.Clauses.{negation, positive}
use Rattle.sc_sorts.specs.Inside.{SortField, SortFields}
use Rattle.sc_terms.specs.Trees.{Tree, choice}
use Rattle.sc_terms.specs.Tables.{tree}
use Rattle.sc_terms.specs.Folds.{equal_term, held_term, present_term}
use Rattle.sc_footprint.specs.Problems.{Posed, literal_in}
use Rattle.sc_rule_instances.specs.Clauses.{literal_for, clause_for, said_clause}
use Rattle.sc_rule_instances.specs.Saying.{count_of, literal_of}
use Rattle.sc_rule_laws.specs.Signed.{Signed, so, unless, given}
use Rattle.sc_rule_laws.specs.Equal.{are_options, eq2, eq3, eq3_of, eq4, eq4_of, eq7, field_at, field_equal}
use Rattle.sc_rule_laws.specs.Terms.{fields_of, one_sort}
use Rattle.th_equal.specs.Rows.{IsChoice, IsFieldLiteral}

module _ (p : Posed) where
  pub first : (test : Bool) (s : Signed) (parts : List Signed) (k : ℕ) (l : Lit) → IsSomeAnd (count_of (given test (s ∷ parts))) (λ n. k < n) → k ≡ 0 → l ≡ literal_for p s → l ≡ literal_of p (given test (s ∷ parts)) k
  unfolding said_clause
  first true s parts zero l h e f = f
  first true s parts (suc k) l h e f = absurd (omega (arith, e))
  first false s parts k l h e f = absurd h

  pub second : (test : Bool) (s t : Signed) (parts : List Signed) (k : ℕ) (l : Lit) → IsSomeAnd (count_of (given test (s ∷ t ∷ parts))) (λ n. k < n) → k ≡ 1 → l ≡ literal_for p t → l ≡ literal_of p (given test (s ∷ t ∷ parts)) k
  unfolding said_clause
  second true s t parts zero l h e f = absurd (omega (arith, e))
  second true s t parts (suc zero) l h e f = f
  second true s t parts (suc (suc k)) l h e f = absurd (omega (arith, e))
  second false s t parts k l h e f = absurd h

  pub third : (test : Bool) (s t u : Signed) (parts : List Signed) (k : ℕ) (l : Lit) → IsSomeAnd (count_of (given test (s ∷ t ∷ u ∷ parts))) (λ n. k < n) → k ≡ 2 → l ≡ literal_for p u
      → l ≡ literal_of p (given test (s ∷ t ∷ u ∷ parts)) k
  unfolding said_clause
  third true s t u parts zero l h e f = absurd (omega (arith, e))
  third true s t u parts (suc zero) l h e f = absurd (omega (arith, e))
  third true s t u parts (suc (suc zero)) l h e f = f
  third true s t u parts (suc (suc (suc k))) l h e f = absurd (omega (arith, e))
  third false s t u parts k l h e f = absurd h

  -- the last of two, three and four
  pub last_of_two : (test : Bool) (s t : Signed) (k : ℕ) (l : Lit) → IsSomeAnd (count_of (given test (s ∷ t ∷ []))) (λ n. k < n) → k ≢ 0 → l ≡ literal_for p t → l ≡ literal_of p (given test (s ∷ t ∷ [])) k
  unfolding said_clause
  last_of_two true s t zero l h a f = absurd (a refl)
  last_of_two true s t (suc zero) l h a f = f
  last_of_two true s t (suc (suc k)) l h a f = absurd (omega (arith, h))
  last_of_two false s t k l h a f = absurd h

  pub last_of_three : (test : Bool) (s t u : Signed) (k : ℕ) (l : Lit) → IsSomeAnd (count_of (given test (s ∷ t ∷ u ∷ []))) (λ n. k < n) → k ≢ 0 → k ≢ 1 → l ≡ literal_for p u
      → l ≡ literal_of p (given test (s ∷ t ∷ u ∷ [])) k
  unfolding said_clause
  last_of_three true s t u zero l h a b f = absurd (a refl)
  last_of_three true s t u (suc zero) l h a b f = absurd (b refl)
  last_of_three true s t u (suc (suc zero)) l h a b f = f
  last_of_three true s t u (suc (suc (suc k))) l h a b f = absurd (omega (arith, h))
  last_of_three false s t u k l h a b f = absurd h

  pub last_of_four : (test : Bool) (s t u v : Signed) (k : ℕ) (l : Lit) → IsSomeAnd (count_of (given test (s ∷ t ∷ u ∷ v ∷ []))) (λ n. k < n) → k ≢ 0 → k ≢ 1 → k ≢ 2 → l ≡ literal_for p v
      → l ≡ literal_of p (given test (s ∷ t ∷ u ∷ v ∷ [])) k
  unfolding said_clause
  last_of_four true s t u v zero l h a b c f = absurd (a refl)
  last_of_four true s t u v (suc zero) l h a b c f = absurd (b refl)
  last_of_four true s t u v (suc (suc zero)) l h a b c f = absurd (c refl)
  last_of_four true s t u v (suc (suc (suc zero))) l h a b c f = f
  last_of_four true s t u v (suc (suc (suc (suc k)))) l h a b c f = absurd (omega (arith, h))
  last_of_four false s t u v k l h a b c f = absurd h

  -- ---- EQ2

  pub choice_first : (t : Tree) (c a b side k : ℕ) (l : Lit) → IsChoice p t c a b → IsSomeAnd (count_of (eq2 t side)) (λ n. k < n) → k ≡ 0
      → l ≡ cond (side == 1) (literal_in p (tree p.nodes c)) (negation (literal_in p (tree p.nodes c))) → l ≡ literal_of p (eq2 t side) k
  unfolding said_clause
  choice_first t c a b side k l h place e f =
      subst (λ (u : Tree). l ≡ literal_of p (eq2 u side) k) (sym h.is) (by side k (subst (λ (u : Tree). IsSomeAnd (count_of (eq2 u side)) (λ n. k < n)) h.is place) e f)
    where
      by : (i j : ℕ) → IsSomeAnd (count_of (eq2 (choice (tree p.nodes c) (tree p.nodes a) (tree p.nodes b)) i)) (λ n. j < n) → j ≡ 0 → l ≡ cond (i == 1) (literal_in p (tree p.nodes c)) (negation (literal_in p (tree p.nodes c)))
          → l ≡ literal_of p (eq2 (choice (tree p.nodes c) (tree p.nodes a) (tree p.nodes b)) i) j
      by zero zero q d g = g
      by (suc zero) zero q d g = g
      by (suc (suc i)) zero q d g = absurd q
      by i (suc j) q d g = absurd (omega (arith, d))

  pub choice_second : (t : Tree) (c a b side k : ℕ) (l : Lit) → IsChoice p t c a b → IsSomeAnd (count_of (eq2 t side)) (λ n. k < n) → k ≢ 0 → l ≡ literal_in p (equal_term t (tree p.nodes (cond (side == 0) a b)))
      → l ≡ literal_of p (eq2 t side) k
  unfolding said_clause
  choice_second t c a b side k l h place e f =
      subst (λ (u : Tree). l ≡ literal_of p (eq2 u side) k) (sym h.is)
      (by side k (subst (λ (u : Tree). IsSomeAnd (count_of (eq2 u side)) (λ n. k < n)) h.is place) e (subst (λ (u : Tree). l ≡ literal_in p (equal_term u (tree p.nodes (cond (side == 0) a b)))) h.is f))
    where
      by : (i j : ℕ) → IsSomeAnd (count_of (eq2 (choice (tree p.nodes c) (tree p.nodes a) (tree p.nodes b)) i)) (λ n. j < n) → j ≢ 0
          → l ≡ literal_in p (equal_term (choice (tree p.nodes c) (tree p.nodes a) (tree p.nodes b)) (tree p.nodes (cond (i == 0) a b)))
          → l ≡ literal_of p (eq2 (choice (tree p.nodes c) (tree p.nodes a) (tree p.nodes b)) i) j
      by i zero q d g = absurd (d refl)
      by zero (suc zero) q d g = g
      by (suc zero) (suc zero) q d g = g
      by (suc (suc i)) (suc zero) q d g = absurd q
      by zero (suc (suc j)) q d g = absurd (omega (arith, q))
      by (suc zero) (suc (suc j)) q d g = absurd (omega (arith, q))
      by (suc (suc i)) (suc (suc j)) q d g = absurd q

  -- ---- EQ3 and EQ4

  pub field_first : (x y : Tree) (i k : ℕ) (l : Lit) → IsSomeAnd (count_of (eq3 x y i)) (λ n. k < n) → k ≡ 0 → l ≡ literal_for p (unless (equal_term x y)) → l ≡ literal_of p (eq3 x y i) k
  field_first x y i k l = by (field_at (fields_of x) i)
    where
      by : (o : Option SortField) → IsSomeAnd (count_of (eq3_of x y o)) (λ n. k < n) → k ≡ 0 → l ≡ literal_for p (unless (equal_term x y)) → l ≡ literal_of p (eq3_of x y o) k
      by (Some f) = first (one_sort x y) (unless (equal_term x y)) (so (field_equal x y f) ∷ []) k l
      by None = λ h e f. absurd h

  given_true : (test : Bool) (parts : List Signed) (P : ℕ → Type 0) → IsSomeAnd (count_of (given test parts)) P → test ≡ true
  given_true true parts P h = refl
  given_true false parts P h = absurd h

  pub field_second : (x y : Tree) (i k : ℕ) (l : Lit) → IsSomeAnd (count_of (eq3 x y i)) (λ n. k < n) → k ≢ 0 → IsFieldLiteral p x y i l → l ≡ literal_of p (eq3 x y i) k
  field_second x y i k l h a is = by (field_at (fields_of x) i) refl h
    where
      by : (o : Option SortField) → field_at (fields_of x) i ≡ o → IsSomeAnd (count_of (eq3_of x y o)) (λ n. k < n) → l ≡ literal_of p (eq3_of x y o) k
      by (Some f) e g = last_of_two (one_sort x y) (unless (equal_term x y)) (so (field_equal x y f)) k l g a (is f (given_true (one_sort x y) (unless (equal_term x y) ∷ so (field_equal x y f) ∷ []) (λ n. k < n) g) e)
      by None e g = absurd g

  pub fields_first : (x y : Tree) (k : ℕ) (l : Lit) → IsSomeAnd (count_of (eq4 x y)) (λ n. k < n) → k ≡ 0 → l ≡ literal_for p (so (equal_term x y)) → l ≡ literal_of p (eq4 x y) k
  fields_first x y k l = by (fields_of x)
    where
      by : (o : Option SortFields) → IsSomeAnd (count_of (eq4_of x y o)) (λ n. k < n) → k ≡ 0 → l ≡ literal_for p (so (equal_term x y)) → l ≡ literal_of p (eq4_of x y o) k
      by (Some fs) = first (one_sort x y) (so (equal_term x y)) (map (λ (f : SortField). unless (field_equal x y f)) fs) k l
      by None = λ h e f. absurd h

  map_at : (x y : Tree) (fs : SortFields) (j : ℕ) (l : Lit) → ((f : SortField) → slice_get fs j ≡ Some f → l ≡ literal_for p (unless (field_equal x y f))) → j < length fs
      → l ≡ get_or (clause_for p (map (λ (f : SortField). unless (field_equal x y f)) fs)) j (positive 0)
  map_at x y [] j l h b = absurd (omega (arith, b))
  map_at x y (f ∷ fs) zero l h b = h f refl
  map_at x y (f ∷ fs) (suc j) l h b = map_at x y fs j l h (omega (arith, b))

  pub fields_later : (x y : Tree) (k : ℕ) (l m : Lit) → IsSomeAnd (count_of (eq4 x y)) (λ n. k < n) → k ≢ 0 → IsFieldLiteral p x y (k - 1) m → l ≡ negation m → l ≡ literal_of p (eq4 x y) k
  unfolding said_clause
  fields_later x y k l m h a is e = by (fields_of x) refl (one_sort x y) refl h k refl
    where
      by : (o : Option SortFields) → fields_of x ≡ o → (test : Bool) → one_sort x y ≡ test → IsSomeAnd (count_of (eq4_of x y o)) (λ n. k < n) → (j : ℕ) → k ≡ j → l ≡ literal_of p (eq4_of x y o) j
      by None f test g q j i = absurd q
      by (Some fs) f false g q j i = absurd (let t = given_true (one_sort x y) (so (equal_term x y) ∷ map (λ (f : SortField). unless (field_equal x y f)) fs) (λ n. k < n) q in let b : true ≡ false = sym t ∙ g in cc)
      by (Some fs) f true g q zero i = absurd (a i)
      by (Some fs) f true g q (suc j) i =
          let one : k - 1 ≡ j = omega (arith, i) in
          let here : (u : SortField) → slice_get fs j ≡ Some u → l ≡ literal_for p (unless (field_equal x y u)) =
          λ u d. e ∙ ap negation (is u g (ap (λ (z : Option SortFields). field_at z (k - 1)) f ∙ ap (λ (z : ℕ). slice_get fs z) one ∙ d)) in
          let below : k < suc (length (map (λ (f : SortField). unless (field_equal x y f)) fs)) = subst (λ (b : Bool). IsSomeAnd (count_of (given b (so (equal_term x y) ∷ map (λ (f : SortField). unless (field_equal x y f)) fs))) (λ n. k < n)) g q in
          let inside : j < length fs = omega (arith, below, i, length-map fs (λ (f : SortField). unless (field_equal x y f))) in
          rw g (map_at x y fs j l here inside)

  -- ---- options

  pub options_told : (x y : Tree) (side : ℕ) (P : ℕ → Type 0) → IsSomeAnd (count_of (eq7 x y side)) P → are_options x y ≡ true
  options_told x y zero P h = given_true (are_options x y) (so (equal_term x y) ∷ so (present_term x) ∷ so (present_term y) ∷ []) P h
  options_told x y (suc zero) P h =
      given_true (are_options x y) (so (equal_term x y) ∷ unless (present_term x) ∷ unless (present_term y) ∷ unless (equal_term (held_term x) (held_term y)) ∷ []) P h
  options_told x y (suc (suc i)) P h = absurd h

  pub options_first : (x y : Tree) (side k : ℕ) (l : Lit) → IsSomeAnd (count_of (eq7 x y side)) (λ n. k < n) → k ≡ 0 → l ≡ literal_for p (so (equal_term x y)) → l ≡ literal_of p (eq7 x y side) k
  options_first x y zero k l = first (are_options x y) (so (equal_term x y)) (so (present_term x) ∷ so (present_term y) ∷ []) k l
  options_first x y (suc zero) k l =
      first (are_options x y) (so (equal_term x y)) (unless (present_term x) ∷ unless (present_term y) ∷ unless (equal_term (held_term x) (held_term y)) ∷ []) k l
  options_first x y (suc (suc i)) k l = λ h e f. absurd h

  pub options_second : (x y : Tree) (side k : ℕ) (l : Lit) → IsSomeAnd (count_of (eq7 x y side)) (λ n. k < n) → k ≡ 1 → l ≡ literal_for p (side == 0, present_term x) → l ≡ literal_of p (eq7 x y side) k
  options_second x y zero k l = second (are_options x y) (so (equal_term x y)) (so (present_term x)) (so (present_term y) ∷ []) k l
  options_second x y (suc zero) k l =
      second (are_options x y) (so (equal_term x y)) (unless (present_term x)) (unless (present_term y) ∷ unless (equal_term (held_term x) (held_term y)) ∷ []) k l
  options_second x y (suc (suc i)) k l = λ h e f. absurd h

  pub options_third : (x y : Tree) (side k : ℕ) (l : Lit) → IsSomeAnd (count_of (eq7 x y side)) (λ n. k < n) → k ≡ 2 → l ≡ literal_for p (side == 0, present_term y) → l ≡ literal_of p (eq7 x y side) k
  options_third x y zero k l = third (are_options x y) (so (equal_term x y)) (so (present_term x)) (so (present_term y)) [] k l
  options_third x y (suc zero) k l =
      third (are_options x y) (so (equal_term x y)) (unless (present_term x)) (unless (present_term y)) (unless (equal_term (held_term x) (held_term y)) ∷ []) k l
  options_third x y (suc (suc i)) k l = λ h e f. absurd h

  no_fourth : (test : Bool) (s t u : Signed) (k : ℕ) → IsSomeAnd (count_of (given test (s ∷ t ∷ u ∷ []))) (λ n. k < n) → k ≢ 0 → k ≢ 1 → k ≢ 2 → ⊥
  no_fourth true s t u zero h a b c = a refl
  no_fourth true s t u (suc zero) h a b c = b refl
  no_fourth true s t u (suc (suc zero)) h a b c = c refl
  no_fourth true s t u (suc (suc (suc k))) h a b c = omega (arith, h)
  no_fourth false s t u k h a b c = h

  pub options_fourth : (x y : Tree) (side k : ℕ) (l : Lit) → IsSomeAnd (count_of (eq7 x y side)) (λ n. k < n) → k ≢ 0 → k ≢ 1 → k ≢ 2 → l ≡ literal_for p (unless (equal_term (held_term x) (held_term y)))
      → l ≡ literal_of p (eq7 x y side) k
  options_fourth x y zero k l h a b c f = absurd (no_fourth (are_options x y) (so (equal_term x y)) (so (present_term x)) (so (present_term y)) k h a b c)
  options_fourth x y (suc zero) k l h a b c f =
      last_of_four (are_options x y) (so (equal_term x y)) (unless (present_term x)) (unless (present_term y)) (unless (equal_term (held_term x) (held_term y))) k l h a b c f
  options_fourth x y (suc (suc i)) k l h a b c f = absurd h
