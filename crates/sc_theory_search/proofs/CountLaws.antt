-- Over n listed atoms there are fewer units than the n-th power of 3: clauses are told apart by how each atom stands in them.
use Rattle.std.proofs.Common.{◌≡◌, ◌≢◌, ◌==◌, ◌+◌, ◌*◌, ◌^◌, ◌<◌, ◌≤◌, ◌++◌, ℕ, zero, suc, Bool, true, false, not, cond, List, [], ◌∷◌, map, length, Contains, refl, sym, ap, ◌∙◌, subst, arith, ⊎_elim}
use Rattle.std.specs.List.{AllByRecursion, IsDistinct, list_any}
use Rattle.std.proofs.lemmas.Bool.{not-true, or_cases, true≢false}
use Rattle.std.proofs.lemmas.Bool.Decides.{eqb_tells, nat_tests}
use Rattle.std.proofs.lemmas.List.{length-map}
use Rattle.std.proofs.lemmas.List.Elements.{Contains-append_left}
use Rattle.std.proofs.lemmas.Map.Steps.{length-le_from_distinct_below}
use Rattle.std.proofs.Math.Nat.{pow-suc}
use Rattle.sc_clauses.specs.Clauses.{Clause, negation, positive, is_in, contained}
use Rattle.sc_clauses.specs.declared.step.Instance.{Instance}
use Rattle.sc_clauses.specs.declared.step.Step.{Step}
use Rattle.sc_propagation.specs.Steps.{IsClause}
use Rattle.sc_checker.specs.Verdicts.{Adds, no_step, first_step}
use Rattle.sc_theory_search.specs.Units.{AreUnits, no_unit, first_unit}
use Rattle.sc_theory_search.proofs.ListLaws.{Has, here, there, contains_of, has_right, of_all}
use Rattle.sc_theory_search.proofs.LitLaws.{is_in_of}
use Rattle.sc_theory_search.proofs.StepLaws.{absent}

-- ---- how atoms stand in a clause

-- an atom stands there by itself, negated, or not at all
abbrev sign_of : Bool → Bool → ℕ
sign_of a b = cond a 1 (cond b 2 0)

abbrev sign : ℕ → Clause → ℕ
sign k c = sign_of (is_in c (positive k)) (is_in c (negation (positive k)))

-- the signs of the first atoms, as digits to the base 3
abbrev signs : ℕ → Clause → ℕ
signs zero c = 0
signs (suc n) c = 3 * signs n c + sign (suc n) c

sign_by : (a b : Bool) → sign_of a b ≤ 2
sign_by true b = omega arith
sign_by false true = omega arith
sign_by false false = omega arith

sign_small : (k : ℕ) (c : Clause) → sign k c ≤ 2
sign_small k c = sign_by (is_in c (positive k)) (is_in c (negation (positive k)))

digit_below : (a s p : ℕ) → a < p → s ≤ 2 → 3 * a + s < p * 3
digit_below a s p less small = omega (arith, less, small)

signs_below : (n : ℕ) (c : Clause) → signs n c < 3 ^ n
signs_below zero c = omega arith
signs_below (suc n) c =
    subst (λ (p : ℕ). signs (suc n) c < p) (sym (pow-suc 3 n)) (digit_below (signs n c) (sign (suc n) c) (3 ^ n) (signs_below n c) (sign_small (suc n) c))

-- one number has one digit, and one number before it
same_digit : (a b s t : ℕ) → 3 * a + s ≡ 3 * b + t → s ≤ 2 → t ≤ 2 → s ≡ t
same_digit a b s t e small fits = omega (arith, e, small, fits)

same_front : (a b s t : ℕ) → 3 * a + s ≡ 3 * b + t → s ≤ 2 → t ≤ 2 → a ≡ b
same_front a b s t e small fits = omega (arith, e, small, fits)

same_signs : (n : ℕ) (c d : Clause) → signs n c ≡ signs n d → (k : ℕ) → 0 < k → k ≤ n → sign k c ≡ sign k d
same_signs zero c d e k least most = absurd (omega (arith, least, most))
same_signs (suc n) c d e k least most =
    ⊎_elim (λ is. subst (λ (j : ℕ). sign j c ≡ sign j d) (sym is.1) (same_digit (signs n c) (signs n d) (sign (suc n) c) (sign (suc n) d) e (sign_small (suc n) c) (sign_small (suc n) d)))
    (λ other. same_signs n c d (same_front (signs n c) (signs n d) (sign (suc n) c) (sign (suc n) d) e (sign_small (suc n) c) (sign_small (suc n) d)) k least (below k n most other.1)) (eqb_tells k (suc n))
  where
    below : (k n : ℕ) → k ≤ suc n → k ≢ suc n → k ≤ n
    below k n most other = grind (arith, nat_tests)

-- ---- clauses whose atoms stand so

is_plain : (a b : Bool) → sign_of a b ≡ 1 → a ≡ true
is_plain true b e = refl
is_plain false true e = absurd (omega (arith, e))
is_plain false false e = absurd (omega (arith, e))

is_negated : (a b : Bool) → sign_of a b ≡ 2 → b ≡ true
is_negated true b e = absurd (omega (arith, e))
is_negated false true e = refl
is_negated false false e = absurd (omega (arith, e))

lit_there : (c d : Clause) (k : ℕ) (b : Bool) → is_in c (record { atom = k; negated = b }) ≡ true → is_in c (record { atom = k; negated = not b }) ≡ false → sign k c ≡ sign k d → is_in d (record { atom = k; negated = b }) ≡ true
lit_there c d k false e f same =
    is_plain (is_in d (positive k)) (is_in d (negation (positive k))) (sym same ∙ ap (λ (a : Bool). sign_of a (is_in c (negation (positive k)))) e)
lit_there c d k true e f same =
    is_negated (is_in d (positive k)) (is_in d (negation (positive k))) (sym same ∙ (λ i. sign_of (f i) (e i)))

-- a clause whose atoms stand as in another has no further literal
same_contained : (n : ℕ) (c d : Clause) → IsClause n c → signs n c ≡ signs n d → contained c d ≡ true
same_contained n c d is same =
    of_all (is_in d) c
    (λ l h. let fits = is l (contains_of c l h) in
    lit_there c d l.atom l.negated (is_in_of c l h) (not-true (is_in c (negation l)) (absent c (negation l) (is_in c (negation l)) refl fits.1)) (same_signs n c d same l.atom fits.0.0 fits.0.1))

-- ---- units are told apart

no_signs : (n : ℕ) → signs n [] ≡ 0
no_signs zero = refl
no_signs (suc n) = let none = no_signs n in omega (arith, none)

not_contained : (c : Clause) → contained c [] ≡ true → c ≡ []
not_contained [] e = refl
not_contained (l ∷ c) e = absurd (true≢false (sym e))

-- a clause that isn't empty has a sign
some_signs : (n : ℕ) (c : Clause) → IsClause n c → c ≢ [] → 0 ≢ signs n c
some_signs n c is some e = some (not_contained c (same_contained n c [] is (sym e ∙ sym (no_signs n))))

differ : (a b : ℕ) → a ≢ b → (a == b) ≡ false
differ a b other = grind (arith, nat_tests)

module _ (n : ℕ) where
  -- a clause before units has other signs than each of them
  apart : (before cs : List Clause) → AreUnits before cs → (d : Clause) → Contains before d → IsClause n d → AllByRecursion (λ (k : ℕ). (signs n d == k) ≡ false) (map (signs n) cs)
  apart _ _ (no_unit before) d held is = tt
  apart _ _ (first_unit before c cs u rest) d held is = (
    differ (signs n d) (signs n c) (λ same. true≢false (sym (same_contained n d c is same) ∙ u.uncovered d held)),
    apart (before ++ c ∷ []) cs rest d (Contains-append_left before (c ∷ []) d held) is,
  )

  distinct : (before cs : List Clause) → AreUnits before cs → ((c : Clause) → Has cs c → IsClause n c) → IsDistinct (λ (a b : ℕ). a == b) (map (signs n) cs)
  unfolding IsDistinct
  distinct _ _ (no_unit before) are = tt
  distinct _ _ (first_unit before c cs u rest) are = (
    apart (before ++ c ∷ []) cs rest c (contains_of (before ++ c ∷ []) c (has_right before (c ∷ []) c (here c []))) (are c (here c cs)),
    distinct (before ++ c ∷ []) cs rest (λ d h. are d (there c d cs h)),
  )

  none_zero : (before cs : List Clause) → AreUnits before cs → ((c : Clause) → Has cs c → IsClause n c) → AllByRecursion (λ (k : ℕ). (0 == k) ≡ false) (map (signs n) cs)
  none_zero _ _ (no_unit before) are = tt
  none_zero _ _ (first_unit before c cs u rest) are =
      (differ 0 (signs n c) (some_signs n c (are c (here c cs)) u.some), none_zero (before ++ c ∷ []) cs rest (λ d h. are d (there c d cs h)))

  below : (q : ℕ) (cs : List Clause) → list_any (λ (k : ℕ). q == k) (map (signs n) cs) ≡ true → q < 3 ^ n
  below q [] e = absurd (true≢false (sym e))
  below q (c ∷ cs) e = ⊎_elim (λ (h : (q == signs n c) ≡ true). subst (λ (k : ℕ). k < 3 ^ n) (sym (same q (signs n c) h)) (signs_below n c)) (λ h. below q cs h) (or_cases (q == signs n c) _ e)
    where
      same : (a b : ℕ) → (a == b) ≡ true → a ≡ b
      same a b e = grind (arith, nat_tests)

  first_apart : (k : ℕ) (ks : List ℕ) → AllByRecursion (λ (j : ℕ). (k == j) ≡ false) ks → IsDistinct (λ (a b : ℕ). a == b) ks → IsDistinct (λ (a b : ℕ). a == b) (k ∷ ks)
  unfolding IsDistinct
  first_apart k ks h d = (h, d)

  -- fewer units than the power
  pub few_units : (before cs : List Clause) → AreUnits before cs → ((c : Clause) → Has cs c → IsClause n c) → length cs < 3 ^ n
  few_units before cs units are =
      let all = length-le_from_distinct_below (0 ∷ map (signs n) cs) (3 ^ n) (first_apart 0 (map (signs n) cs) (none_zero before cs units are) (distinct before cs units are)) (λ q e. within q e) in
      let long = length-map cs (signs n) in
      omega (arith, all, long)
    where
      within : (q : ℕ) → list_any (λ (k : ℕ). q == k) (0 ∷ map (signs n) cs) ≡ true → q < 3 ^ n
      within q e = ⊎_elim (λ (h : (q == 0) ≡ true). subst (λ (k : ℕ). k < 3 ^ n) (no_signs n ∙ sym (none q h)) (signs_below n [])) (λ h. below q cs h) (or_cases (q == 0) _ e)
        where
          none : (a : ℕ) → (a == 0) ≡ true → a ≡ 0
          none a e = grind (arith, nat_tests)

-- ---- a log of so many units

adds_length : {has : Instance → Type 0} {clause_of : Instance → Clause} {n : ℕ} (clauses : List Clause) (steps : List Step) (cs : List Clause) → Adds has clause_of n clauses steps cs → length steps ≡ length cs
adds_length _ _ _ (no_step clauses) = refl
adds_length _ _ _ (first_step clauses s ss c cs adds rest) = ap suc (adds_length (clauses ++ c ∷ []) ss cs rest)

-- the budget of a log that is spent
pub few_spent : (has : Instance → Type 0) (clause_of : Instance → Clause) (n : ℕ) (before : List Clause) (budget : ℕ) (steps : List Step) (cs : List Clause) → Adds has clause_of n before steps cs → length steps ≡ budget
    → ((c : Clause) → Contains cs c → IsClause n c) → AreUnits before cs → budget < 3 ^ n
few_spent has clause_of n before budget steps cs adds count listed units =
    subst (λ (k : ℕ). k < 3 ^ n) (sym (adds_length before steps cs adds) ∙ count) (few_units n before cs units (λ c h. listed c (contains_of cs c h)))
