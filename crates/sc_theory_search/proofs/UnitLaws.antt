-- What a search tells of a log, as the checker reads it.
use Rattle.std.proofs.Common.{◌≡◌, ◌++◌, inl, inr, ℕ, Bool, true, List, [], ◌∷◌, map, refl, ap, sym, subst, append_assoc}
use Rattle.std.specs.List.{list_all}
use Rattle.sc_clauses.specs.declared.step.Instance as instance
use Rattle.sc_clauses.specs.declared.step.Step.{Step}
use Rattle.sc_clauses.specs.Clauses.{Clause, clause_holds}
use Rattle.sc_clauses.specs.declared.step.Step.TheVariants.{Instance, Learned}
use Rattle.sc_propagation.specs.Steps.{after, IsClause, IsLawful}
use Rattle.sc_propagation.specs.Steps as search
use Rattle.sc_search.specs.Findings as found
use Rattle.sc_search.specs.Findings.{IsRefutation}
use Rattle.sc_checker.specs.Verdicts.{Adds, no_step, first_step}
use Rattle.sc_checker.specs.Writable.{is_writable}
use Rattle.sc_footprint.specs.Written.{is_instance}
use Rattle.sc_theory_search.specs.Units.{AreUnits, no_unit, first_unit}
use Rattle.sc_theory_search.proofs.ListLaws.{Has, here, there, has_either, has_only}
use Rattle.std.proofs.lemmas.Bool.{and_from}
use Rattle.sc_theory_search.proofs.StepLaws.{AllHold, step_adds, step_writable, step_holds}

-- one clause more is one clause before the others
moved : (before : List Clause) (c : Clause) (cs : List Clause) → (before ++ c ∷ []) ++ cs ≡ before ++ c ∷ cs
moved before c cs = append_assoc before (c ∷ []) cs

module _ (atoms : ℕ) (has : instance.Instance → Type 0) (clause_of : instance.Instance → Clause) where
  abbrev Units : List Clause → List Step → Type 0
  Units before steps = found.AreUnits atoms has clause_of before steps

  abbrev clauses_of : List Step → List Clause
  clauses_of steps = map (search.added clause_of) steps

  -- ---- the steps add their clauses

  pub units_add : (before : List Clause) (steps : List Step) → Units before steps → Adds has clause_of atoms before steps (clauses_of steps)
  units_add _ _ (found.no_step before) = no_step before
  units_add _ _ (found.first_step before s steps u rest) =
      first_step before s steps (search.added clause_of s) (clauses_of steps) (step_adds atoms has clause_of before s u.is_lawful) (units_add (before ++ search.added clause_of s ∷ []) steps rest)

  pub units_and_last : (before : List Clause) (steps : List Step) (last : Step) → Units before steps → IsLawful atoms has clause_of (before ++ clauses_of steps) last
      → Adds has clause_of atoms before (steps ++ last ∷ []) (clauses_of steps ++ search.added clause_of last ∷ [])
  units_and_last _ _ last (found.no_step before) h =
      first_step before last [] (search.added clause_of last) [] (step_adds atoms has clause_of before last (subst (λ cs. IsLawful atoms has clause_of cs last) (append_nil before) h)) (no_step (before ++ search.added clause_of last ∷ []))
    where
      append_nil : (cs : List Clause) → cs ++ [] ≡ cs
      append_nil [] = refl
      append_nil (c ∷ cs) = ap (λ ds. c ∷ ds) (append_nil cs)
  units_and_last _ _ last (found.first_step before s steps u rest) h =
      first_step before s (steps ++ last ∷ []) (search.added clause_of s) (clauses_of steps ++ search.added clause_of last ∷ []) (step_adds atoms has clause_of before s u.is_lawful)
      (units_and_last (before ++ search.added clause_of s ∷ []) steps last rest
      (subst (λ cs. IsLawful atoms has clause_of cs last) (sym (moved before (search.added clause_of s) (clauses_of steps))) h))

  -- ---- their clauses are of listed atoms

  lawful_listed : (before : List Clause) (s : Step) → IsLawful atoms has clause_of before s → IsClause atoms (search.added clause_of s)
  lawful_listed before (Instance i) h = h.1
  lawful_listed before (Learned s) h = h.is_clause

  pub units_listed : (before : List Clause) (steps : List Step) → Units before steps → (c : Clause) → Has (clauses_of steps) c → IsClause atoms c
  units_listed _ _ (found.no_step before) c h = elim h [ ]
  units_listed _ _ (found.first_step before s steps u rest) _ (here _ _) = lawful_listed before s u.is_lawful
  units_listed _ _ (found.first_step before s steps u rest) c (there _ _ _ h) = units_listed (before ++ search.added clause_of s ∷ []) steps rest c h

  -- ---- their clauses are units

  pub units_are : (before : List Clause) (steps : List Step) → Units before steps → AreUnits before (clauses_of steps)
  units_are _ _ (found.no_step before) = no_unit before
  units_are _ _ (found.first_step before s steps u rest) =
      first_unit before (search.added clause_of s) (clauses_of steps) (record { some = u.some; uncovered = u.uncovered; is_new = u.is_new })
      (units_are (before ++ search.added clause_of s ∷ []) steps rest)

  -- ---- each step has a text

  pub units_writable : ((i : instance.Instance) → has i → is_instance i ≡ true) → (before : List Clause) (steps : List Step) → Units before steps → list_all is_writable steps ≡ true
  units_writable written _ _ (found.no_step before) = refl
  units_writable written _ _ (found.first_step before s steps u rest) =
      and_from (is_writable s) (list_all is_writable steps) (step_writable atoms has clause_of written before s u.is_lawful) (units_writable written (before ++ search.added clause_of s ∷ []) steps rest)

  pub units_and_last_writable : ((i : instance.Instance) → has i → is_instance i ≡ true) → (before : List Clause) (steps : List Step) (last : Step) → Units before steps → (clauses : List Clause) → IsLawful atoms has clause_of clauses last → list_all is_writable (steps ++ last ∷ []) ≡ true
  units_and_last_writable written _ _ last (found.no_step before) clauses h = and_from (is_writable last) true (step_writable atoms has clause_of written clauses last h) refl
  units_and_last_writable written _ _ last (found.first_step before s steps u rest) clauses h =
      and_from (is_writable s) (list_all is_writable (steps ++ last ∷ [])) (step_writable atoms has clause_of written before s u.is_lawful)
      (units_and_last_writable written (before ++ search.added clause_of s ∷ []) steps last rest clauses h)

  -- ---- where the clauses before them hold, those of the steps do

  one_more : (v : ℕ → Bool) (before : List Clause) (c : Clause) → AllHold v before → clause_holds v c ≡ true → AllHold v (before ++ c ∷ [])
  one_more v before c hold e d h =
      elim (has_either before (c ∷ []) d h) [
        | inl a ↦ hold d a
        | inr b ↦ subst (λ x. clause_holds v x ≡ true) (has_only c d b) e
      ]

  pub units_hold : (v : ℕ → Bool) → ((i : instance.Instance) → has i → clause_holds v (clause_of i) ≡ true) → (before : List Clause) (steps : List Step) → AllHold v before → Units before steps → AllHold v (before ++ clauses_of steps)
  units_hold v told _ _ hold (found.no_step before) d h = elim (has_either before [] d h) [ inl a ↦ hold d a | inr b ↦ elim b [ ] ]
  units_hold v told _ _ hold (found.first_step before s steps u rest) d h =
      units_hold v told (before ++ search.added clause_of s ∷ []) steps (one_more v before (search.added clause_of s) hold (step_holds atoms has clause_of v told before s hold u.is_lawful)) rest d
      (subst (λ cs. Has cs d) (sym (moved before (search.added clause_of s) (clauses_of steps))) h)

  -- ---- of a refutation

  module _ (before : List Clause) (budget : ℕ) (steps : List Step) (r : IsRefutation atoms has clause_of before budget steps) where
    pub refutation_adds : Adds has clause_of atoms before steps (clauses_of r.units ++ [] ∷ [])
    refutation_adds =
        subst (λ (ss : List Step). Adds has clause_of atoms before ss (clauses_of r.units ++ [] ∷ [])) (sym r.are_all)
        (subst (λ (c : Clause). Adds has clause_of atoms before (r.units ++ r.last ∷ []) (clauses_of r.units ++ c ∷ [])) r.is_empty
        (units_and_last before r.units r.last r.are_units r.is_lawful))

    pub refutation_writable : ((i : instance.Instance) → has i → is_instance i ≡ true) → list_all is_writable steps ≡ true
    refutation_writable written = subst (λ ss. list_all is_writable ss ≡ true) (sym r.are_all) (units_and_last_writable written before r.units r.last r.are_units (after clause_of before r.units) r.is_lawful)

    -- the clauses before it don't all hold
    pub refutation_never : (v : ℕ → Bool) → ((i : instance.Instance) → has i → clause_holds v (clause_of i) ≡ true) → AllHold v before → ⊥
    refutation_never v told hold =
        let last : clause_holds v (search.added clause_of r.last) ≡ true = step_holds atoms has clause_of v told (after clause_of before r.units) r.last (units_hold v told before r.units hold r.are_units) r.is_lawful in
        let empty : clause_holds v [] ≡ true = subst (λ c. clause_holds v c ≡ true) r.is_empty last in
        absurd cc
