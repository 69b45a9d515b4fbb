-- Why what a search finds is right.
use Rattle.std.proofs.Common.{◌≡◌, ◌≤◌, ◌∙◌, ℕ, List, map, length, true, Contains, IsTrue, sym, subst, arith}
use Rattle.std.specs.List.{list_all}
use Rattle.sc_clauses.specs.declared.step.Instance.{Instance}
use Rattle.sc_clauses.specs.declared.step.Step.{Step}
use Rattle.sc_clauses.specs.Clauses.{Clause}
use Rattle.sc_clauses.specs.Assignments.{Assignment}
use Rattle.sc_world.specs.declared.world.World.{World}
use Rattle.sc_propagation.specs.Steps.{AreListed, added}
use Rattle.sc_search.specs.declared.searching.Found.{Found}
use Rattle.sc_search.specs.declared.searching.Found.TheVariants.{Refuted, Consistent, Spent}
use Rattle.sc_search.specs.Findings as found
use Rattle.sc_footprint.specs.Problems.{Posed, atoms}
use Rattle.sc_footprint.specs.Definitions.{defining}
use Rattle.sc_footprint.specs.Theories.{IsClauseOf}
use Rattle.sc_footprint.specs.Truths.{truths, IsTrueIn, Satisfies, IsUnsatisfiable}
use Rattle.sc_footprint.specs.Written.{is_instance}
use Rattle.sc_checker.specs.Verdicts.{IsAccepted}
use Rattle.sc_checker.specs.Writable.{is_writable}
use Rattle.sc_theory_search.specs.Findings.{IsConsistent, IsSpent}
use Rattle.sc_theory_search.proofs.ListLaws.{has_of, contains_of, has_right}
use Rattle.sc_theory_search.proofs.StepLaws.{AllHold}
use Rattle.sc_theory_search.proofs.UnitLaws.{units_add, units_listed, units_are, units_writable, units_hold, refutation_adds, refutation_writable, refutation_never}

-- ---- what the search is given, and what it finds

module _ (p : Posed) (n : ℕ) (clauses : List Clause) (count : n ≡ length (atoms p)) (are : clauses ≡ defining p) where
  moved : (P : ℕ → List Clause → Type 0) → P n clauses → P (length (atoms p)) (defining p)
  moved P h = subst (λ (cs : List Clause). P (length (atoms p)) cs) are (subst (λ (k : ℕ). P k clauses) count h)

  pub clauses_listed : ((c : Clause) → Contains (defining p) c → IsClauseOf p c) → (c : Clause) → Contains clauses c → AreListed n c
  clauses_listed lawful c h =
      subst (λ (k : ℕ). AreListed k c) (sym count) (λ l k. (lawful c (subst (λ (cs : List Clause). Contains cs c) are h) l k).0)

  module _ (has : Instance → Type 0) (clause_of : Instance → Clause) where
    pub refutation_found : (budget : ℕ) (f : Found) (steps : List Step) → f ≡ Refuted steps → found.IfRefuted (found.IsRefutation n has clause_of clauses budget) f
        → found.IsRefutation (length (atoms p)) has clause_of (defining p) budget steps
    refutation_found budget f steps e h =
        moved (λ (k : ℕ) (cs : List Clause). found.IsRefutation k has clause_of cs budget steps) (subst (λ (g : Found). found.IfRefuted (found.IsRefutation n has clause_of clauses budget) g) e h)

    pub consistent_found : (f : Found) (m : Assignment) → f ≡ Consistent m → found.IfConsistent (found.IsConsistent n has clause_of clauses) f → IsConsistent has clause_of p m
    consistent_found f m e h =
        let c = moved (λ (k : ℕ) (cs : List Clause). found.IsConsistent k has clause_of cs m) (subst (λ (g : Found). found.IfConsistent (found.IsConsistent n has clause_of clauses) g) e h) in
        record { total = c.total; defined = c.keeps_clauses; ruled = c.keeps_instances }

    pub spent_found : (budget : ℕ) (f : Found) (steps : List Step) → f ≡ Spent steps → found.IfSpent (found.IsSpent n has clause_of clauses budget) f
        → found.IsSpent (length (atoms p)) has clause_of (defining p) budget steps
    spent_found budget f steps e h =
        moved (λ (k : ℕ) (cs : List Clause). found.IsSpent k has clause_of cs budget steps) (subst (λ (g : Found). found.IfSpent (found.IsSpent n has clause_of clauses budget) g) e h)

module _ (p : Posed) (has : Instance → Type 0) (clause_of : Instance → Clause) where
  pub refuted_writable : ((i : Instance) → has i → is_instance i ≡ true) → (budget : ℕ) (steps : List Step) → found.IsRefutation (length (atoms p)) has clause_of (defining p) budget steps → IsTrue (list_all is_writable steps)
  refuted_writable written budget steps r = refutation_writable (length (atoms p)) has clause_of (defining p) budget steps r written

  pub spent_writable : ((i : Instance) → has i → is_instance i ≡ true) → (budget : ℕ) (steps : List Step) → found.IsSpent (length (atoms p)) has clause_of (defining p) budget steps → IsTrue (list_all is_writable steps)
  spent_writable written budget steps s = units_writable (length (atoms p)) has clause_of written (defining p) steps s.are_units

  module _ (told : (w : World) (i : Instance) → Satisfies p w → has i → IsTrueIn p w (clause_of i)) (true_laws : (w : World) (c : Clause) → Satisfies p w → Contains (defining p) c → IsTrueIn p w c) where
    all_true : (w : World) → Satisfies p w → AllHold (truths p w) (defining p)
    all_true w s c h = true_laws w c s (contains_of (defining p) c h)

    pub refuted : (most budget : ℕ) (steps : List Step) → most ≤ budget → found.IsRefutation (length (atoms p)) has clause_of (defining p) most steps
        → IsAccepted has clause_of p steps × (length steps ≤ budget) × IsUnsatisfiable p
    refuted most budget steps enough r =
        let within = r.within in (
          record { before = _; steps_add = refutation_adds (length (atoms p)) has clause_of (defining p) most steps r },
          omega (arith, enough, within),
          λ w s. refutation_never (length (atoms p)) has clause_of (defining p) most steps r (truths p w) (λ i h. told w i s h) (all_true w s),
        )

    pub spent : (most budget : ℕ) (steps : List Step) → most ≡ budget → found.IsSpent (length (atoms p)) has clause_of (defining p) most steps → IsSpent has clause_of p budget steps
    spent most budget steps all s =
        record {
          clauses = map (added clause_of) steps;
          steps_add = units_add (length (atoms p)) has clause_of (defining p) steps s.are_units;
          count = s.count ∙ all;
          listed = λ c h. units_listed (length (atoms p)) has clause_of (defining p) steps s.are_units c (has_of (map (added clause_of) steps) c h);
          are_units = units_are (length (atoms p)) has clause_of (defining p) steps s.are_units;
          hold = λ w c sat h. units_hold (length (atoms p)) has clause_of (truths p w) (λ i k. told w i sat k) (defining p) steps (all_true w sat) s.are_units c
              (has_right (defining p) (map (added clause_of) steps) c (has_of (map (added clause_of) steps) c h));
          due = s.due;
        }
