-- Why the solver's answers are right: what a search asks are instances of the problem's rules.
use Rattle.std.proofs.Common.{◌≡◌, ◌≤◌, ℕ, List, [], ◌∷◌, ◌++◌, length, subst}
use Rattle.sc_clauses.specs.Clauses.{Clause}
use Rattle.sc_clauses.specs.declared.step.Step.{Step}
use Rattle.sc_footprint.specs.Definitions.{defining}
use Rattle.sc_footprint.specs.Problems.{Posed, atoms}
use Rattle.sc_footprint.specs.Truths.{IsUnsatisfiable}
use Rattle.sc_checker.specs.Verdicts.{Adds, IsAccepted}
use Rattle.sc_checker.proofs.VerdictLaws.{adds_by_more}
use Rattle.sc_theory_search.specs.Findings as found
use Rattle.sc_theory_search.specs.declared.finding.Finding.{Finding}
use Rattle.sc_theory_search.specs.declared.finding.Finding.TheVariants as finding
use Rattle.sc_clauses.specs.Assignments.{Assignment}
use Rattle.sc_solver.specs.Theories.{HasRule, HasOtherRule, rule_clause}
use Rattle.sc_solver.specs.RuleLaws.{other_is}
use Rattle.sc_solver.specs.Rebuilding.{IsConsistent}
use Rattle.sc_solver.specs.Solutions.{IsSpent}

module _ (p : Posed) where
  by_all : (steps : List Step) (cs : List Clause) → Adds (HasOtherRule p) (rule_clause p) (length (atoms p)) (defining p) steps cs → Adds (HasRule p) (rule_clause p) (length (atoms p)) (defining p) steps cs
  by_all steps cs adds = adds_by_more (HasOtherRule p) (HasRule p) (rule_clause p) (λ i h. other_is p i h) (length (atoms p)) (defining p) steps cs adds

  module _ (budget : ℕ) (f : Finding) (h : found.IsFinding (HasOtherRule p) (rule_clause p) p budget f) where
    moved : (g : Finding) → f ≡ g → found.IsFinding (HasOtherRule p) (rule_clause p) p budget g
    moved g e = subst (λ (x : Finding). found.IsFinding (HasOtherRule p) (rule_clause p) p budget x) e h

    pub consistent : (m : Assignment) → f ≡ finding.Consistent m → IsConsistent p m
    consistent m e = moved (finding.Consistent m) e

    pub refuted : (log : List Step) → f ≡ finding.Refuted log
        → IsAccepted (HasRule p) (rule_clause p) p log × (length log ≤ budget) × IsUnsatisfiable p
    refuted log e = let k = moved (finding.Refuted log) e in (record { before = k.0.before; steps_add = by_all log (k.0.before ++ [] ∷ []) k.0.steps_add }, k.1, k.2)

    pub spent : (log : List Step) → f ≡ finding.Spent log → IsSpent p budget log
    spent log e =
        let s : found.IsSpent (HasOtherRule p) (rule_clause p) p budget log = moved (finding.Spent log) e in
        record {
          clauses = s.clauses;
          steps_add = by_all log s.clauses s.steps_add;
          count = s.count;
          listed = s.listed;
          are_units = s.are_units;
          hold = s.hold;
          due = s.due;
        }
