-- A clause that implies a literal or is falsified where propagation is at rest is new, and a lawful step.
use Rattle.std.proofs.Common.{◌≡◌, ◌≢◌, ⊎_elim, ℕ, ◌+◌, ◌<◌, Bool, true, false, not, length, sym, ap, ◌∙◌, subst, true≢false, arith}
use Rattle.std.specs.List.{Contains}
use Rattle.sc_lists.proofs.ListLaws.{contains_nothing}
use Rattle.sc_clauses.proofs.LitLaws.{negation_twice}
use Rattle.sc_clauses.specs.Clauses.{Clause, negation}
use Rattle.sc_clauses.specs.declared.lit.Lit.{Lit}
use Rattle.sc_clauses.specs.declared.step.Instance as instance
use Rattle.sc_clauses.specs.declared.step.Step.TheVariants.{Instance}
use Rattle.sc_propagation.proofs.WatchedLitLaws.{lit-cases}
use Rattle.sc_propagation.proofs.CellLaws.{consistent}
use Rattle.sc_propagation.proofs.NewnessLaws.{new-by, uncovered}
use Rattle.sc_search.specs.Findings.{IsUnit}
use Rattle.sc_propagation.specs.Giving.{Gives}
use Rattle.sc_search.specs.Given.{IsGiven}
use Rattle.sc_propagation.specs.Propagation.{IsNew}
use Rattle.sc_propagation.specs.Steps.{IsClause}
use Rattle.sc_propagation.specs.Trails.{true_before}
use Rattle.sc_search.specs.Turns.{IsQuietNow}
use Rattle.sc_search.specs.declared.giving.Given.{Given}
use Rattle.sc_search.specs.declared.solver.Solver.{Solver}

not-same : (b : Bool) → not b ≡ b → ⊥
not-same true e = cc
not-same false e = cc

not-itself : (l : Lit) → negation l ≡ l → ⊥
not-itself l e = not-same l.negated (ap (λ (x : Lit). x.negated) e)

module _ (s : Solver) (rest : IsQuietNow s) (C : Clause) (g : Gives s.trail C) where
  abbrev T : Lit → Bool
  T = true_before s.trail.cells.items (length s.trail.lits.items)

  single : (l : Lit) → T l ≡ true → T (negation l) ≡ false
  single = consistent s.trail.cells.items (length s.trail.lits.items)

  not-true : T g.lit ≡ false
  not-true = g.not_true

  others : (m : Lit) → Contains C m → m ≢ g.lit → T (negation m) ≡ true
  others = g.others

  pub given-new : IsNew s.clauses C
  given-new = (g.lit, new-by T single s.clauses rest.quiet C g.lit others g.has not-true)

  -- the implied literal doesn't stand with its negation
  given-apart : ¬ Contains C (negation g.lit)
  given-apart has = true≢false (sym (subst (λ (w : Lit). T w ≡ true) (negation_twice g.lit) (others (negation g.lit) has (λ e. not-itself g.lit e))) ∙ not-true)

  pub given-single : (m : Lit) → Contains C m → ¬ Contains C (negation m)
  given-single m has other =
      ⊎_elim
      (λ (e : m ≡ g.lit). given-apart (subst (λ (w : Lit). Contains C (negation w)) e other))
      (λ (ne : m ≢ g.lit).
      ⊎_elim
      (λ (e : negation m ≡ g.lit). true≢false (sym (subst (λ (w : Lit). T w ≡ true) e (others m has ne)) ∙ not-true))
      (λ (far : negation m ≢ g.lit).
      true≢false (sym (others m has ne) ∙ single m (subst (λ (w : Lit). T w ≡ true) (negation_twice m) (others (negation m) other far))))
      (lit-cases (negation m) g.lit))
      (lit-cases m g.lit)

  pub given-clause : (atoms : ℕ) → length s.trail.cells.items ≡ atoms + 1 → IsClause atoms C
  given-clause atoms e = λ m has.
      let w = g.in_cells m has in
      let lt : m.atom < length s.trail.cells.items = w.1 in
      ((w.0, omega arith), given-single m has)

pub given-unit : (has_instance : instance.Instance → Type 0) (clause_of : instance.Instance → Clause) (atoms : ℕ) (s : Solver) → length s.trail.cells.items ≡ atoms + 1 → IsQuietNow s → (g : Given) → IsGiven has_instance clause_of s.trail g
    → IsUnit atoms has_instance clause_of s.clauses (Instance g.instance)
given-unit has_instance clause_of atoms s e rest g given =
    let C = clause_of g.instance in
    let gives : Gives s.trail C = subst (λ (c : Clause). Gives s.trail c) given.clause_is given.gives in
    let is_new = given-new s rest C gives in
    record {
      is_lawful = (given.accepted, given-clause s rest C gives atoms e);
      some = λ nil. contains_nothing gives.lit (subst (λ (c : Clause). Contains c gives.lit) nil gives.has);
      uncovered = uncovered s.clauses C is_new;
      is_new = is_new;
    }
