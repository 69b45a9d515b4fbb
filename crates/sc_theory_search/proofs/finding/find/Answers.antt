use Rattle.std.proofs.Common.{◌≤◌, List, length, sym, subst, arith}
use Rattle.sc_clauses.specs.declared.step.Step.{Step}
use Rattle.sc_footprint.specs.Truths.{IsUnsatisfiable}
use Rattle.sc_checker.specs.Verdicts.{IsAccepted}
use Rattle.sc_theory_search.specs.Findings.{IsSpent}
use Rattle.sc_theory_search.proofs.FindingLaws.{clauses_listed, refutation_found, spent_found, refuted, refuted_writable, spent, spent_writable}
use Rattle.sc_theory_search.proofs.finding.find.Goals as goal

pub search-requires-clause-listed : goal.search-requires-clause-listed
search-requires-clause-listed g c = clauses_listed c.args.problem.now _ _ c.atom_count.ensures c.in_ok-clauses.ensures (λ d h. c.defining_laws.ensures.lawful c.args.problem.now d c.laws.ensures h)

pub new-requires : goal.new-requires
new-requires g c =
    let found = rw (c.new-source.ensures.theory, c.new-source.ensures.problem) at c.in_ok-steps.ensures.refuted in
    let all = refutation_found c.args.problem.now _ _ c.atom_count.ensures c.in_ok-clauses.ensures (g.T.Theory.has_instance c.args.theory.now c.args.problem.now) (g.T.Theory.clause_of c.args.theory.now c.args.problem.now) c.units_within-most.result _ c.in-Refuted.steps c.in-Refuted.is found in
    refuted_writable c.args.problem.now (g.T.Theory.has_instance c.args.theory.now c.args.problem.now) (g.T.Theory.clause_of c.args.theory.now c.args.problem.now) (λ i h. g.met.T.Theory.written c.args.theory.now c.args.problem.now i c.laws.ensures h (c.requires.words i h)) c.units_within-most.result c.in-Refuted.steps all

pub returns-in-Refuted : goal.returns-in-Refuted
returns-in-Refuted g c =
    let found = rw (c.new-source.ensures.theory, c.new-source.ensures.problem) at c.in_ok-steps.ensures.refuted in
    let all = refutation_found c.args.problem.now _ _ c.atom_count.ensures c.in_ok-clauses.ensures (g.T.Theory.has_instance c.args.theory.now c.args.problem.now) (g.T.Theory.clause_of c.args.theory.now c.args.problem.now) c.units_within-most.result _ c.in-Refuted.steps c.in-Refuted.is found in
    subst (λ (steps : List Step). IsAccepted (g.T.Theory.has_instance c.args.theory.now c.args.problem.now) (g.T.Theory.clause_of c.args.theory.now c.args.problem.now) c.args.problem.now steps × (length steps ≤ c.args.budget) × IsUnsatisfiable c.args.problem.now) (sym c.new.ensures)
    (refuted c.args.problem.now (g.T.Theory.has_instance c.args.theory.now c.args.problem.now) (g.T.Theory.clause_of c.args.theory.now c.args.problem.now) (λ w i s h. g.met.T.Theory.sound c.args.theory.now c.args.problem.now i w c.problem_laws.ensures.terms c.laws.ensures h s.well_formed) (λ w d s h. c.defining_laws.ensures.holds c.args.problem.now w d c.laws.ensures s h) c.units_within-most.result c.args.budget c.in-Refuted.steps c.units_within-most.ensures.within all)

pub new-requires-in-Spent : goal.new-requires-in-Spent
new-requires-in-Spent g c =
    let found = rw (c.new-source.ensures.theory, c.new-source.ensures.problem) at c.in_ok-steps.ensures.spent in
    let all = spent_found c.args.problem.now _ _ c.atom_count.ensures c.in_ok-clauses.ensures (g.T.Theory.has_instance c.args.theory.now c.args.problem.now) (g.T.Theory.clause_of c.args.theory.now c.args.problem.now) c.units_within-most.result _ c.in-Spent.steps c.in-Spent.is found in
    spent_writable c.args.problem.now (g.T.Theory.has_instance c.args.theory.now c.args.problem.now) (g.T.Theory.clause_of c.args.theory.now c.args.problem.now) (λ i h. g.met.T.Theory.written c.args.theory.now c.args.problem.now i c.laws.ensures h (c.requires.words i h)) c.units_within-most.result c.in-Spent.steps all

pub returns : goal.returns
returns g c =
    let found = rw (c.new-source.ensures.theory, c.new-source.ensures.problem) at c.in_ok-steps.ensures.spent in
    let all = spent_found c.args.problem.now _ _ c.atom_count.ensures c.in_ok-clauses.ensures (g.T.Theory.has_instance c.args.theory.now c.args.problem.now) (g.T.Theory.clause_of c.args.theory.now c.args.problem.now) c.units_within-most.result _ c.in-Spent.steps c.in-Spent.is found in
    subst (IsSpent (g.T.Theory.has_instance c.args.theory.now c.args.problem.now) (g.T.Theory.clause_of c.args.theory.now c.args.problem.now) c.args.problem.now c.args.budget) (sym c.new-in-Spent.ensures) (spent c.args.problem.now (g.T.Theory.has_instance c.args.theory.now c.args.problem.now) (g.T.Theory.clause_of c.args.theory.now c.args.problem.now) (λ w i s h. g.met.T.Theory.sound c.args.theory.now c.args.problem.now i w c.problem_laws.ensures.terms c.laws.ensures h s.well_formed) (λ w d s h. c.defining_laws.ensures.holds c.args.problem.now w d c.laws.ensures s h) c.units_within-most.result c.args.budget c.in-Spent.steps (let within = c.units_within-most.ensures.within in omega (arith, within)) all)
