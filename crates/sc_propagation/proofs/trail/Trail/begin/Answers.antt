use Rattle.std.proofs.Common.{◌≡◌, ◌+◌, inr, ℕ, List, ◌∷◌, [], ◌++◌, length, map, replicate, false, subst, sym, ap, ◌∙◌, Vec, Global}
use Rattle.sc_clauses.specs.declared.lit.Lit.{Lit}
use Rattle.sc_refutations.specs.Arenas.{lit_of}
use Rattle.sc_propagation.proofs.AnalysisLaws.{collected-fresh, refutes-first}
use Rattle.sc_propagation.proofs.WatchingLaws.{same-clause}
use Rattle.sc_propagation.proofs.trail.Trail.begin.Goals as goal
use Rattle.sc_propagation.specs.Analyses.{AreMet, RefutesMet}
use Rattle.sc_propagation.specs.Readings.{AreFalse}

pub clause_at-requires : goal.clause_at-requires
clause_at-requires c = c.requires.falsified.1.0

pub number_of-requires : goal.number_of-requires
number_of-requires c = c.requires.falsified.1.0

pub meet_all-requires-clause-in_cells : goal.meet_all-requires-clause-in_cells
meet_all-requires-clause-in_cells c =
    c.requires.in_cells (map lit_of c.clause_at.result.now) (c.args.conflict, c.clause_at.ensures.0, c.clause_at.ensures.1)

pub meet_all-requires-clause-may_be_met : goal.meet_all-requires-clause-may_be_met
meet_all-requires-clause-may_be_met c =
    let f = c.requires.falsified in
    let same : f.0 ≡ map lit_of c.clause_at.result.now = same-clause c.args.clauses.now c.args.conflict _ _ f.1 c.clause_at.ensures in
    let none : AreFalse c.args.self.now.cells.items (length c.args.self.now.lits.items) (map lit_of c.clause_at.result.now) =
    subst (λ (d : List Lit). AreFalse c.args.self.now.cells.items (length c.args.self.now.lits.items) d) same f.2 in
    λ m has. inr (none m has)

pub meet_all-requires-clause-collected : goal.meet_all-requires-clause-collected
meet_all-requires-clause-collected c =
    collected-fresh _ c.args.self.now.cells.items c.args.first _ _ (c.clear.ensures.met ∙ ap (λ (k : ℕ). replicate k false) c.requires.sized) c.clear.ensures.lower

pub returns-clause-refutes : goal.returns-clause-refutes
returns-clause-refutes c =
    let f = c.requires.falsified in
    let cells = c.args.self.now.cells.items in
    let p = length c.args.self.now.lits.items in
    let met = c.meet_all.new.analysis.met in
    let same : f.0 ≡ map lit_of c.clause_at.result.now = same-clause c.args.clauses.now c.args.conflict _ _ f.1 c.clause_at.ensures in
    let all : AreMet met f.0 = subst (λ (d : List Lit). AreMet met d) (sym same) c.in_ok-meet_all.ensures.met in
    subst (λ (hs : List ℕ). RefutesMet c.args.clauses.now cells p p met hs)
    (sym (c.in_ok-push.ensures.items ∙ ap (λ (h : ℕ). c.meet_all.new.analysis.hints.items ++ h ∷ []) c.number_of.ensures
    ∙ ap (λ (hs : Vec ℕ Global). hs.items ++ (c.args.conflict + 1) ∷ []) c.in_ok-meet_all.ensures.hints
    ∙ ap (λ (hs : List ℕ). hs ++ (c.args.conflict + 1) ∷ []) c.clear.ensures.hints))
    (refutes-first c.args.clauses.now cells p c.args.conflict met f.0 f.1 f.2 all)
