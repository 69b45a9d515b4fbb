use Rattle.std.proofs.Common.{◌≡◌, ◌≢◌, ◌+◌, ◌-◌, ℕ, List, length, subst, sym, ap, ◌∙◌, arith}
use Rattle.sc_clauses.specs.declared.step.Step.{Step}
use Rattle.sc_search.proofs.SearchLaws.{consistent-given, count-after, count-more, refutation, searching-more, spent}
use Rattle.sc_search.proofs.solver.Solver.find.Goals as goal
use Rattle.sc_search.specs.Findings.{IsConsistent, IsDue, IsRefutation, IsSpent}
use Rattle.sc_search.specs.Turns.{HasAdded, HasEnded, IsReady, IsTurn}
use Rattle.sc_search.specs.declared.solver.Turn.{Turn}
use Rattle.sc_search.specs.declared.solver.Turn.TheVariants as turn

pub turn-requires-clause-ready : goal.turn-requires-clause-ready
turn-requires-clause-ready g c =
    let s = c.turns.self in
    let ready = c.turns.invariant.ready in
    subst (λ (m : ℕ). IsReady m s) (sym ready.trail.sized) ready

pub turn-requires-clause-some : goal.turn-requires-clause-some
turn-requires-clause-some g c = let k = c.turns.invariant.ready.trail.sized in omega arith

pub turn-requires-clause-few_cells : goal.turn-requires-clause-few_cells
turn-requires-clause-few_cells g c = let k = c.turns.invariant.ready.trail.sized in let some = c.requires.some in let few = c.requires.few_cells in omega arith

pub turn-requires-clause-few_clauses : goal.turn-requires-clause-few_clauses
turn-requires-clause-few_clauses g c =
    let K = g.S.Source.clause_of c.args.source.now in
    let s = c.turns.self in
    let le = c.turns.invariant.within in
    let few = c.requires.few_clauses in
    let count : length s.clauses ≡ length c.args.self.now.clauses + length s.steps.items = ap length c.turns.invariant.clauses_are ∙ count-after K c.args.self.now.clauses s.steps.items in
    λ ne. omega arith

pub turns-smaller : goal.turns-smaller
turns-smaller g c =
    let atoms = length c.args.self.now.trail.cells.items - 1 in
    let A = g.S.Source.has_instance c.args.source.now in
    let K = g.S.Source.clause_of c.args.source.now in
    let s = c.turns.self in
    let n = length s.trail.cells.items in
    let size : n ≡ atoms + 1 = c.turns.invariant.ready.trail.sized in
    let e : n - 1 ≡ atoms = omega arith in
    let fact : HasAdded atoms A K s.clauses s.steps.items c.turn.new.self × (length s.steps.items ≢ c.args.budget) =
    subst (λ (m : ℕ). IsTurn m A K s.clauses s.steps.items c.args.budget c.turn.new.self turn.Added) e
    (subst (λ (t : Turn). IsTurn (n - 1) A K s.clauses s.steps.items c.args.budget c.turn.new.self t) c.in-Added.is c.in_ok-turn.ensures) in
    let more = count-more A K atoms c.args.self.now.clauses c.args.budget s c.turn.new.self c.turns.invariant fact.0 in
    let le = c.turns.invariant.within in
    let ne = fact.1 in
    omega arith

pub turns-preserved : goal.turns-preserved
turns-preserved g c =
    let atoms = length c.args.self.now.trail.cells.items - 1 in
    let A = g.S.Source.has_instance c.args.source.now in
    let K = g.S.Source.clause_of c.args.source.now in
    let s = c.turns.self in
    let n = length s.trail.cells.items in
    let size : n ≡ atoms + 1 = c.turns.invariant.ready.trail.sized in
    let e : n - 1 ≡ atoms = omega arith in
    let fact : HasAdded atoms A K s.clauses s.steps.items c.turn.new.self × (length s.steps.items ≢ c.args.budget) =
    subst (λ (m : ℕ). IsTurn m A K s.clauses s.steps.items c.args.budget c.turn.new.self turn.Added) e
    (subst (λ (t : Turn). IsTurn (n - 1) A K s.clauses s.steps.items c.args.budget c.turn.new.self t) c.in-Added.is c.in_ok-turn.ensures) in
    searching-more A K atoms c.args.self.now.clauses c.args.budget s c.turn.new.self c.turns.invariant fact.0 fact.1

pub returns-in-Refuted-clause-refuted : goal.returns-in-Refuted-clause-refuted
returns-in-Refuted-clause-refuted g c =
    let atoms = length c.args.self.now.trail.cells.items - 1 in
    let A = g.S.Source.has_instance c.args.source.now in
    let K = g.S.Source.clause_of c.args.source.now in
    let s = c.turns.self in
    let n = length s.trail.cells.items in
    let size : n ≡ atoms + 1 = c.turns.invariant.ready.trail.sized in
    let e : n - 1 ≡ atoms = omega arith in
    let fact : HasEnded atoms A K s.clauses s.steps.items c.turn.new.self × (length s.steps.items ≢ c.args.budget) =
    subst (λ (m : ℕ). IsTurn m A K s.clauses s.steps.items c.args.budget c.turn.new.self turn.Refuted) e
    (subst (λ (t : Turn). IsTurn (n - 1) A K s.clauses s.steps.items c.args.budget c.turn.new.self t) c.in-Refuted.is c.in_ok-turn.ensures) in
    subst (λ (ss : List Step). IsRefutation atoms A K c.args.self.now.clauses c.args.budget ss) (sym c.take_steps.ensures)
    (refutation A K atoms c.args.self.now.clauses c.args.budget s c.turn.new.self c.turns.invariant fact.0 fact.1)

pub returns-in-Consistent-clause-consistent : goal.returns-in-Consistent-clause-consistent
returns-in-Consistent-clause-consistent g c =
    let atoms = length c.args.self.now.trail.cells.items - 1 in
    let A = g.S.Source.has_instance c.args.source.now in
    let K = g.S.Source.clause_of c.args.source.now in
    let s = c.turns.self in
    let n = length s.trail.cells.items in
    let size : n ≡ atoms + 1 = c.turns.invariant.ready.trail.sized in
    let e : n - 1 ≡ atoms = omega arith in
    let fact : IsConsistent atoms A K s.clauses c.in-Consistent.m =
    subst (λ (m : ℕ). IsConsistent m A K s.clauses c.in-Consistent.m) e
    (subst (λ (t : Turn). IsTurn (n - 1) A K s.clauses s.steps.items c.args.budget c.turn.new.self t) c.in-Consistent.is c.in_ok-turn.ensures) in
    consistent-given A K atoms c.args.self.now.clauses c.args.budget s c.turn.new.self c.turns.invariant c.in-Consistent.m fact

pub returns-in-Spent-clause-spent : goal.returns-in-Spent-clause-spent
returns-in-Spent-clause-spent g c =
    let atoms = length c.args.self.now.trail.cells.items - 1 in
    let A = g.S.Source.has_instance c.args.source.now in
    let K = g.S.Source.clause_of c.args.source.now in
    let s = c.turns.self in
    let n = length s.trail.cells.items in
    let fact : (c.turn.new.self.steps.items ≡ s.steps.items) × (length s.steps.items ≡ c.args.budget) × IsDue A K s.clauses =
    subst (λ (t : Turn). IsTurn (n - 1) A K s.clauses s.steps.items c.args.budget c.turn.new.self t) c.in-Spent.is c.in_ok-turn.ensures in
    subst (λ (ss : List Step). IsSpent atoms A K c.args.self.now.clauses c.args.budget ss) (sym c.take_steps-in-Spent.ensures)
    (spent A K atoms c.args.self.now.clauses c.args.budget s c.turn.new.self c.turns.invariant fact.0 fact.1 fact.2)
