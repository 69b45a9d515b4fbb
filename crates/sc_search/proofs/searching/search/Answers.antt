use Rattle.std.proofs.Common.{◌≡◌, ◌+◌, ◌-◌, ℕ, List, length, subst, sym, ap, arith, IfOk}
use Rattle.sc_clauses.specs.Clauses.{Clause}
use Rattle.sc_search.proofs.SearchLaws.{listed-in-cells, searching-begins}
use Rattle.sc_search.proofs.searching.search.Goals as goal
use Rattle.sc_search.specs.Findings.{IfConsistent, IfRefuted, IfSpent, IsConsistent, IsRefutation, IsSpent}
use Rattle.sc_search.specs.Turns.{IsSearching}

pub new-requires-clause-in_cells : goal.new-requires-clause-in_cells
new-requires-clause-in_cells g c = listed-in-cells c.args.atoms c.args.clauses.now c.requires.listed

pub find-requires-clause-begun : goal.find-requires-clause-begun
find-requires-clause-begun g c =
    let A = g.S.Source.has_instance c.args.source.now in
    let K = g.S.Source.clause_of c.args.source.now in
    let s = c.in_ok-solver.solver in
    let made = c.in_ok-solver.ensures in
    let size : length s.trail.cells.items ≡ c.args.atoms + 1 = made.count in
    let e : c.args.atoms ≡ length s.trail.cells.items - 1 = omega arith in
    subst (λ (m : ℕ). IsSearching m A K s.clauses c.args.budget s) e
    (subst (λ (cs : List Clause). IsSearching c.args.atoms A K cs c.args.budget s) (sym made.clauses)
    (searching-begins A K c.args.atoms c.args.clauses.now c.args.budget s c.requires.listed made.watched made.trail made.seen made.clauses made.steps made.marks))

pub find-requires-clause-some : goal.find-requires-clause-some
find-requires-clause-some g c = let size = c.in_ok-solver.ensures.count in omega arith

pub find-requires-clause-few_cells : goal.find-requires-clause-few_cells
find-requires-clause-few_cells g c = let size = c.in_ok-solver.ensures.count in let few = c.requires.few_atoms in omega arith

pub find-requires-clause-few_clauses : goal.find-requires-clause-few_clauses
find-requires-clause-few_clauses g c =
    let few = c.requires.few_clauses in
    let same : length c.in_ok-solver.solver.clauses ≡ length c.args.clauses.now = ap length c.in_ok-solver.ensures.clauses in
    omega arith

pub returns-clause-refuted : goal.returns-clause-refuted
returns-clause-refuted g c =
    let A = g.S.Source.has_instance c.args.source.now in
    let K = g.S.Source.clause_of c.args.source.now in
    let s = c.in_ok-solver.solver in
    let size : length s.trail.cells.items ≡ c.args.atoms + 1 = c.in_ok-solver.ensures.count in
    let e : length s.trail.cells.items - 1 ≡ c.args.atoms = omega arith in
    subst (λ (m : ℕ). IfOk c.find.result (λ f. IfRefuted (IsRefutation m A K c.args.clauses.now c.args.budget) f)) e
    (subst (λ (cs : List Clause). IfOk c.find.result (λ f. IfRefuted (IsRefutation (length s.trail.cells.items - 1) A K cs c.args.budget) f)) c.in_ok-solver.ensures.clauses c.find.ensures.refuted)

pub returns-clause-consistent : goal.returns-clause-consistent
returns-clause-consistent g c =
    let A = g.S.Source.has_instance c.args.source.now in
    let K = g.S.Source.clause_of c.args.source.now in
    let s = c.in_ok-solver.solver in
    let size : length s.trail.cells.items ≡ c.args.atoms + 1 = c.in_ok-solver.ensures.count in
    let e : length s.trail.cells.items - 1 ≡ c.args.atoms = omega arith in
    subst (λ (m : ℕ). IfOk c.find.result (λ f. IfConsistent (IsConsistent m A K c.args.clauses.now) f)) e
    (subst (λ (cs : List Clause). IfOk c.find.result (λ f. IfConsistent (IsConsistent (length s.trail.cells.items - 1) A K cs) f)) c.in_ok-solver.ensures.clauses c.find.ensures.consistent)

pub returns-clause-spent : goal.returns-clause-spent
returns-clause-spent g c =
    let A = g.S.Source.has_instance c.args.source.now in
    let K = g.S.Source.clause_of c.args.source.now in
    let s = c.in_ok-solver.solver in
    let size : length s.trail.cells.items ≡ c.args.atoms + 1 = c.in_ok-solver.ensures.count in
    let e : length s.trail.cells.items - 1 ≡ c.args.atoms = omega arith in
    subst (λ (m : ℕ). IfOk c.find.result (λ f. IfSpent (IsSpent m A K c.args.clauses.now c.args.budget) f)) e
    (subst (λ (cs : List Clause). IfOk c.find.result (λ f. IfSpent (IsSpent (length s.trail.cells.items - 1) A K cs c.args.budget) f)) c.in_ok-solver.ensures.clauses c.find.ensures.spent)
