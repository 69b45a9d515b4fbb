use Rattle.std.proofs.Common.{◌≡◌, ◌-◌, ◌^◌, ◌<◌, ℕ, List, length, subst, sym, ap, ◌∙◌, Option, IfOk, arith}
use Rattle.sc_clauses.specs.Clauses.{Clause}
use Rattle.sc_clauses.specs.declared.step.Step.{Step}
use Rattle.sc_search.proofs.solver.Solver.turn.Goals as goal
use Rattle.sc_search.specs.Turns.{HasBegun, IsKept, IsReady, IsTurn}
use Rattle.sc_search.specs.declared.solver.Turn.{Turn}

pub go_on-requires-clause-ready : goal.go_on-requires-clause-ready
go_on-requires-clause-ready g c =
    let s = c.begin.new.self in
    let n = length c.args.self.now.trail.cells.items in
    let fact : IsReady n s × IsKept c.args.self.now.clauses c.args.self.now.steps.items s =
    subst (λ (o : Option Turn). HasBegun n (g.S.Source.has_instance c.args.source.now) (g.S.Source.clause_of c.args.source.now) c.args.self.now.clauses c.args.self.now.steps.items c.args.budget s o) c.in-None.is c.in_ok-turn.ensures in
    subst (λ (m : ℕ). IsReady m s) (sym fact.0.trail.sized) fact.0

pub go_on-requires-clause-some : goal.go_on-requires-clause-some
go_on-requires-clause-some g c =
    let s = c.begin.new.self in
    let n = length c.args.self.now.trail.cells.items in
    let fact : IsReady n s × IsKept c.args.self.now.clauses c.args.self.now.steps.items s =
    subst (λ (o : Option Turn). HasBegun n (g.S.Source.has_instance c.args.source.now) (g.S.Source.clause_of c.args.source.now) c.args.self.now.clauses c.args.self.now.steps.items c.args.budget s o) c.in-None.is c.in_ok-turn.ensures in
    let k = fact.0.trail.sized in
    let some = c.requires.some in
    omega arith

pub go_on-requires-clause-few_cells : goal.go_on-requires-clause-few_cells
go_on-requires-clause-few_cells g c =
    let s = c.begin.new.self in
    let n = length c.args.self.now.trail.cells.items in
    let fact : IsReady n s × IsKept c.args.self.now.clauses c.args.self.now.steps.items s =
    subst (λ (o : Option Turn). HasBegun n (g.S.Source.has_instance c.args.source.now) (g.S.Source.clause_of c.args.source.now) c.args.self.now.clauses c.args.self.now.steps.items c.args.budget s o) c.in-None.is c.in_ok-turn.ensures in
    let k = fact.0.trail.sized in
    let few = c.requires.few_cells in
    omega arith

pub go_on-requires-clause-few_clauses : goal.go_on-requires-clause-few_clauses
go_on-requires-clause-few_clauses g c =
    let s = c.begin.new.self in
    let n = length c.args.self.now.trail.cells.items in
    let fact : IsReady n s × IsKept c.args.self.now.clauses c.args.self.now.steps.items s =
    subst (λ (o : Option Turn). HasBegun n (g.S.Source.has_instance c.args.source.now) (g.S.Source.clause_of c.args.source.now) c.args.self.now.clauses c.args.self.now.steps.items c.args.budget s o) c.in-None.is c.in_ok-turn.ensures in
    λ ne.
    let same : length s.clauses ≡ length c.args.self.now.clauses = ap length fact.1.clauses_kept in
    let few : length c.args.self.now.clauses < 10 ^ 18 = c.requires.few_clauses (λ e. ne (ap length fact.1.steps_kept ∙ e)) in
    omega arith

pub returns-in-Some : goal.returns-in-Some
returns-in-Some g c =
    subst (λ (o : Option Turn). HasBegun (length c.args.self.now.trail.cells.items) (g.S.Source.has_instance c.args.source.now) (g.S.Source.clause_of c.args.source.now) c.args.self.now.clauses c.args.self.now.steps.items c.args.budget c.begin.new.self o)
    c.in-Some.is c.in_ok-turn.ensures

pub returns-in-None : goal.returns-in-None
returns-in-None g c =
    let A = g.S.Source.has_instance c.args.source.now in
    let K = g.S.Source.clause_of c.args.source.now in
    let s = c.begin.new.self in
    let n = length c.args.self.now.trail.cells.items in
    let fact : IsReady n s × IsKept c.args.self.now.clauses c.args.self.now.steps.items s =
    subst (λ (o : Option Turn). HasBegun n A K c.args.self.now.clauses c.args.self.now.steps.items c.args.budget s o) c.in-None.is c.in_ok-turn.ensures in
    let kept = fact.1 in
    let k : length s.trail.cells.items ≡ n = fact.0.trail.sized in
    subst (λ (ss : List Step). IfOk c.go_on.result (λ t. IsTurn (n - 1) A K c.args.self.now.clauses ss c.args.budget c.go_on.new.self t)) kept.steps_kept
    (subst (λ (cs : List Clause). IfOk c.go_on.result (λ t. IsTurn (n - 1) A K cs s.steps.items c.args.budget c.go_on.new.self t)) kept.clauses_kept
    (subst (λ (m : ℕ). IfOk c.go_on.result (λ t. IsTurn (m - 1) A K s.clauses s.steps.items c.args.budget c.go_on.new.self t)) k c.go_on.ensures))
