use Rattle.std.proofs.Common.{◌≡◌, ◌-◌, ◌^◌, ◌<◌, ℕ, List, length, subst, sym, ap, ◌∙◌, Option, true, IfOk, IfSome, arith}
use Rattle.sc_clauses.specs.Assignments.{falsifies}
use Rattle.sc_clauses.specs.Clauses.{Clause}
use Rattle.sc_clauses.specs.declared.step.Instance.{Instance}
use Rattle.sc_clauses.specs.declared.step.Step.{Step}
use Rattle.sc_search.proofs.SearchLaws.{consistent-found, settled-result}
use Rattle.sc_search.proofs.solver.Solver.go_on.Goals as goal
use Rattle.sc_search.specs.Findings.{IsConsistent}
use Rattle.sc_search.specs.Turns.{IsAtRest, IsReady, IsTotal, IsTurn}

pub settle-requires-clause-ready : goal.settle-requires-clause-ready
settle-requires-clause-ready g c =
    let s = c.rest.new.self in
    let ready = c.in_ok-conflict.ensures.ready in
    subst (λ (m : ℕ). IsReady m s) (sym ready.trail.sized) ready

pub settle-requires-clause-falsified : goal.settle-requires-clause-falsified
settle-requires-clause-falsified g c = subst (λ (r : Option ℕ). IsAtRest c.rest.new.self r) c.in-Some.is c.in_ok-conflict.ensures.rest

pub settle-requires-clause-few_cells : goal.settle-requires-clause-few_cells
settle-requires-clause-few_cells g c = let k = c.in_ok-conflict.ensures.ready.trail.sized in let h = c.requires.few_cells in omega arith

pub settle-requires-clause-few_clauses : goal.settle-requires-clause-few_clauses
settle-requires-clause-few_clauses g c =
    let kept = c.in_ok-conflict.ensures.kept in
    λ ne.
    let same : length c.rest.new.self.clauses ≡ length c.args.self.now.clauses = ap length kept.clauses_kept in
    let few : length c.args.self.now.clauses < 10 ^ 18 = c.requires.few_clauses (λ e. ne (ap length kept.steps_kept ∙ e)) in
    omega arith

pub returns-in-Some : goal.returns-in-Some
returns-in-Some g c =
    let A = g.S.Source.has_instance c.args.source.now in
    let K = g.S.Source.clause_of c.args.source.now in
    let s = c.rest.new.self in
    let n = length c.args.self.now.trail.cells.items in
    let kept = c.in_ok-conflict.ensures.kept in
    let k : length s.trail.cells.items ≡ n = c.in_ok-conflict.ensures.ready.trail.sized in
    let some : 0 < n = c.requires.some in
    settled-result A K (length s.trail.cells.items) (n - 1) c.args.self.now.clauses s.clauses c.args.self.now.steps.items s.steps.items c.args.budget c.settle.new.self c.settle.result
    (omega arith) kept.clauses_kept kept.steps_kept c.settle.ensures

pub look-requires-clause-ready : goal.look-requires-clause-ready
look-requires-clause-ready g c =
    let ready = c.in_ok-conflict.ensures.ready in
    subst (λ (m : ℕ). IsReady m c.rest.new.self) (sym ready.trail.sized) ready

pub look-requires-clause-some : goal.look-requires-clause-some
look-requires-clause-some g c = let k = c.in_ok-conflict.ensures.ready.trail.sized in let some = c.requires.some in omega arith

pub look-requires-clause-total : goal.look-requires-clause-total
look-requires-clause-total g c = subst (λ (r : Option ℕ). IsAtRest c.rest.new.self r) c.in_default.is c.in_ok-conflict.ensures.rest

pub returns : goal.returns
returns g c =
    let A = g.S.Source.has_instance c.args.source.now in
    let K = g.S.Source.clause_of c.args.source.now in
    let s = c.rest.new.self in
    let n = length c.args.self.now.trail.cells.items in
    let kept = c.in_ok-conflict.ensures.kept in
    let k : length s.trail.cells.items ≡ n = c.in_ok-conflict.ensures.ready.trail.sized in
    subst (λ (ss : List Step). IfOk c.look.result (λ t. IsTurn (n - 1) A K c.args.self.now.clauses ss c.args.budget c.look.new.self t)) kept.steps_kept
    (subst (λ (cs : List Clause). IfOk c.look.result (λ t. IsTurn (n - 1) A K cs s.steps.items c.args.budget c.look.new.self t)) kept.clauses_kept
    (subst (λ (m : ℕ). IfOk c.look.result (λ t. IsTurn (m - 1) A K s.clauses s.steps.items c.args.budget c.look.new.self t)) k c.look.ensures))
