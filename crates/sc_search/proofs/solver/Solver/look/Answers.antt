use Rattle.std.proofs.Common.{◌≡◌, ◌+◌, ◌-◌, ◌<◌, ◌++◌, [], ◌∷◌, ℕ, List, length, subst, sym, ap, ◌∙◌, true≢false, Option, IfSome, arith}
use Rattle.std.specs.List.{Contains}
use Rattle.sc_clauses.specs.Clauses.{Clause}
use Rattle.sc_clauses.specs.declared.step.Step.TheVariants.{Instance}
use Rattle.sc_search.proofs.GivenLaws.{given-unit}
use Rattle.sc_search.proofs.solver.Solver.look.Goals as goal
use Rattle.sc_search.specs.Given.{IsGiven}
use Rattle.sc_search.specs.Turns.{IsQuietNow, IsReady}
use Rattle.sc_search.specs.declared.giving.Given.{Given}

pub log-requires-clause-in_cells : goal.log-requires-clause-in_cells
log-requires-clause-in_cells g c =
    let A = g.S.Source.has_instance c.args.source.now in
    let K = g.S.Source.clause_of c.args.source.now in
    let given = c.in-Some.field-0 in
    let fact : IsGiven A K c.args.self.now.trail given = subst (λ (o : Option Given). IfSome o (IsGiven A K c.args.self.now.trail)) c.in-Some.is c.in_ok-next_kept.ensures in
    λ l has. fact.gives.in_cells l (subst (λ (d : Clause). Contains d l) c.as_slice.ensures has)

pub returns-in_ok-log-in-Some : goal.returns-in_ok-log-in-Some
returns-in_ok-log-in-Some g c =
    let A = g.S.Source.has_instance c.args.source.now in
    let K = g.S.Source.clause_of c.args.source.now in
    let s = c.args.self.now in
    let n = length s.trail.cells.items in
    let some : 0 < n = c.requires.some in
    let whole : n ≡ n - 1 + 1 = omega arith in
    let total = c.requires.total in
    let rest : IsQuietNow s = record { quiet = total.quiet; alive = total.alive } in
    let given = c.in-Some.field-0 in
    let fact : IsGiven A K s.trail given = subst (λ (o : Option Given). IfSome o (IsGiven A K s.trail)) c.in-Some.is c.in_ok-next_kept.ensures in
    let logged = c.in_ok-log-in-Some.ensures in (
      record {
        step = Instance given.instance;
        is_unit = given-unit A K (n - 1) s whole rest given fact;
        clauses_more = logged.clauses ∙ ap (λ (d : Clause). s.clauses ++ d ∷ []) (c.as_slice.ensures ∙ fact.clause_is);
        steps_more = logged.steps;
        ready = subst (λ (m : ℕ). IsReady m c.log.new.self) whole logged.ready;
      },
      λ h. true≢false (sym (c.is_spent.ensures.1 h) ∙ c.if-is_spent.false),
    )
