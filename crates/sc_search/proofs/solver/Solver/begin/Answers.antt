use Rattle.std.proofs.Common.{◌≡◌, ◌+◌, ◌-◌, ◌^◌, ◌<◌, ◌++◌, [], ◌∷◌, ℕ, List, length, subst, sym, ap, ◌∙◌, refl, true≢false, Option, IfSome, arith}
use Rattle.std.specs.List.{Contains}
use Rattle.sc_clauses.specs.Clauses.{Clause}
use Rattle.sc_clauses.specs.declared.step.Step.{Step}
use Rattle.sc_clauses.specs.declared.step.Step.TheVariants.{Instance}
use Rattle.sc_search.proofs.GivenLaws.{given-unit}
use Rattle.sc_search.proofs.SearchLaws.{settled-turn}
use Rattle.sc_search.proofs.solver.Solver.begin.Goals as goal
use Rattle.sc_search.specs.Given.{IsGiven}
use Rattle.sc_search.specs.Findings.{IsUnit}
use Rattle.sc_search.specs.Turns.{IsCalm, IsQuietNow, IsReady}
use Rattle.sc_search.specs.declared.giving.Given.{Given}

pub settle-requires-clause-ready : goal.settle-requires-clause-ready
settle-requires-clause-ready g c =
    let s = c.come_to_rest.new.self in
    let ready = c.in_ok-conflict.ensures.ready in
    subst (λ (m : ℕ). IsReady m s) (sym ready.trail.sized) ready

pub settle-requires-clause-falsified : goal.settle-requires-clause-falsified
settle-requires-clause-falsified g c = subst (λ (r : Option ℕ). IsCalm c.come_to_rest.new.self r) c.in-Some.is c.in_ok-conflict.ensures.calm

pub settle-requires-clause-few_cells : goal.settle-requires-clause-few_cells
settle-requires-clause-few_cells g c = let k = c.in_ok-conflict.ensures.ready.trail.sized in let h = c.requires.few_cells in omega arith

pub settle-requires-clause-few_clauses : goal.settle-requires-clause-few_clauses
settle-requires-clause-few_clauses g c =
    let kept = c.in_ok-conflict.ensures.kept in
    λ ne.
    let same : length c.come_to_rest.new.self.clauses ≡ length c.args.self.now.clauses = ap length kept.clauses_kept in
    let few : length c.args.self.now.clauses < 10 ^ 18 = c.requires.few_clauses (λ e. ne (ap length kept.steps_kept ∙ e)) in
    omega arith

pub returns-then-is_spent : goal.returns-then-is_spent
returns-then-is_spent g c = (c.requires.ready, record { clauses_kept = refl; steps_kept = refl })

pub returns-in-Some : goal.returns-in-Some
returns-in-Some g c =
    let A = g.S.Source.has_instance c.args.source.now in
    let K = g.S.Source.clause_of c.args.source.now in
    let s = c.come_to_rest.new.self in
    let n = length c.args.self.now.trail.cells.items in
    let kept = c.in_ok-conflict.ensures.kept in
    let k : length s.trail.cells.items ≡ n = c.in_ok-conflict.ensures.ready.trail.sized in
    let some : 0 < n = c.requires.some in
    settled-turn A K (length s.trail.cells.items) (n - 1) c.args.self.now.clauses s.clauses c.args.self.now.steps.items s.steps.items c.args.budget c.settle.new.self _
    (omega arith) kept.clauses_kept kept.steps_kept c.in_ok-settle.ensures

pub returns-in-None : goal.returns-in-None
returns-in-None g c =
    let ready = c.in_ok-conflict.ensures.ready in
    let kept = c.in_ok-conflict.ensures.kept in
    (record { in_cells = ready.in_cells; watched = ready.watched; trail = ready.trail; seen = ready.seen; marks = ready.marks }, record { clauses_kept = kept.clauses_kept; steps_kept = kept.steps_kept })

pub log-requires-clause-ready : goal.log-requires-clause-ready
log-requires-clause-ready g c =
    let s = c.come_to_rest.new.self in
    let ready = subst (λ (m : ℕ). IsReady m s) (sym c.in_ok-conflict.ensures.ready.trail.sized) c.in_ok-conflict.ensures.ready in
    record { in_cells = ready.in_cells; watched = ready.watched; trail = ready.trail; seen = ready.seen; marks = ready.marks }

pub log-requires-clause-in_cells : goal.log-requires-clause-in_cells
log-requires-clause-in_cells g c =
    let A = g.S.Source.has_instance c.args.source.now in
    let K = g.S.Source.clause_of c.args.source.now in
    let given = c.in-Some-given.field-0 in
    let fact : IsGiven A K c.come_to_rest.new.self.trail given = subst (λ (o : Option Given). IfSome o (IsGiven A K c.come_to_rest.new.self.trail)) c.in-Some-given.is c.in_ok-given.ensures in
    λ l has. fact.gives.in_cells l (subst (λ (d : Clause). Contains d l) c.as_slice.ensures has)

pub returns-in_ok-log-in-Some-given : goal.returns-in_ok-log-in-Some-given
returns-in_ok-log-in-Some-given g c =
    let A = g.S.Source.has_instance c.args.source.now in
    let K = g.S.Source.clause_of c.args.source.now in
    let n = length c.args.self.now.trail.cells.items in
    let s = c.come_to_rest.new.self in
    let kept = c.in_ok-conflict.ensures.kept in
    let size : length s.trail.cells.items ≡ n = c.in_ok-conflict.ensures.ready.trail.sized in
    let some : 0 < n = c.requires.some in
    let whole : length s.trail.cells.items ≡ n - 1 + 1 = omega arith in
    let rest : IsQuietNow s = subst (λ (r : Option ℕ). IsCalm s r) c.in_default.is c.in_ok-conflict.ensures.calm in
    let given = c.in-Some-given.field-0 in
    let fact : IsGiven A K s.trail given = subst (λ (o : Option Given). IfSome o (IsGiven A K s.trail)) c.in-Some-given.is c.in_ok-given.ensures in
    let logged = c.in_ok-log-in-Some-given.ensures in (
      record {
        step = Instance given.instance;
        is_unit = subst (λ (cs : List Clause). IsUnit (n - 1) A K cs (Instance given.instance)) kept.clauses_kept (given-unit A K (n - 1) s whole rest given fact);
        clauses_more = logged.clauses ∙ ap (λ (d : Clause). s.clauses ++ d ∷ []) (c.as_slice.ensures ∙ fact.clause_is) ∙ ap (λ (cs : List Clause). cs ++ K given.instance ∷ []) kept.clauses_kept;
        steps_more = logged.steps ∙ ap (λ (ss : List Step). ss ++ Instance given.instance ∷ []) kept.steps_kept;
        ready = subst (λ (m : ℕ). IsReady m c.log.new.self) whole logged.ready;
      },
      λ h. true≢false (sym (c.is_spent.ensures.1 h) ∙ c.if-is_spent.false),
    )
