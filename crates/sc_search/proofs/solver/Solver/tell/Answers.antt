use Rattle.std.proofs.Common.{◌≡◌, ◌+◌, ◌-◌, ◌<◌, ℕ, List, [], ◌∷◌, ◌++◌, length, refl, subst, sym, ap, ◌∙◌, true≢false, eqb, true, false, arith, Vec, Global}
use Rattle.std.proofs.lemmas.Bool.Decides.{Decides-eqb}
use Rattle.sc_clauses.specs.Clauses.{Clause}
use Rattle.sc_clauses.specs.declared.step.Step.{Step}
use Rattle.sc_clauses.specs.declared.step.Step.TheVariants.{Instance}
use Rattle.sc_propagation.proofs.LitLaws.{nil-of}
use Rattle.sc_search.proofs.SearchLaws.{told-due, told-in-cells, told-lawful, told-unit}
use Rattle.sc_search.proofs.solver.Solver.tell.Goals as goal
use Rattle.sc_propagation.specs.Trails.{AllInCells}
use Rattle.sc_search.specs.Turns.{IsReady}

pub attach-requires-clause-in_cells : goal.attach-requires-clause-in_cells
attach-requires-clause-in_cells g c =
    let A = g.S.Source.has_instance c.args.source.now in
    let K = g.S.Source.clause_of c.args.source.now in
    let s = c.args.self.now in
    let n = length s.trail.cells.items in
    let some : 0 < n = c.requires.some in
    let e : n ≡ n - 1 + 1 = omega arith in
    let ready = subst (λ (m : ℕ). IsReady m s) e c.requires.ready in
    subst (λ (d : Clause). AllInCells n d) (sym (c.as_slice.ensures ∙ c.in_ok-clause.ensures)) (told-in-cells A K (n - 1) s ready c.requires.total c.args.instance c.requires.accepted c.requires.falsified)

pub attach-requires-clause-alive : goal.attach-requires-clause-alive
attach-requires-clause-alive g c = λ e. c.requires.total.alive

pub returns-then-is_spent : goal.returns-then-is_spent
returns-then-is_spent g c =
    let A = g.S.Source.has_instance c.args.source.now in
    let K = g.S.Source.clause_of c.args.source.now in
    let s = c.args.self.now in
    let n = length s.trail.cells.items in
    let some : 0 < n = c.requires.some in
    let e : n ≡ n - 1 + 1 = omega arith in
    let ready = subst (λ (m : ℕ). IsReady m s) e c.requires.ready in
    (refl {A = List Step}, c.is_spent.ensures.0 c.if-is_spent.true, told-due A K (n - 1) s ready c.requires.total c.args.instance c.requires.accepted c.requires.falsified)

pub returns-then-is_empty : goal.returns-then-is_empty
returns-then-is_empty g c =
    let A = g.S.Source.has_instance c.args.source.now in
    let K = g.S.Source.clause_of c.args.source.now in
    let s = c.args.self.now in
    let n = length s.trail.cells.items in
    let C = c.in_ok-clause.clause in
    let some : 0 < n = c.requires.some in
    let e : n ≡ n - 1 + 1 = omega arith in
    let ready = subst (λ (m : ℕ). IsReady m s) e c.requires.ready in
    let none : length C ≡ 0 = (Decides-eqb (length C) 0).0 (sym c.is_empty-is_empty.ensures ∙ c.if-is_empty.true) in
    let nil : K c.args.instance ≡ [] = sym c.in_ok-clause.ensures ∙ nil-of C none in (
      record {
        step = Instance c.args.instance;
        is_lawful = told-lawful A K (n - 1) s ready c.requires.total c.args.instance c.requires.accepted c.requires.falsified;
        is_empty = nil;
        steps_more = c.in_ok-push.ensures.items ∙ ap (λ (v : Vec Step Global). v.items ++ Instance c.args.instance ∷ []) c.in_ok-attach.ensures.steps;
      },
      λ e. true≢false (sym (c.is_spent.ensures.1 e) ∙ c.if-is_spent.false),
    )

pub returns : goal.returns
returns g c =
    let A = g.S.Source.has_instance c.args.source.now in
    let K = g.S.Source.clause_of c.args.source.now in
    let s = c.args.self.now in
    let n = length s.trail.cells.items in
    let C = c.in_ok-clause.clause in
    let some : 0 < n = c.requires.some in
    let e : n ≡ n - 1 + 1 = omega arith in
    let ready = subst (λ (m : ℕ). IsReady m s) e c.requires.ready in
    let test : eqb (length C) 0 ≡ false = sym c.is_empty-is_empty.ensures ∙ c.if-is_empty.false in
    let not_nil = λ (nil : K c.args.instance ≡ []).
    let is : C ≡ [] = c.in_ok-clause.ensures ∙ nil in
    let none : eqb (length C) 0 ≡ true = (Decides-eqb (length C) 0).1 (ap length is) in
    true≢false (sym none ∙ test) in (
      record {
        step = Instance c.args.instance;
        is_unit = told-unit A K (n - 1) s ready c.requires.total c.args.instance c.requires.accepted c.requires.falsified not_nil;
        clauses_more = c.in_ok-attach.ensures.clauses ∙ ap (λ (d : Clause). s.clauses ++ d ∷ []) (c.as_slice.ensures ∙ c.in_ok-clause.ensures);
        steps_more = c.in_ok-push.ensures.items ∙ ap (λ (v : Vec Step Global). v.items ++ Instance c.args.instance ∷ []) c.in_ok-attach.ensures.steps;
        ready = let made = subst (λ (m : ℕ). IsReady m c.attach.new.self) e c.in_ok-attach.ensures.ready in record { in_cells = made.in_cells; watched = made.watched; trail = made.trail; seen = made.seen; marks = made.marks };
      },
      λ e. true≢false (sym (c.is_spent.ensures.1 e) ∙ c.if-is_spent.false),
    )
