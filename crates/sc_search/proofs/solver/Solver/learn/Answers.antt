use Rattle.std.proofs.Common.{◌≡◌, ◌<◌, List, ◌∷◌, [], ◌++◌, length, subst, sym, ap, ◌∙◌, arith, rules, Vec, Global}
use Rattle.sc_clauses.specs.Clauses.{Clause, negation}
use Rattle.sc_clauses.specs.declared.lit.Lit.{Lit}
use Rattle.sc_clauses.specs.declared.step.Step.{Step}
use Rattle.sc_clauses.specs.declared.step.Step.TheVariants.{Learned}
use Rattle.sc_propagation.proofs.RoomLaws.{learned-in-cells, learned-shown}
use Rattle.sc_search.proofs.solver.Solver.learn.Goals as goal
use Rattle.sc_propagation.specs.Analyses.{IsResolvent}
use Rattle.sc_propagation.specs.Propagation.{IsNew}
use Rattle.sc_propagation.specs.Trails.{AllInCells}

pub attach-requires-clause-ready : goal.attach-requires-clause-ready
attach-requires-clause-ready c = let ready = c.requires.ready in record { in_cells = ready.in_cells; watched = ready.watched; trail = ready.trail; seen = ready.seen; marks = c.in_ok-lower.ensures.sized }

pub attach-requires-clause-in_cells : goal.attach-requires-clause-in_cells
attach-requires-clause-in_cells c =
    let t = c.args.self.now.trail in
    let cells = t.cells.items in
    let trail = t.lits.items in
    let n = length cells in
    let cs = c.args.self.now.clauses in
    let first = c.level_start-first.result in
    let f = c.in_ok-lower.field-0 in
    let C = negation f.uip ∷ f.lower.items in
    let learned : IsResolvent cs cells (length trail) first f.lower.items f.uip f.hints.items = c.in_ok-lower.ensures.resolvent in
    let within = learned-in-cells n cs cells trail t.levels.items c.requires.ready.trail first c.level_start-first.ensures.highest f.lower.items f.uip f.hints.items learned in
    let lits : c.insert.new.self.items ≡ C = ◌∙◌ {A = List Lit} c.in_ok-insert.ensures.items (ap (λ (w : Lit). w ∷ f.lower.items) c.negation.ensures) in
    let is : c.deref-2.result.now ≡ C = c.deref-2.ensures.value ∙ lits in
    subst (λ (ls : List Lit). AllInCells n ls) (sym is) within

pub attach-requires-clause-most : goal.attach-requires-clause-most
attach-requires-clause-most c = let le = c.most_levels-most.ensures in let e : c.len.result ≡ length c.args.self.now.trail.levels.items = search rules in omega arith

pub attach-requires-clause-alive : goal.attach-requires-clause-alive
attach-requires-clause-alive c =
    let le = c.most_levels-most.ensures in
    let e : c.len.result ≡ length c.args.self.now.trail.levels.items = search rules in
    let some : 0 < length c.args.self.now.trail.levels.items = c.requires.some in
    λ same. absurd (omega arith)

pub returns : goal.returns
returns c =
    let t = c.args.self.now.trail in
    let cells = t.cells.items in
    let trail = t.lits.items in
    let levels = t.levels.items in
    let n = length cells in
    let cs = c.args.self.now.clauses in
    let first = c.level_start-first.result in
    let f = c.in_ok-lower.field-0 in
    let C = negation f.uip ∷ f.lower.items in
    let highest = c.level_start-first.ensures.highest in
    let learned : IsResolvent cs cells (length trail) first f.lower.items f.uip f.hints.items = c.in_ok-lower.ensures.resolvent in
    let lits : c.insert.new.self.items ≡ C = ◌∙◌ {A = List Lit} c.in_ok-insert.ensures.items (ap (λ (w : Lit). w ∷ f.lower.items) c.negation.ensures) in
    let is : c.deref-2.result.now ≡ C = c.deref-2.ensures.value ∙ lits in
    let logged : c.from_vec.result ≡ C = c.from_vec.ensures ∙ lits in
    let made = c.in_ok-attach.ensures in
    record {
      ready = record { in_cells = made.ready.in_cells; watched = made.ready.watched; trail = made.ready.trail; seen = made.ready.seen; marks = made.ready.marks };
      step = record { clause = c.from_vec.result; hints = c.from_vec-2.result };
      clauses_more = made.clauses ∙ ap (λ (d : Clause). cs ++ d ∷ []) (is ∙ sym logged);
      steps_more = c.in_ok-push.ensures.items ∙ ap (λ (v : Vec Step Global). v.items ++ Learned (record { clause = c.from_vec.result; hints = c.from_vec-2.result }) ∷ []) made.steps;
      is_shown = λ atoms e. learned-shown n cs cells trail levels c.requires.ready.trail first highest f.lower.items f.uip f.hints.items learned atoms (record { clause = c.from_vec.result; hints = c.from_vec-2.result })
          e c.requires.few_cells c.requires.few_clauses logged c.from_vec-2.ensures;
      is_new = subst (λ (ls : List Lit). IsNew cs ls) (sym logged) learned.is_new;
    }
