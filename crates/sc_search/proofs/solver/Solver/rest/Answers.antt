use Rattle.std.proofs.Common.{◌≡◌, ◌+◌, ◌<◌, ◌≤◌, ℕ, length, subst, sym, ap, Option, refl, arith, rules}
use Rattle.std.proofs.Math.ListN.{set}
use Rattle.sc_clauses.specs.declared.lit.Lit.{Lit}
use Rattle.sc_propagation.proofs.TrailLaws.{trail-decide-to, free-set}
use Rattle.sc_search.proofs.solver.Solver.rest.Goals as goal
use Rattle.sc_propagation.proofs.VisitLaws.{alive-seen, decided-seen, decided-watched, moves-among}
use Rattle.sc_propagation.proofs.WatchingLaws.{all-quiet}
use Rattle.sc_propagation.specs.Trails.{AreInCells, AreQuiet, HoldsTrail, InCells, cell_of, free_count, true_before}
use Rattle.sc_propagation.specs.Visits.{AreAlive, HasPropagated, IsWellWatched, MovesOn}
use Rattle.sc_propagation.specs.declared.cell.Cell.TheVariants.{Free, Decided}

pub propagate-requires-clause-in_cells : goal.propagate-requires-clause-in_cells
propagate-requires-clause-in_cells c =
    let n = length c.args.self.now.trail.cells.items in
    let k : length c.moves.self.trail.cells.items ≡ n = c.moves.invariant.ready.trail.sized in
    subst (λ (m : ℕ). AreInCells m c.moves.self.clauses) (sym k) c.moves.invariant.ready.in_cells

pub propagate-requires-clause-trail : goal.propagate-requires-clause-trail
propagate-requires-clause-trail c =
    let n = length c.args.self.now.trail.cells.items in
    let t = c.moves.self.trail in
    let k : length t.cells.items ≡ n = c.moves.invariant.ready.trail.sized in
    subst (λ (m : ℕ). HoldsTrail m c.moves.self.clauses t) (sym k) c.moves.invariant.ready.trail

pub propagate-requires-clause-watched : goal.propagate-requires-clause-watched
propagate-requires-clause-watched c =
    let n = length c.args.self.now.trail.cells.items in
    let s = c.moves.self in
    let k : length s.trail.cells.items ≡ n = c.moves.invariant.ready.trail.sized in
    subst (λ (m : ℕ). IsWellWatched m s.clauses s.trail s.watches) (sym k) c.moves.invariant.ready.watched

pub returns-in-Some-clause-ready : goal.returns-in-Some-clause-ready
returns-in-Some-clause-ready c =
    let n = length c.args.self.now.trail.cells.items in
    let was = c.moves.self in
    let ready = c.moves.invariant.ready in
    let moves : MovesOn n was.clauses was.trail was.watches c.propagate.new.self c.propagate.new.watches =
    moves-among n _ was.clauses was.trail was.watches c.propagate.new.self c.propagate.new.watches ready.trail.sized c.in_ok-conflict.ensures.moves in
    record {
      in_cells = ready.in_cells;
      watched = moves.watched;
      trail = moves.goes_on.trail;
      seen = tt;
      marks = ready.marks;
    }

pub returns-in-Some-clause-rest : goal.returns-in-Some-clause-rest
returns-in-Some-clause-rest c =
    let t = c.propagate.new.self in
    subst (λ (r : Option ℕ). HasPropagated c.moves.self.clauses t c.propagate.new.watches r) c.in-Some.is c.in_ok-conflict.ensures.done

pub returns-in_default-choose-clause-ready : goal.returns-in_default-choose-clause-ready
returns-in_default-choose-clause-ready c =
    let n = length c.args.self.now.trail.cells.items in
    let was = c.moves.self in
    let u = c.propagate.new.self in
    let v = c.propagate.new.watches in
    let ready = c.moves.invariant.ready in
    let moves : MovesOn n was.clauses was.trail was.watches u v = moves-among n _ was.clauses was.trail was.watches u v ready.trail.sized c.in_ok-conflict.ensures.moves in
    let alive : AreAlive was.clauses u v =
    subst (λ (r : Option ℕ). HasPropagated was.clauses u v r) c.in_default.is c.in_ok-conflict.ensures.done in
    let end : c.len-place.result ≡ length u.lits.items = search rules in
    record {
      in_cells = ready.in_cells;
      watched = moves.watched;
      trail = moves.goes_on.trail;
      seen = alive-seen was.clauses u v c.len-place.result end alive;
      marks = ready.marks;
    }

pub returns-in_default-choose-clause-rest : goal.returns-in_default-choose-clause-rest
returns-in_default-choose-clause-rest c =
    let n = length c.args.self.now.trail.cells.items in
    let was = c.moves.self in
    let u = c.propagate.new.self in
    let v = c.propagate.new.watches in
    let ready = c.moves.invariant.ready in
    let moves : MovesOn n was.clauses was.trail was.watches u v = moves-among n _ was.clauses was.trail was.watches u v ready.trail.sized c.in_ok-conflict.ensures.moves in
    let alive : AreAlive was.clauses u v =
    subst (λ (r : Option ℕ). HasPropagated was.clauses u v r) c.in_default.is c.in_ok-conflict.ensures.done in
    record {
      quiet = all-quiet n was.clauses v (true_before u.cells.items (length u.lits.items)) moves.watched.watching alive;
      alive = alive;
      full = c.in_default-choose.ensures;
    }

pub moves-smaller : goal.moves-smaller
moves-smaller c =
    let was = c.moves.self.trail in
    let u = c.propagate.new.self in
    let l : Lit = record { atom = c.in-Some-choose.atom; negated = c.is_negated-negated.result } in
    let choice = c.in-Some-choose.ensures in
    let within : l.atom < length u.cells.items = choice.1 in
    let free : cell_of u.cells.items l ≡ Free = choice.2 in
    let e : free_count (set u.cells.items l.atom (Decided l.negated (length u.lits.items))) + 1 ≡ free_count u.cells.items = free-set u.cells.items l.atom _ free within refl in
    let f : free_count c.decide.new.self.cells.items ≡ free_count (set u.cells.items l.atom (Decided l.negated (length u.lits.items))) = ap free_count c.in_ok-decide.ensures.cells in
    let goes = c.in_ok-conflict.ensures.moves.goes_on in
    let counted : free_count u.cells.items + length u.lits.items ≡ free_count was.cells.items + length was.lits.items = goes.counted in
    let longer : length was.lits.items ≤ length u.lits.items = goes.longer in
    let h : free_count c.decide.new.self.cells.items < free_count was.cells.items = omega arith in
    h

pub moves-preserved : goal.moves-preserved
moves-preserved c =
    let n = length c.args.self.now.trail.cells.items in
    let was = c.moves.self in
    let cs = was.clauses in
    let u = c.propagate.new.self in
    let w = c.propagate.new.watches in
    let v = c.decide.new.self in
    let ready = c.moves.invariant.ready in
    let moves : MovesOn n cs was.trail was.watches u w = moves-among n _ cs was.trail was.watches u w ready.trail.sized c.in_ok-conflict.ensures.moves in
    let sound : HoldsTrail n cs u = moves.goes_on.trail in
    let alive : AreAlive cs u w =
    subst (λ (r : Option ℕ). HasPropagated cs u w r) c.in_default.is c.in_ok-conflict.ensures.done in
    let quiet : AreQuiet (true_before u.cells.items (length u.lits.items)) cs = all-quiet n cs w (true_before u.cells.items (length u.lits.items)) moves.watched.watching alive in
    let l : Lit = record { atom = c.in-Some-choose.atom; negated = c.is_negated-negated.result } in
    let choice = c.in-Some-choose.ensures in
    let within : l.atom < length u.cells.items = choice.1 in
    let free : cell_of u.cells.items l ≡ Free = choice.2 in
    let size : length u.cells.items ≡ n = sound.sized in
    let in_range : InCells n l = (choice.0, omega arith) in
    let made = c.in_ok-decide.ensures in
    let decided : HoldsTrail n cs v = trail-decide-to n cs u.cells.items u.lits.items u.levels.items l sound free in_range quiet v.cells.items v.lits.items v.levels.items made.cells made.lits made.levels in
    let end : c.len-place.result ≡ length u.lits.items = search rules in
    record {
      ready = record {
        in_cells = ready.in_cells;
        watched = decided-watched n cs u v w l sound free in_range alive moves.watched decided made.cells made.lits made.levels;
        trail = decided;
        seen = decided-seen n cs u v w l sound free in_range alive moves.watched decided made.cells made.lits made.levels c.len-place.result end;
        marks = ready.marks;
      };
      kept = record { clauses_kept = c.moves.invariant.kept.clauses_kept; steps_kept = c.moves.invariant.kept.steps_kept };
    }
