use Rattle.std.proofs.Common.{◌≡◌, ℕ, length, subst, Option, rules}
use Rattle.sc_search.proofs.solver.Solver.come_to_rest.Goals as goal
use Rattle.sc_propagation.proofs.VisitLaws.{alive-seen}
use Rattle.sc_propagation.proofs.WatchingLaws.{all-quiet}
use Rattle.sc_propagation.specs.Trails.{true_before}
use Rattle.sc_propagation.specs.Visits.{AreAlive, HasPropagated}

pub returns-in-Some-clause-ready : goal.returns-in-Some-clause-ready
returns-in-Some-clause-ready c =
    let moves = c.in_ok-conflict.ensures.moves in
    record {
      in_cells = c.requires.in_cells;
      watched = moves.watched;
      trail = moves.goes_on.trail;
      seen = tt;
      marks = c.requires.marks;
    }

pub returns-in-Some-clause-calm : goal.returns-in-Some-clause-calm
returns-in-Some-clause-calm c =
    subst (λ (r : Option ℕ). HasPropagated c.args.self.now.clauses c.propagate.new.self c.propagate.new.watches r) c.in-Some.is c.in_ok-conflict.ensures.done

pub returns-clause-ready : goal.returns-clause-ready
returns-clause-ready c =
    let cs = c.args.self.now.clauses in
    let u = c.propagate.new.self in
    let v = c.propagate.new.watches in
    let moves = c.in_ok-conflict.ensures.moves in
    let alive : AreAlive cs u v = subst (λ (r : Option ℕ). HasPropagated cs u v r) c.in_default.is c.in_ok-conflict.ensures.done in
    let end : c.len-place.result ≡ length u.lits.items = search rules in
    record {
      in_cells = c.requires.in_cells;
      watched = moves.watched;
      trail = moves.goes_on.trail;
      seen = alive-seen cs u v c.len-place.result end alive;
      marks = c.requires.marks;
    }

pub returns-clause-calm : goal.returns-clause-calm
returns-clause-calm c =
    let cs = c.args.self.now.clauses in
    let u = c.propagate.new.self in
    let v = c.propagate.new.watches in
    let moves = c.in_ok-conflict.ensures.moves in
    let alive : AreAlive cs u v = subst (λ (r : Option ℕ). HasPropagated cs u v r) c.in_default.is c.in_ok-conflict.ensures.done in
    record {
      quiet = all-quiet _ cs v (true_before u.cells.items (length u.lits.items)) moves.watched.watching alive;
      alive = alive;
    }
