use Rattle.std.proofs.Common.{◌≡◌, ◌<◌, ◌∙◌, sym, true≢false, length, arith}
use Rattle.sc_propagation.proofs.VisitLaws.{keeps-others, moves-nowhere, rewatched-moves, rewatched-others, true-may}
use Rattle.sc_propagation.proofs.WatchingLaws.{watched-in-cells}
use Rattle.sc_propagation.proofs.trail.Trail.watch_true.Goals as goal
use Rattle.sc_propagation.specs.Watches.{watch_of}

pub kept_watched-requires-clause-in_cells : goal.kept_watched-requires-clause-in_cells
kept_watched-requires-clause-in_cells c =
    watched-in-cells _ c.args.clauses.now c.args.watches.now c.args.place c.requires.in_cells c.requires.watched.watching c.requires.satisfied.1.0

pub returns-in_default-clause-moves : goal.returns-in_default-clause-moves
returns-in_default-clause-moves c = moves-nowhere _ c.args.clauses.now c.args.self.now c.args.watches.now c.requires.trail c.requires.watched

pub returns-then-is_same-clause-moves : goal.returns-then-is_same-clause-moves
returns-then-is_same-clause-moves c = moves-nowhere _ c.args.clauses.now c.args.self.now c.args.watches.now c.requires.trail c.requires.watched

pub returns-then-is_same-clause-others : goal.returns-then-is_same-clause-others
returns-then-is_same-clause-others c = keeps-others c.args.self.now c.args.place c.args.watches.now

pub returns-in_default-clause-others : goal.returns-in_default-clause-others
returns-in_default-clause-others c = keeps-others c.args.self.now c.args.place c.args.watches.now

pub watch-requires-clause-within : goal.watch-requires-clause-within
watch-requires-clause-within c =
    let e = c.requires.watched.watching.paired in
    let lt : c.args.place < length c.args.clauses.now = c.requires.satisfied.1.0 in
    omega arith

pub watch-requires-clause-first : goal.watch-requires-clause-first
watch-requires-clause-first c =
    let w = c.requires.satisfied in
    let at = w.1 in
    let lt : c.args.lit.atom < length c.args.self.now.cells.items = (c.requires.in_cells w.0 (c.args.place, at.0, at.1) c.args.lit w.2).1 in
    λ sign. let e = c.requires.watched.watching.sized sign in omega arith

pub watch-requires-clause-second : goal.watch-requires-clause-second
watch-requires-clause-second c =
    let t = c.args.self.now in
    let l = c.in-Some.kept in
    let lt : l.atom < length t.cells.items =
    watched-in-cells _ c.args.clauses.now c.args.watches.now c.args.place c.requires.in_cells c.requires.watched.watching c.requires.satisfied.1.0 l c.in-Some.ensures.0 in
    λ sign. let e = c.requires.watched.watching.sized sign in omega arith

pub returns-clause-moves : goal.returns-clause-moves
returns-clause-moves c =
    let t = c.args.self.now in
    let w = c.requires.satisfied in
    let l = c.in-Some.kept in
    let own = c.requires.watched.watching.members c.args.place w.0 l w.1 c.in-Some.ensures.0 in
    rewatched-moves _ c.args.clauses.now t c.args.watches.now c.watch.new.self c.args.place w.0 (record { first = c.args.lit; second = l }) c.requires.trail c.requires.watched w.1
    (true-may _ c.args.clauses.now t (watch_of c.args.watches.now c.args.place) w.0 c.args.lit l c.requires.trail w.2 w.3 own c.in-Some.ensures.0 c.in-Some.ensures.1
    (λ (e : c.args.lit ≡ l). true≢false (sym (c.is_same.ensures.1 e) ∙ c.if-is_same.false))) c.in_ok-watch.ensures

pub returns-clause-others : goal.returns-clause-others
returns-clause-others c =
    let t = c.args.self.now in
    let w = c.requires.satisfied in
    let l = c.in-Some.kept in
    let own = c.requires.watched.watching.members c.args.place w.0 l w.1 c.in-Some.ensures.0 in
    rewatched-others _ c.args.clauses.now t c.args.watches.now c.watch.new.self c.args.place w.0 (record { first = c.args.lit; second = l }) c.requires.trail c.requires.watched w.1
    (true-may _ c.args.clauses.now t (watch_of c.args.watches.now c.args.place) w.0 c.args.lit l c.requires.trail w.2 w.3 own c.in-Some.ensures.0 c.in-Some.ensures.1
    (λ (e : c.args.lit ≡ l). true≢false (sym (c.is_same.ensures.1 e) ∙ c.if-is_same.false))) c.in_ok-watch.ensures
