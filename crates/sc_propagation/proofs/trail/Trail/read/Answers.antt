use Rattle.std.proofs.Common.{inl, ◌<◌, length, map, subst, arith}
use Rattle.std.specs.List.{Contains}
use Rattle.sc_clauses.specs.Clauses.{Clause}
use Rattle.sc_refutations.specs.Arenas.{lit_of}
use Rattle.sc_propagation.proofs.ReadingLaws.{reason-of}
use Rattle.sc_propagation.proofs.VisitLaws.{goes-implied, implied-alive, keeps-others, moves-nowhere, moves-trail, open-may, rewatched-moves, rewatched-others, rewatched-visited}
use Rattle.sc_propagation.proofs.WatchingLaws.{same-clause}
use Rattle.sc_propagation.proofs.trail.Trail.read.Goals as goal
use Rattle.sc_propagation.specs.Readings.{AreTwoOpen, IsUnitAt}
use Rattle.sc_propagation.specs.Trails.{InCells, IsReason, true_before}
use Rattle.sc_propagation.specs.Visits.{GoesOn}
use Rattle.sc_propagation.specs.Watching.{IsAlive}
use Rattle.sc_propagation.specs.Watches.{watch_of}

pub status-requires-clause-in_cells : goal.status-requires-clause-in_cells
status-requires-clause-in_cells c =
    c.requires.in_cells (map lit_of c.clause_at.result.now) (c.args.place, c.clause_at.ensures.0, c.clause_at.ensures.1)

pub watch_true-requires-clause-satisfied : goal.watch_true-requires-clause-satisfied
watch_true-requires-clause-satisfied c = (map lit_of c.clause_at.result.now, c.clause_at.ensures, c.in-Satisfied.ensures.0, c.in-Satisfied.ensures.1)

pub returns-in_ok-watch_true-in-Satisfied-clause-visited : goal.returns-in_ok-watch_true-in-Satisfied-clause-visited
returns-in_ok-watch_true-in-Satisfied-clause-visited c =
    let C = map lit_of c.clause_at.result.now in
    let l = c.in-Satisfied.lit in
    let has = c.in-Satisfied.ensures in
    λ d at. inl (l, subst (λ (x : Clause). Contains x l) (same-clause c.args.clauses.now c.args.place C d c.clause_at.ensures at) has.0, has.1)

pub watch-requires-clause-within : goal.watch-requires-clause-within
watch-requires-clause-within c = let e = c.requires.watched.watching.paired in let lt : c.args.place < length c.args.clauses.now = c.requires.within in omega arith

pub watch-requires-clause-first : goal.watch-requires-clause-first
watch-requires-clause-first c =
    let t = c.args.self.now in
    let C = map lit_of c.clause_at.result.now in
    let both : AreTwoOpen t.cells.items C c.in-Open.watch = c.in-Open.ensures in
    let within : InCells (length t.cells.items) c.in-Open.watch.first = c.requires.in_cells C (c.args.place, c.clause_at.ensures.0, c.clause_at.ensures.1) c.in-Open.watch.first both.0 in
    λ sign. let e = c.requires.watched.watching.sized sign in let lt : c.in-Open.watch.first.atom < length t.cells.items = within.1 in omega arith

pub watch-requires-clause-second : goal.watch-requires-clause-second
watch-requires-clause-second c =
    let t = c.args.self.now in
    let C = map lit_of c.clause_at.result.now in
    let both : AreTwoOpen t.cells.items C c.in-Open.watch = c.in-Open.ensures in
    let within : InCells (length t.cells.items) c.in-Open.watch.second = c.requires.in_cells C (c.args.place, c.clause_at.ensures.0, c.clause_at.ensures.1) c.in-Open.watch.second both.1 in
    λ sign. let e = c.requires.watched.watching.sized sign in let lt : c.in-Open.watch.second.atom < length t.cells.items = within.1 in omega arith

pub returns-in_ok-watch-in-Open-clause-moves : goal.returns-in_ok-watch-in-Open-clause-moves
returns-in_ok-watch-in-Open-clause-moves c =
    let t = c.args.self.now in
    let C = map lit_of c.clause_at.result.now in
    let both : AreTwoOpen t.cells.items C c.in-Open.watch = c.in-Open.ensures in
    rewatched-moves _ c.args.clauses.now t c.args.watches.now c.watch.new.self c.args.place C c.in-Open.watch c.requires.trail c.requires.watched c.clause_at.ensures
    (open-may t (watch_of c.args.watches.now c.args.place) C c.in-Open.watch both) c.in_ok-watch-in-Open.ensures

pub returns-in_ok-watch-in-Open-clause-visited : goal.returns-in_ok-watch-in-Open-clause-visited
returns-in_ok-watch-in-Open-clause-visited c =
    let t = c.args.self.now in
    let C = map lit_of c.clause_at.result.now in
    let both : AreTwoOpen t.cells.items C c.in-Open.watch = c.in-Open.ensures in
    rewatched-visited _ c.args.clauses.now t c.args.watches.now c.watch.new.self c.args.place C c.in-Open.watch c.requires.trail c.requires.watched c.clause_at.ensures
    (open-may t (watch_of c.args.watches.now c.args.place) C c.in-Open.watch both) c.in_ok-watch-in-Open.ensures

pub returns-in_ok-watch-in-Open-clause-others : goal.returns-in_ok-watch-in-Open-clause-others
returns-in_ok-watch-in-Open-clause-others c =
    let t = c.args.self.now in
    let C = map lit_of c.clause_at.result.now in
    let both : AreTwoOpen t.cells.items C c.in-Open.watch = c.in-Open.ensures in
    rewatched-others _ c.args.clauses.now t c.args.watches.now c.watch.new.self c.args.place C c.in-Open.watch c.requires.trail c.requires.watched c.clause_at.ensures
    (open-may t (watch_of c.args.watches.now c.args.place) C c.in-Open.watch both) c.in_ok-watch-in-Open.ensures

pub imply-requires : goal.imply-requires
imply-requires c =
    let t = c.args.self.now in
    let C = map lit_of c.clause_at.result.now in
    let l = c.in-Unit.lit in
    let u : IsUnitAt t.cells.items (length t.lits.items) C l = c.in-Unit.ensures in
    (c.requires.in_cells C (c.args.place, c.clause_at.ensures.0, c.clause_at.ensures.1) l u.0).1

pub returns-in_ok-imply-in-Unit-clause-moves : goal.returns-in_ok-imply-in-Unit-clause-moves
returns-in_ok-imply-in-Unit-clause-moves c =
    let t = c.args.self.now in
    let n = length t.cells.items in
    let cs = c.args.clauses.now in
    let C = map lit_of c.clause_at.result.now in
    let l = c.in-Unit.lit in
    let u : IsUnitAt t.cells.items (length t.lits.items) C l = c.in-Unit.ensures in
    let within : InCells n l = c.requires.in_cells C (c.args.place, c.clause_at.ensures.0, c.clause_at.ensures.1) l u.0 in
    let why : IsReason cs t.cells.items l (length t.lits.items) c.args.place = reason-of cs t.cells.items (length t.lits.items) c.args.place C l c.clause_at.ensures u in
    let made = c.in_ok-imply-in-Unit.ensures in
    let goes : GoesOn n cs t c.imply.new.self = goes-implied n cs t c.imply.new.self l c.args.place c.requires.trail u.1 within why made.cells made.lits made.levels in
    moves-trail n cs t c.imply.new.self c.args.watches.now c.requires.trail c.requires.watched goes

pub returns-in_ok-imply-in-Unit-clause-visited : goal.returns-in_ok-imply-in-Unit-clause-visited
returns-in_ok-imply-in-Unit-clause-visited c =
    let t = c.args.self.now in
    let n = length t.cells.items in
    let new = c.imply.new.self in
    let cs = c.args.clauses.now in
    let C = map lit_of c.clause_at.result.now in
    let l = c.in-Unit.lit in
    let u : IsUnitAt t.cells.items (length t.lits.items) C l = c.in-Unit.ensures in
    let within : InCells n l = c.requires.in_cells C (c.args.place, c.clause_at.ensures.0, c.clause_at.ensures.1) l u.0 in
    let why : IsReason cs t.cells.items l (length t.lits.items) c.args.place = reason-of cs t.cells.items (length t.lits.items) c.args.place C l c.clause_at.ensures u in
    let made = c.in_ok-imply-in-Unit.ensures in
    let o = watch_of c.args.watches.now c.args.place in
    let alive : IsAlive (true_before new.cells.items (length new.lits.items)) o C = implied-alive n cs t new l c.args.place c.requires.trail u.1 within why made.cells made.lits made.levels o C u.0 in
    λ d at.
    subst (λ (x : Clause). IsAlive (true_before new.cells.items (length new.lits.items)) o x) (same-clause cs c.args.place C d c.clause_at.ensures at) alive

pub returns-in_ok-imply-in-Unit-clause-others : goal.returns-in_ok-imply-in-Unit-clause-others
returns-in_ok-imply-in-Unit-clause-others c = keeps-others c.args.self.now c.args.place c.args.watches.now

pub returns-in-Falsified-clause-moves : goal.returns-in-Falsified-clause-moves
returns-in-Falsified-clause-moves c = moves-nowhere _ c.args.clauses.now c.args.self.now c.args.watches.now c.requires.trail c.requires.watched

pub returns-in-Falsified-clause-others : goal.returns-in-Falsified-clause-others
returns-in-Falsified-clause-others c = keeps-others c.args.self.now c.args.place c.args.watches.now
