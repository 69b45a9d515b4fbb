use Rattle.std.proofs.Common.{◌≡◌, ◌<◌, ◌≤◌, ◌++◌, ◌∷◌, [], List, length, map, subst, sym, ap, ◌∙◌, arith, rules}
use Rattle.std.specs.List.{All, Contains}
use Rattle.sc_clauses.specs.Clauses.{Clause}
use Rattle.sc_refutations.specs.Arenas.{lit_of}
use Rattle.sc_propagation.proofs.RoomLaws.{all-of, attached-seen, attached-trail, attached-watched, in-cells-more}
use Rattle.sc_search.proofs.solver.Solver.attach.Goals as goal
use Rattle.sc_propagation.specs.Rooms.{IsRoom}
use Rattle.sc_propagation.specs.Trails.{AreInCells, HoldsTrail}
use Rattle.sc_propagation.specs.Visits.{AreAliveBut, IsWellWatched}

pub room-room-requires-clause-in_cells : goal.room-room-requires-clause-in_cells
room-room-requires-clause-in_cells c =
    let same : map lit_of c.deref.result.now ≡ c.args.clause.now = ap (map lit_of) c.deref.ensures.value ∙ c.in_ok-codes.ensures in
    subst (λ (d : Clause). All (λ m. m.atom < length c.args.self.now.trail.cells.items) d) (sym same)
    (all-of (λ m. m.atom < length c.args.self.now.trail.cells.items) c.args.clause.now (λ m has. (c.requires.in_cells m has).1))

pub go_back-requires-clause-within : goal.go_back-requires-clause-within
go_back-requires-clause-within c =
    let few : c.args.most ≤ length c.args.self.now.trail.levels.items = c.requires.most in
    let le = c.room-room.ensures.within in
    omega arith

pub add-requires : goal.add-requires
add-requires c =
    λ l sign watched.
    let same : map lit_of c.deref.result.now ≡ c.args.clause.now = ap (map lit_of) c.deref.ensures.value ∙ c.in_ok-codes.ensures in
    let within = c.requires.in_cells l (subst (λ (d : Clause). Contains d l) same (c.room-room.ensures.members l watched)) in
    let lt : l.atom < length c.args.self.now.trail.cells.items = within.1 in
    let e = c.requires.ready.watched.watching.sized sign in
    omega arith

pub returns-clause-clauses : goal.returns-clause-clauses
returns-clause-clauses c =
    let again : map lit_of c.deref-2.result.now ≡ c.args.clause.now = ap (map lit_of) c.deref-2.ensures.value ∙ c.in_ok-codes.ensures in
    c.in_ok-push.ensures ∙ ap (λ (d : Clause). c.args.self.now.clauses ++ d ∷ []) again

pub returns-clause-ready : goal.returns-clause-ready
returns-clause-ready c =
    let s = c.args.self.now in
    let t = s.trail in
    let n = length t.cells.items in
    let u = c.go_back.new.self in
    let w = s.watches in
    let v = c.add.new.self in
    let cs = s.clauses in
    let C = c.args.clause.now in
    let r = c.room-room.result in
    let same : map lit_of c.deref.result.now ≡ C = ap (map lit_of) c.deref.ensures.value ∙ c.in_ok-codes.ensures in
    let again : map lit_of c.deref-2.result.now ≡ C = ap (map lit_of) c.deref-2.ensures.value ∙ c.in_ok-codes.ensures in
    let pushed : c.push.new.self ≡ cs ++ C ∷ [] = c.in_ok-push.ensures ∙ ap (λ (d : Clause). cs ++ d ∷ []) again in
    let room = subst (λ (d : Clause). IsRoom t.cells.items t.levels.items d c.args.most r) same c.room-room.ensures in
    let after : HoldsTrail n cs u = c.go_back.ensures.trail in
    let back = c.go_back.ensures in
    let count : c.len-place.result ≡ length cs = search rules in
    let ready = c.requires.ready in
    record {
      in_cells = subst (λ (ds : List Clause). AreInCells n ds) (sym pushed) (in-cells-more n cs C ready.in_cells c.requires.in_cells);
      watched = subst (λ (ds : List Clause). IsWellWatched n ds u v) (sym pushed)
          (attached-watched n cs C t u w v c.args.most r ready.trail ready.watched after room c.requires.most c.requires.alive back.levels back.start back.end back.kept c.in_ok-add.ensures);
      trail = subst (λ (ds : List Clause). HoldsTrail n ds u) (sym pushed)
          (attached-trail n cs C t u w v c.args.most r ready.trail ready.watched after room c.requires.most c.requires.alive back.levels back.start back.end back.kept c.in_ok-add.ensures);
      seen = subst (λ (ds : List Clause). AreAliveBut ds u v c.len-place.result) (sym pushed)
          (attached-seen n cs C t u w v c.args.most r ready.trail ready.watched after room c.requires.most c.requires.alive back.levels back.start back.end back.kept c.in_ok-add.ensures c.len-place.result count);
      marks = ready.marks;
    }
