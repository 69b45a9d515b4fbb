use Rattle.std.proofs.Common.{◌≡◌, ◌<◌, ◌≤◌, ◌-◌, ℕ, length, map, get_or, subst, ◌∙◌, arith, rules}
use Rattle.std.proofs.lemmas.List.{get_or_default}
use Rattle.sc_refutations.specs.Arenas.{lit_of}
use Rattle.sc_propagation.proofs.RoomLaws.{room-none, room-some}
use Rattle.sc_propagation.proofs.trail.Trail.room.Goals as goal
use Rattle.sc_propagation.specs.Rooms.{IsOpenPair}

pub returns-in-Some : goal.returns-in-Some
returns-in-Some c =
    let t = c.args.self.now in
    let levels = t.levels.items in
    let j = c.down.level in
    let most : c.args.most ≤ length levels = c.requires.most in
    let le : j ≤ c.args.most = c.down.invariant in
    let some : 0 < j = search rules in
    let lt : j - 1 < length levels = omega arith in
    let at : c.index-place.result.now ≡ get_or levels (j - 1) 0 = c.index-place.ensures ∙ get_or_default levels (j - 1) _ 0 lt in
    room-some t.cells.items levels (length t.lits.items) (map lit_of c.args.clause.now) c.args.most j c.in-Some.watch c.requires.levels le (omega arith) some
    (subst (λ (q : ℕ). IsOpenPair t.cells.items q (map lit_of c.args.clause.now) c.in-Some.watch) at c.in-Some.ensures)

pub returns : goal.returns
returns c = room-none c.args.self.now.cells.items c.args.self.now.levels.items (map lit_of c.args.clause.now) c.args.most c.down.level (let n : c.down.level ≤ 0 = search rules in omega arith)
