use Rattle.std.proofs.Common.{◌≡◌, ◌<◌, ◌≤◌, length, get_or, ap, ◌∙◌, rules, arith, Vec, Global, ℕ}
use Rattle.std.specs.Vec.{vec_len}
use Rattle.sc_graphs.specs.Paths.{node_at}
use Rattle.sc_graphs.proofs.LeaveLaws.{left_within, left_past, node_read, are_left_next}
use Rattle.sc_graphs.proofs.path.Search.leave.Goals as goal

pub index_mut-requires : goal.index_mut-requires
index_mut-requires c =
    let below : c.loop-place.place < length c.args.self.now.path.items = search rules in
    let inside : c.loop-place.place < length c.loop-place.self.path.items = search rules in
    let read : c.index-node.result.now ≡ get_or c.loop-place.self.path.items c.loop-place.place c.index-node.result.now = search rules in
    let is : c.index-node.result.now ≡ node_at c.args.self.now.path.items c.loop-place.place =
    node_read c.loop-place.self.path.items c.loop-place.place c.index-node.result.now inside read ∙ ap (λ (v : Vec ℕ Global). node_at v.items c.loop-place.place) c.loop-place.invariant.path in
    let size : vec_len c.loop-place.self.marks ≡ length c.loop-place.self.marks.items = search rules in
    let within : c.index-node.result.now < length c.loop-place.self.marks.items =
    left_within c.args.self.now.marks.items c.loop-place.self.marks.items c.args.self.now.path.items c.args.part.first c.loop-place.place c.index-node.result.now c.args.part.cyclic
    c.loop-place.invariant.left c.requires c.loop-place.invariant.from below is in
    omega (arith, within, size)

pub loop-place-preserved : goal.loop-place-preserved
loop-place-preserved c =
    let below : c.loop-place.place < length c.args.self.now.path.items = search rules in
    let inside : c.loop-place.place < length c.loop-place.self.path.items = search rules in
    let read : c.index-node.result.now ≡ get_or c.loop-place.self.path.items c.loop-place.place c.index-node.result.now = search rules in
    let is : c.index-node.result.now ≡ node_at c.args.self.now.path.items c.loop-place.place =
    node_read c.loop-place.self.path.items c.loop-place.place c.index-node.result.now inside read ∙ ap (λ (v : Vec ℕ Global). node_at v.items c.loop-place.place) c.loop-place.invariant.path in
    let from : c.args.part.first ≤ c.loop-place.place = c.loop-place.invariant.from in
    record {
      from = omega (arith, from);
      left = are_left_next c.args.self.now.marks.items c.loop-place.self.marks.items c.args.self.now.path.items c.args.part.first c.loop-place.place c.index-node.result.now c.args.part.cyclic
          c.loop-place.invariant.left c.requires c.loop-place.invariant.from below is;
      path = c.loop-place.invariant.path;
      parts = c.loop-place.invariant.parts;
      waiting = c.loop-place.invariant.waiting;
    }

pub returns-clause-marks : goal.returns-clause-marks
returns-clause-marks c = λ n.
    let whole : length c.args.self.now.path.items ≤ c.loop-place.place = search rules in
    c.loop-place.invariant.left.marks n
    ∙ left_past c.args.part.first (length c.args.self.now.path.items) c.loop-place.place c.args.part.cyclic _ whole (λ t is. (c.requires.places n t is).0)
