use Rattle.std.specs.Prelude.{◌≡◌, ◌≤◌, length, take}
use Rattle.std.specs.List.{flat_map, fold}
use Rattle.sc_sorts.specs.Hashing.{piece_input}
use Rattle.sc_sorts.proofs.node_hash.feed_pieces.Given as goal

abbrev pub invariant-loop-i : goal.invariant-loop-i
invariant-loop-i g l = (l.i ≤ length l.pieces) × (l.state ≡ fold g.H.Hasher.write l.initial.state (flat_map piece_input (take l.i l.pieces)))
