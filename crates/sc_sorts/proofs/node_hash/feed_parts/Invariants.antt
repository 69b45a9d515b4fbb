use Rattle.std.specs.Prelude.{◌≡◌, ◌≤◌, length, take}
use Rattle.std.specs.List.{flat_map, fold}
use Rattle.sc_sorts.specs.Hashing.{place_input}
use Rattle.sc_sorts.proofs.node_hash.feed_parts.Given as goal

abbrev pub invariant-loop-i : goal.invariant-loop-i
invariant-loop-i g l = (l.i ≤ length l.parts) × (l.state ≡ fold g.H.Hasher.write l.initial.state (flat_map place_input (take l.i l.parts)))
