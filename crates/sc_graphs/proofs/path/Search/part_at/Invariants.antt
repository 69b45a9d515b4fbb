use Rattle.std.proofs.Common.{◌≡◌, ◌≤◌, ◌<◌, ◌∷◌, ◌++◌, [], ℕ, List, length}
use Rattle.sc_graphs.specs.Paths.{AreParts, IsJoining}
use Rattle.sc_graphs.proofs.path.Search.part_at.Given as goal

abbrev pub invariant-loop-part : goal.invariant-loop-part
invariant-loop-part l = record {
  marks : l.self.marks ≡ l.initial.self.marks;
  path : l.self.path ≡ l.initial.self.path;
  waiting : l.self.waiting ≡ l.initial.self.waiting;
  fewer : length l.self.parts.items ≤ length l.initial.self.parts.items;
  joining : (graph : List (List ℕ)) (path waiting : List ℕ) (end held : ℕ) → l.place < end
      → AreParts graph path waiting (l.initial.self.parts.items ++ l.fn.last ∷ []) end held
      → IsJoining graph path waiting (l.initial.self.parts.items ++ l.fn.last ∷ []) l.self.parts.items l.part l.place end held;
}

abbrev pub decreases-loop-part : goal.decreases-loop-part
decreases-loop-part l = length l.self.parts.items
