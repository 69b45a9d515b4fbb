use Rattle.std.proofs.Common.{◌≡◌, ◌<◌, ◌≤◌, ◌-◌, ℕ, List, Some, length, get_or}
use Rattle.sc_schema_types.specs.declared.search.Mark.TheVariants.{Placed}
use Rattle.sc_schema_types.specs.Searches.{mark_in}
use Rattle.sc_schema_types.proofs.search.skip_placed.Given as goal

abbrev pub invariant-loop-name : goal.invariant-loop-name
invariant-loop-name l = (k : ℕ) (d : List ℕ) → l.from ≤ k → k < l.at → mark_in l.marks.entries (get_or l.names k d) ≡ Some Placed

abbrev pub decreases-loop-name : goal.decreases-loop-name
decreases-loop-name l = length l.names - l.at
