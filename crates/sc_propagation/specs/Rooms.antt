-- The value of a cell, and the levels that a new clause leaves.
use Rattle.std.specs.Prelude.{◌<◌, ◌≤◌, ℕ, List, Bool, not, Option, Some, None}
use Rattle.std.specs.List.{Contains, slice_index_or}
use Rattle.sc_clauses.specs.declared.lit.Lit.{Lit}
use Rattle.sc_clauses.specs.Clauses.{Clause}
use Rattle.sc_propagation.specs.declared.cell.Cell.{Cell}
use Rattle.sc_propagation.specs.declared.cell.Cell.TheVariants.{Free, Decided, Implied}
use Rattle.sc_propagation.specs.declared.room.Room.{Room}
use Rattle.sc_propagation.specs.Trails.{true_before}
use Rattle.sc_propagation.specs.Watching.{AreOpen}
use Rattle.sc_propagation.specs.Watches.{IsWatched}
use Rattle.sc_propagation.specs.declared.watches.Watch.{Watch}

abbrev pub cell_value : Cell → Option Bool
cell_value Free = None
cell_value (Decided n q) = Some (not n)
cell_value (Implied n q r) = Some (not n)

-- two literals of a clause that aren't false before a place
pub record IsOpenPair (cells : List Cell) (place : ℕ) (c : Clause) (w : Watch) : Type 0 where
  pub first : Contains c w.first
  pub second : Contains c w.second
  pub neither_false : AreOpen (true_before cells place) (Some w)

-- at most `most` levels, where each begins with two literals of the clause that aren't false
pub record IsRoom (cells : List Cell) (levels : List ℕ) (c : Clause) (most : ℕ) (r : Room) : Type 0 where
  pub within : r.level ≤ most
  pub members : (l : Lit) → IsWatched r.watch l → Contains c l
  pub open_at : (k : ℕ) → k < r.level → AreOpen (true_before cells (slice_index_or levels k 0)) r.watch
