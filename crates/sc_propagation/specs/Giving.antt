-- Which clauses would imply a literal, or are falsified.
use Rattle.std.specs.Prelude.{◌≡◌, ◌≢◌, ◌&&◌, ℕ, Bool, true, false, nat_lt, length}
use Rattle.std.specs.List.{Contains}
use Rattle.sc_clauses.specs.declared.lit.Lit.{Lit}
use Rattle.sc_clauses.specs.Clauses.{Clause, negation}
use Rattle.sc_propagation.specs.Trails.{AllInCells, true_before}
use Rattle.sc_propagation.specs.declared.trail.Trail.{Trail}

-- the literal's atom has one of n cells, which isn't cell 0
abbrev pub in_cells : ℕ → Lit → Bool
in_cells n l = nat_lt 0 l.atom && nat_lt l.atom n

-- one literal of the clause isn't true, and the others are false
pub record Gives (t : Trail) (c : Clause) : Type 0 where
  pub in_cells : AllInCells (length t.cells.items) c
  pub lit : Lit
  pub has : Contains c lit
  pub not_true : true_before t.cells.items (length t.lits.items) lit ≡ false
  pub others : (m : Lit) → Contains c m → m ≢ lit → true_before t.cells.items (length t.lits.items) (negation m) ≡ true
