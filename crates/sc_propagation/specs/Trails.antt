-- The trail: which literals are true from which place on, and its invariant between two moves of the search.
use Rattle.std.specs.Prelude.{◌≡◌, ◌≢◌, ◌⊎◌, ◌&&◌, ◌<◌, ◌≤◌, ℕ, List, Bool, true, false, nat_lt, length}
use Rattle.std.specs.List.{Contains, slice_index_or, sum_by}
use Rattle.sc_clauses.specs.declared.lit.Lit.{Lit}
use Rattle.sc_clauses.specs.Clauses.{Clause, bool_eq, negation}
use Rattle.sc_propagation.specs.declared.cell.Cell.{Cell}
use Rattle.sc_propagation.specs.declared.cell.Cell.TheVariants.{Free, Decided, Implied}
use Rattle.sc_propagation.specs.declared.trail.Trail.{Trail}
use Rattle.sc_propagation.specs.Steps.{At}

-- the cell has this sign, from a place before p on
abbrev pub set_before : Cell → ℕ → Bool → Bool
set_before Free p sign = false
set_before (Decided n q) p sign = bool_eq n sign && nat_lt q p
set_before (Implied n q r) p sign = bool_eq n sign && nat_lt q p

abbrev pub cell_of : List Cell → Lit → Cell
cell_of cells l = slice_index_or cells l.atom Free

-- the set of literals that became true before place p
abbrev pub true_before : List Cell → ℕ → Lit → Bool
true_before cells p l = set_before (cell_of cells l) p l.negated

-- the cell has this sign, from place i on
abbrev pub set_at : Cell → Bool → ℕ → Type 0
set_at Free sign i = ⊥
set_at (Decided n q) sign i = (n ≡ sign) × (q ≡ i)
set_at (Implied n q r) sign i = (n ≡ sign) × (q ≡ i)

abbrev pub HasPlace : List Cell → Lit → ℕ → Type 0
HasPlace cells l i = set_at (cell_of cells l) l.negated i

-- no literal is true together with its negation
abbrev pub IsSingle : (Lit → Bool) → Type 0
IsSingle T = (l : Lit) → T l ≡ true → T (negation l) ≡ false

-- a literal of the clause is true, or two aren't false: the clause implies nothing and is no conflict
abbrev pub IsQuiet : (Lit → Bool) → Clause → Type 0
IsQuiet T c = ((y : Lit) × Contains c y × (T y ≡ true))
    ⊎ ((y : Lit) × (z : Lit) × Contains c y × Contains c z × (y ≢ z) × (T (negation y) ≡ false)
    × (T (negation z) ≡ false))

abbrev pub AreQuiet : (Lit → Bool) → List Clause → Type 0
AreQuiet T clauses = (c : Clause) → Contains clauses c → IsQuiet T c

-- the clause at r implied l: its other literals were false before place i
pub record IsReason (clauses : List Clause) (cells : List Cell) (l : Lit) (i r : ℕ) : Type 0 where
  pub clause : Clause
  pub at : At clauses r clause
  pub has : Contains clause l
  pub others : (m : Lit) → Contains clause m → m ≢ l → true_before cells i (negation m) ≡ true

-- cells and trail agree, and cell 0 is of no atom
pub record Agree (cells : List Cell) (trail : List Lit) : Type 0 where
  pub placed : (i : ℕ) (d : Lit) → i < length trail → HasPlace cells (slice_index_or trail i d) i
  pub on_trail : (l : Lit) (i : ℕ) → HasPlace cells l i → At trail i l
  pub unused : slice_index_or cells 0 Free ≡ Free

-- levels begin one after the other before place p, and each decision before p begins one
pub record AreLevels (cells : List Cell) (levels : List ℕ) (p : ℕ) : Type 0 where
  pub ascending : (j k : ℕ) → j < k → k < length levels → slice_index_or levels j 0 < slice_index_or levels k 0
  pub within : (k : ℕ) → k < length levels → slice_index_or levels k 0 < p
  pub decided : (l : Lit) (i : ℕ) → cell_of cells l ≡ Decided l.negated i → i < p → Contains levels i

-- A trail of n cells whose first p places the levels account for. All clauses are quiet where a level begins: so a
-- clause that is false but for one literal implied it at the lowest level at which it could.
pub record IsTrail (n : ℕ) (clauses : List Clause) (cells : List Cell) (trail : List Lit) (levels : List ℕ)
    (p : ℕ) : Type 0 where
  pub sized : length cells ≡ n
  pub bounded : p ≤ length trail
  pub agree : Agree cells trail
  pub are_levels : AreLevels cells levels p
  pub reasons : (l : Lit) (i r : ℕ) → cell_of cells l ≡ Implied l.negated i r → IsReason clauses cells l i r
  pub quiet : (k : ℕ) → k < length levels → AreQuiet (true_before cells (slice_index_or levels k 0)) clauses

abbrev pub HoldsTrail : ℕ → List Clause → Trail → Type 0
HoldsTrail n clauses t = IsTrail n clauses t.cells.items t.lits.items t.levels.items (length t.lits.items)

-- a literal of an atom that has a cell
abbrev pub InCells : ℕ → Lit → Type 0
InCells n l = (0 < l.atom) × (l.atom < n)

abbrev pub AllInCells : ℕ → Clause → Type 0
AllInCells n c = (l : Lit) → Contains c l → InCells n l

abbrev pub AreInCells : ℕ → List Clause → Type 0
AreInCells n clauses = (c : Clause) → Contains clauses c → AllInCells n c

-- a free atom
abbrev pub IsChoice : List Cell → ℕ → Type 0
IsChoice cells a = (0 < a) × (a < length cells) × (slice_index_or cells a Free ≡ Free)

-- each atom has a value
abbrev pub AreAllSet : List Cell → Type 0
AreAllSet cells = (a : ℕ) → 0 < a → a < length cells → slice_index_or cells a Free ≢ Free

abbrev pub one_if_free : Cell → ℕ
one_if_free Free = 1
one_if_free (Decided n q) = 0
one_if_free (Implied n q r) = 0

-- the number of free cells
abbrev pub free_count : List Cell → ℕ
free_count cells = sum_by one_if_free cells
