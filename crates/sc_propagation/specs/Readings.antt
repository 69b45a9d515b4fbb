-- What the trail says of a literal, of a clause and of all clauses.
use Rattle.std.specs.Prelude.{◌≡◌, ◌≢◌, ℕ, List, Bool, true, false, Option, Some, None}
use Rattle.std.specs.List.{Contains}
use Rattle.sc_clauses.specs.declared.lit.Lit.{Lit}
use Rattle.sc_clauses.specs.Clauses.{Clause, bool_eq, negation}
use Rattle.sc_propagation.specs.declared.cell.Cell.{Cell}
use Rattle.sc_propagation.specs.declared.cell.Cell.TheVariants.{Free, Decided, Implied}
use Rattle.sc_propagation.specs.declared.cell.Truth.{Truth}
use Rattle.sc_propagation.specs.declared.cell.Truth.TheVariants as truth
use Rattle.sc_propagation.specs.declared.propagation.Status.{Status}
use Rattle.sc_propagation.specs.declared.propagation.Status.TheVariants as status
use Rattle.sc_propagation.specs.declared.watches.Watch.{Watch}
use Rattle.sc_propagation.specs.Steps.{At}
use Rattle.sc_propagation.specs.Trails.{true_before, cell_of}

abbrev pub signed : Bool → Truth
signed true = truth.True
signed false = truth.False

abbrev pub truth_of : Cell → Bool → Truth
truth_of Free sign = truth.Open
truth_of (Decided n q) sign = signed (bool_eq n sign)
truth_of (Implied n q r) sign = signed (bool_eq n sign)

abbrev pub HasTruth : List Cell → ℕ → Lit → Truth → Type 0
HasTruth cells p l truth.True = true_before cells p l ≡ true
HasTruth cells p l truth.False = true_before cells p (negation l) ≡ true
HasTruth cells p l truth.Open = cell_of cells l ≡ Free

-- a literal of a free atom
abbrev pub IsOpen : List Cell → Lit → Type 0
IsOpen cells l = cell_of cells l ≡ Free

abbrev pub AreFalse : List Cell → ℕ → Clause → Type 0
AreFalse cells p c = (m : Lit) → Contains c m → true_before cells p (negation m) ≡ true

-- one literal is open, and the others are false
abbrev pub IsUnitAt : List Cell → ℕ → Clause → Lit → Type 0
IsUnitAt cells p c l = (Contains c l) × (cell_of cells l ≡ Free)
    × ((m : Lit) → Contains c m → m ≢ l → true_before cells p (negation m) ≡ true)

-- two literals are open
abbrev pub AreTwoOpen : List Cell → Clause → Watch → Type 0
AreTwoOpen cells c w = (Contains c w.first) × (Contains c w.second) × (w.first ≢ w.second)
    × (cell_of cells w.first ≡ Free) × (cell_of cells w.second ≡ Free)

abbrev pub HasStatus : List Cell → ℕ → Clause → Status → Type 0
HasStatus cells p c (status.Satisfied y) = (Contains c y) × (true_before cells p y ≡ true)
HasStatus cells p c (status.Open w) = AreTwoOpen cells c w
HasStatus cells p c (status.Unit l) = IsUnitAt cells p c l
HasStatus cells p c status.Falsified = AreFalse cells p c

-- of the literals that were read at most one is open, and the others are false
abbrev pub IsSoFar : List Cell → ℕ → Clause → Option Lit → Type 0
IsSoFar cells p c None = AreFalse cells p c
IsSoFar cells p c (Some l) = IsUnitAt cells p c l

abbrev pub IsFalsified : List Clause → List Cell → ℕ → ℕ → Type 0
IsFalsified clauses cells p i = (c : Clause) × At clauses i c × AreFalse cells p c
