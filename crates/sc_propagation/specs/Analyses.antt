-- The invariants of conflict analysis.
use Rattle.std.specs.Prelude.{◌≡◌, ◌⊎◌, ◌<◌, ◌≤◌, ℕ, List, ◌∷◌, Bool, true, false, length, map, reverse}
use Rattle.std.specs.List.{Contains, slice_index_or}
use Rattle.sc_clauses.specs.declared.lit.Lit.{Lit}
use Rattle.sc_clauses.specs.Clauses.{Clause, negation}
use Rattle.sc_propagation.specs.declared.cell.Cell.{Cell}
use Rattle.sc_propagation.specs.Propagation.{IsNew}
use Rattle.sc_refutations.specs.Refutations.{LitSet, refutes}
use Rattle.sc_propagation.specs.Steps.{Shows}
use Rattle.sc_propagation.specs.Trails.{true_before}

-- the literal's atom was met
abbrev pub IsMet : List Bool → Lit → Type 0
IsMet met m = slice_index_or met m.atom false ≡ true

-- The hints refute any set of true literals that holds the met ones which are true before place i.
abbrev pub RefutesMet : List Clause → List Cell → ℕ → ℕ → List Bool → List ℕ → Type 0
RefutesMet clauses cells p i met hints =
    (known : LitSet) → ((m : Lit) → true_before cells i m ≡ true → IsMet met m → known m ≡ true)
    → ((m : Lit) → known m ≡ true → true_before cells p m ≡ true)
    → refutes clauses known (reverse hints) ≡ true

-- the learned clause has the negation of each met literal that was true before the level
abbrev pub Covers : List Cell → ℕ → List Bool → List Lit → Type 0
Covers cells first met lower = (m : Lit) → true_before cells first m ≡ true → IsMet met m → Contains lower (negation m)

-- literals that were false before the level
abbrev pub AreLower : List Cell → ℕ → List Lit → Type 0
AreLower cells first lower = (m : Lit) → Contains lower m → true_before cells first (negation m) ≡ true

-- both lists have the same literals
pub record HaveSame (a b : List Lit) : Type 0 where
  pub there : (m : Lit) → Contains a m → Contains b m
  pub back : (m : Lit) → Contains b m → Contains a m

abbrev pub MeetsMore : List Bool → List Bool → Type 0
MeetsMore old new = (m : Lit) → IsMet old m → IsMet new m

pub record IsCollected (n : ℕ) (cells : List Cell) (first : ℕ) (met : List Bool) (lower : List Lit) : Type 0 where
  pub sized : length met ≡ n
  pub covers : Covers cells first met lower
  pub are_lower : AreLower cells first lower

-- each literal was met, or is false
abbrev pub MayBeMet : List Cell → ℕ → List Bool → List Lit → Type 0
MayBeMet cells p met c = (m : Lit) → Contains c m → IsMet met m ⊎ (true_before cells p (negation m) ≡ true)

abbrev pub AreMet : List Bool → List Lit → Type 0
AreMet met c = (m : Lit) → Contains c m → IsMet met m

-- no literal at the places from `first` to `end` was met
abbrev pub NoneMet : List Lit → List Bool → ℕ → ℕ → Type 0
NoneMet trail met first end = (k : ℕ) (d : Lit) → first ≤ k → k < end → ¬ IsMet met (slice_index_or trail k d)

-- the place at which the highest level begins
abbrev pub IsHighest : List ℕ → ℕ → Type 0
IsHighest levels first = (Contains levels first) × ((k : ℕ) → Contains levels k → k ≤ first)

-- The learned clause: literals that were false before the level, and the negation of one that became true in it.
pub record IsResolvent (clauses : List Clause) (cells : List Cell) (p first : ℕ) (lower : List Lit) (uip : Lit)
    (hints : List ℕ) : Type 0 where
  pub shows : Shows clauses (negation uip ∷ lower) hints
  pub is_new : IsNew clauses (negation uip ∷ lower)
  pub are_lower : AreLower cells first lower
  pub uip_true : true_before cells p uip ≡ true
  pub uip_here : true_before cells first uip ≡ false
