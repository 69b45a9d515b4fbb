-- What comes of reading from a place on.
use Rattle.std.specs.Prelude.{◌≡◌, ℕ}
use Rattle.sc_lexemes.specs.declared.cursor.Cursor.{Cursor}
use Rattle.sc_lexemes.specs.declared.stop.Stop.{Stop}
use Rattle.sc_lexemes.specs.declared.stop.Stop.TheVariants.{NoMemory}

-- something was read, up to a place; or reading stopped at the token of this number
pub data Outcome (A : Type 0) : Type 0 where
  read : A → Cursor → Outcome A
  halt : Stop → ℕ → Outcome A

-- the outcome of a call is one of these, unless memory ran out
abbrev pub Halts : {A : Type 0} → (Outcome A → Type 0) → Stop → Cursor → Type 0
Halts outcomes f t = (f ≡ NoMemory → ⊥) → outcomes (halt f t.at)
