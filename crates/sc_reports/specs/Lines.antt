-- What putting out lines, one after another, does: each is one piece.
use Rattle.std.specs.Prelude.{◌≡◌, ℕ, List, ◌∷◌, ◌++◌, take, Result, Ok, Err}
use Rattle.sc_outside.specs.Writes.{Written, all_appended, appended}
use Rattle.sc_outside.specs.declared.faults.SinkFault.{SinkFault}
use Rattle.sc_outside.specs.declared.faults.SinkFault.TheVariants.{Failed, NoMemory}

-- whole first lines are written, and a front of the next one
pub record CutLines (lines : List (List ℕ)) (old new : Written) : Type 0 where
  pub whole : List (List ℕ)
  pub next : List ℕ
  pub rest : List (List ℕ)
  pub kept : ℕ
  pub in_order : whole ++ next ∷ rest ≡ lines
  pub text : new ≡ appended (all_appended old whole) (take kept next)

-- whole first lines are written
pub record FirstLines (lines : List (List ℕ)) (old new : Written) : Type 0 where
  pub whole : List (List ℕ)
  pub rest : List (List ℕ)
  pub in_order : whole ++ rest ≡ lines
  pub text : new ≡ all_appended old whole

-- What putting out lines one after another does. `rose` says that the count of write faults rose.
abbrev pub PutsLines : List (List ℕ) → Written → Written → Type 0 → Result Unit SinkFault → Type 0
PutsLines lines old new rose (Ok _) = new ≡ all_appended old lines
PutsLines lines old new rose (Err Failed) = rose × CutLines lines old new
PutsLines lines old new rose (Err NoMemory) = FirstLines lines old new
