-- What a sink tells of what was written to it.
use Rattle.std.specs.Prelude.{◌≡◌, ◌≤◌, ◌++◌, ◌∷◌, ℕ, List, [], length, take, Option, Some, None, option_map, Result, Ok, Err}
use Rattle.sc_outside.specs.declared.faults.SinkFault.{SinkFault}
use Rattle.sc_outside.specs.declared.faults.SinkFault.TheVariants.{Failed, NoMemory}

-- what was written, one piece after another: all of it, and how long each piece is, where that is told
pub record Written : Type 0 where
  pub text : Option (List ℕ)
  pub lengths : Option (List ℕ)

-- the same where both are told, where the text alone is, and where nothing is
abbrev pub all_told : List ℕ → List ℕ → Written
all_told text lengths = record { text = Some text; lengths = Some lengths }

abbrev pub text_told : List ℕ → Written
text_told text = record { text = Some text; lengths = None }

abbrev pub untold : Written
untold = record { text = None; lengths = None }

-- all that was written, after one more piece
unfoldable pub appended : Written → List ℕ → Written
appended written piece = record {
  text = option_map (λ text. text ++ piece) written.text;
  lengths = option_map (λ lengths. lengths ++ length piece ∷ []) written.lengths;
}

-- all that was written, after these pieces, one after another
abbrev pub all_appended : Written → List (List ℕ) → Written
all_appended written [] = written
all_appended written (piece ∷ pieces) = all_appended (appended written piece) pieces

-- A write appends the piece, a failed one a front of it, and one that found no memory nothing.
abbrev pub Writes : Written → Written → List ℕ → Result Unit SinkFault → Type 0
Writes old new piece (Ok _) = new ≡ appended old piece
Writes old new piece (Err Failed) = (n : ℕ) × (n ≤ length piece) × (new ≡ appended old (take n piece))
Writes old new piece (Err NoMemory) = new ≡ old
