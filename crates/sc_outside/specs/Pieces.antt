-- What a source of files tells of a file that is read in pieces.
use Rattle.std.specs.Prelude.{◌≡◌, ◌≤◌, ◌++◌, ℕ, List, length, drop, Vec, string_bytes, Option, Some, None, IfSome, option_map, Result, Ok, Err}
use Rattle.std.specs.Io.KnownBytes.{Consumes, IsAtEnd}
use Rattle.std.specs.Global.{Global}
use Rattle.sc_outside.specs.declared.faults.FileFault.{FileFault}
use Rattle.sc_outside.specs.declared.started.Started.{Started}

-- what is left of the file that was started, where one was: the bytes that weren't taken yet, where these are told
abbrev pub Left : Type 0
Left = Option (Option (List ℕ))

-- the same with a piece before it
abbrev pub behind : List ℕ → Left → Left
behind piece left = option_map (λ told. option_map (λ rest. piece ++ rest) told) left

-- nothing is left, where that is told
abbrev pub IsEnd : Left → Type 0
IsEnd left = IfSome left (λ told. IfSome told (λ rest. length rest ≡ 0))

-- Of a file that is started all that it holds is left. Where none is, what was left is left.
abbrev pub Starts : Option (List ℕ) → Left → Left → Result Unit FileFault → Type 0
Starts content old new (Ok _) = new ≡ Some content
Starts content old new (Err _) = new ≡ old

-- The file of this name is started. Where none is, the one that was started stays so.
abbrev pub StartsAt : List ℕ → Option (List ℕ) → Option (List ℕ) → Result Unit FileFault → Type 0
StartsAt name old new (Ok _) = new ≡ Some name
StartsAt name old new (Err _) = new ≡ old

-- a front of what is left, of at most `max` bytes, and empty at the end alone; what follows it is left
pub record IsPiece (old new : Left) (max : ℕ) (piece : List ℕ) : Type 0 where
  pub front : old ≡ behind piece new
  pub within : length piece ≤ max
  pub ends : length piece ≡ 0 → IsEnd old

-- A call for more gives a piece, and leaves what follows it; a refused one leaves what was left.
abbrev pub Takes : Left → Left → ℕ → Result (Vec ℕ Global) FileFault → Type 0
Takes old new max (Ok piece) = IsPiece old new max piece.items
Takes old new max (Err _) = new ≡ old

-- what is left of a file that was started, of files with this content
abbrev pub left_in : (List ℕ → Option (List ℕ)) → Option Started → Left
left_in content started = option_map
    (λ s. option_map (λ bytes. drop s.taken bytes) (content (string_bytes s.name))) started

-- its name
abbrev pub started_in : Option Started → Option (List ℕ)
started_in started = option_map (λ s. string_bytes s.name) started

-- what is left of a file that is open, of which nothing is told
abbrev pub untold_left : {X : Type 0} → Option X → Left
untold_left file = option_map (λ _. None) file

-- Bytes of an open file, of which these remained and those remain, where that is told: a front of what remained, of
-- at most `max` bytes, and empty at the end alone; what follows it remains.
pub record IsNextPiece (old new : Option (List ℕ)) (max : ℕ) (piece : List ℕ) : Type 0 where
  pub front : Consumes old new piece
  pub within : length piece ≤ max
  pub ends : length piece ≡ 0 → 1 ≤ max → IsAtEnd new
