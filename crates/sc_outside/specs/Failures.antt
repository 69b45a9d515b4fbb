-- Which file's call failed.
use Rattle.std.specs.Prelude.{ℕ, List, Option, Some}
use Rattle.sc_outside.specs.Counts.{Rose}
use Rattle.sc_outside.specs.Reads.{IsLast}
use Rattle.sc_outside.specs.declared.traits.Files as files

-- a call for the file of this name failed, between two counts of faults, and was the last one that did
pub record FailedAt (before now : ℕ) (failed : Option (List ℕ)) (name : List ℕ) : Type 0 where
  pub rose : Rose before now
  pub last : IsLast failed (Some name)

-- the same between two states of a source of files
abbrev pub FailsAt : {F : Type 0} → files.Ghosts F → F → F → List ℕ → Type 0
FailsAt source old new = FailedAt (source.faults old) (source.faults new) (source.failed new)

-- a call for the file that was started failed, and was the last one that did
abbrev pub FailsOn : {F : Type 0} → files.Ghosts F → F → F → Type 0
FailsOn source old new = Rose (source.faults old) (source.faults new) × IsLast (source.failed new) (source.started old)
