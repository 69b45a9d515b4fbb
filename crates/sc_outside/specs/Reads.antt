-- What a source of files tells of them.
use Rattle.std.specs.Prelude.{◌≡◌, ◌⊎◌, ◌≤◌, ◌<◌, ℕ, List, length, Vec, string_bytes, Option, None, option_map, Result, Ok, Err, ⊤}
use Rattle.std.specs.Global.{Global}
use Rattle.sc_outside.specs.declared.failures.Failures.{Failures}
use Rattle.sc_outside.specs.declared.faults.FileFault.{FileFault}
use Rattle.sc_outside.specs.declared.faults.FileFault.TheVariants.{Failed, TooLong, NoMemory}

-- A read of a file gives its whole content, which is within the limit; the file is too long only where it isn't.
abbrev pub Reads : List ℕ → ℕ → Result (Vec ℕ Global) FileFault → Type 0
Reads content limit (Ok bytes) = (bytes.items ≡ content) × (length content ≤ limit)
Reads content limit (Err TooLong) = limit < length content
Reads content limit (Err Failed) = ⊤
Reads content limit (Err NoMemory) = ⊤

-- the name of the file of the call that failed last, where one failed and there was memory to keep it
abbrev pub failed_in : Failures → Option (List ℕ)
failed_in failures = option_map (λ name. string_bytes name) failures.last

-- of the call that failed last the name of the file is this one, or it isn't told
unfoldable pub IsLast : Option (List ℕ) → Option (List ℕ) → Type 0
IsLast failed name = (failed ≡ name) ⊎ (failed ≡ None)

-- After a call for the file of a name the last call that failed is this one where it failed, and else the one that was
-- the last.
abbrev pub TellsFailed : {T : Type 0} → Option (List ℕ) → Option (List ℕ) → Option (List ℕ) → Result T FileFault
    → Type 0
TellsFailed old new name (Ok x) = new ≡ old
TellsFailed old new name (Err Failed) = IsLast new name
TellsFailed old new name (Err TooLong) = new ≡ old
TellsFailed old new name (Err NoMemory) = new ≡ old
