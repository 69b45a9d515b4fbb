-- What a call that may want memory answers.
use Rattle.std.specs.Prelude.{◌≡◌, Result, Ok, Err, ⊤}
use Rattle.sc_lists.specs.declared.fault.Fault.{Fault}
use Rattle.sc_lists.specs.declared.fault.Fault.TheVariants.{Told, NoMemory}

-- the fault is the one that is told, or want of memory
abbrev pub Fails : {X E : Type 0} → Fault E → Result X E → Type 0
Fails (Told e) told = told ≡ Err e
Fails NoMemory told = ⊤

-- the answer is the one that is told, unless memory runs out
abbrev pub Gives : {X E : Type 0} → Result X (Fault E) → Result X E → Type 0
Gives (Ok x) told = told ≡ Ok x
Gives (Err fault) told = Fails fault told
