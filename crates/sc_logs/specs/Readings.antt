-- What it means that bytes are the text of a log, and where they first aren't.
use Rattle.std.specs.Prelude.{◌≡◌, ◌≢◌, ◌+◌, ◌⊎◌, ℕ, List, [], ◌∷◌, ◌++◌, length, Bool, Option, Some, None, Result, Ok, Err, IsTrue, ⊤}
use Rattle.std.specs.List.{list_all}
use Rattle.sc_lists.specs.declared.fault.Fault.{Fault}
use Rattle.sc_lists.specs.declared.fault.Fault.TheVariants.{Told, NoMemory}
use Rattle.sc_clauses.specs.declared.step.Step.{Step}
use Rattle.sc_logs.specs.declared.reading.Malformed.{Malformed}
use Rattle.sc_logs.specs.Writable.{is_writable}
use Rattle.sc_logs.specs.Texts.{step_line, steps_text, first_line, log_text}

-- a value that passes a test and has this text, or that there is none
abbrev pub Reads : {X T : Type 0} → (X → Bool) → (X → T) → T → Option X → Type 0
Reads test text written (Some x) = IsTrue (test x) × (text x ≡ written)
Reads test text written None = (x : _) → IsTrue (test x) → ¬ (text x ≡ written)

abbrev pub AreWritable : List Step → Type 0
AreWritable steps = IsTrue (list_all is_writable steps)

-- a fact of the fault that is told, where one is
abbrev pub IfTold : {E : Type 0} → Fault E → (E → Type 0) → Type 0
IfTold (Told e) P = P e
IfTold NoMemory P = ⊤

-- the bytes are the text of a log of these steps; no bytes at all are a log without steps
abbrev pub IsText : List ℕ → List Step → Type 0
IsText bytes steps = (bytes ≡ log_text steps) ⊎ ((bytes ≡ []) × (steps ≡ []))

-- the first line is this step's
abbrev pub BeginsWith : List ℕ → Step → Type 0
BeginsWith bytes s = (rest : List ℕ) × (bytes ≡ step_line s ++ 10 ∷ rest)

-- Lines of steps, and then more whose first line is no step's: one that isn't ended is none. Such lines are counted
-- from 1.
pub record StopsAt (bytes : List ℕ) (number : ℕ) : Type 0 where
  pub before : List Step
  pub rest : List ℕ
  pub writable : AreWritable before
  pub text : bytes ≡ steps_text before ++ rest
  pub more : rest ≢ []
  pub no_step : (s : Step) → IsTrue (is_writable s) → ¬ BeginsWith rest s
  pub number_is : number ≡ length before + 1

-- The least line that isn't of the form of a log: 0 is that of `log 1`.
pub data IsFault (bytes : List ℕ) : ℕ → Type 0 where
  no_log : bytes ≢ [] → ((rest : List ℕ) → ¬ (bytes ≡ first_line ++ rest)) → IsFault bytes 0
  no_line : (rest : List ℕ) {number : ℕ} → bytes ≡ first_line ++ rest → StopsAt rest number → IsFault bytes number

-- what is to be told of the bytes
abbrev pub IsReading : List ℕ → Result (List Step) Malformed → Type 0
IsReading bytes (Ok steps) = AreWritable steps × IsText bytes steps
IsReading bytes (Err m) = IsFault bytes m.step
