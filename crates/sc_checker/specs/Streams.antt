-- Logs that come in pieces.
use Rattle.std.specs.Prelude.{◌≡◌, ◌≢◌, ◌+◌, ℕ, List, [], ◌∷◌, ◌++◌, Bool, true, false, Option, Some, None, codes, length, if◌then◌else◌}
use Rattle.std.specs.Str.{bytes_eq}
use Rattle.sc_clauses.specs.Clauses.{Clause}
use Rattle.sc_clauses.specs.declared.step.Instance.{Instance}
use Rattle.sc_clauses.specs.declared.step.Step.{Step}
use Rattle.sc_footprint.specs.Problems.{Posed, atoms}
use Rattle.sc_footprint.specs.Definitions.{defining}
use Rattle.sc_checker.specs.declared.checking.Reason.{Reason}
use Rattle.sc_checker.specs.declared.checking.Reason.TheVariants.{Malformed}
use Rattle.sc_checker.specs.declared.checking.Verdict.{Verdict}
use Rattle.sc_checker.specs.declared.checking.Verdict.TheVariants.{Rejected}
use Rattle.sc_logs.specs.LineSteps.{step_of}
use Rattle.sc_checker.specs.Progress.{Progress, start, failed, AfterStep, unless_at_fault, verdict_of}
use Rattle.sc_logs.specs.Readings.{AreWritable, IsText, StopsAt}
use Rattle.sc_logs.specs.Texts.{first_line}
use Rattle.sc_checker.specs.Verdicts.{Adds, IsAccepted, FailsAt, IsVerdictOn}

-- What a checker holds: whether the line `log 1` was read, the bytes of the line that isn't ended yet, and what it
-- holds of the steps of the lines before.
pub record Checking : Type 0 where
  pub begun : Bool
  pub line : List ℕ
  pub progress : Progress

-- before the first byte
abbrev pub unread : Posed → Checking
unread p = record { begun = false; line = []; progress = start p }

-- ---- lines

-- `log 1`
abbrev pub first_words : List ℕ
first_words = codes "log 1"

-- the next step is this one, or its line is no step's
abbrev pub AfterReading : (Instance → Type 0) → (Instance → Clause) → Progress → Option Step → Progress → Type 0
AfterReading has clause_of g None h = h ≡ failed (g.steps + 1) Malformed g
AfterReading has clause_of g (Some s) h = AfterStep has clause_of g s h

-- what the first line leaves
abbrev pub after_first : List ℕ → Progress → Checking
after_first line g =
    if bytes_eq line first_words then record { begun = true; line = []; progress = g }
    else record { begun = false; line = []; progress = failed 0 Malformed g }

-- the first line, or a line after it
pub data AfterLine (has : Instance → Type 0) (clause_of : Instance → Clause) (begun : Bool) (line : List ℕ)
    (g : Progress) (d : Checking) : Type 0 where
  is_first : begun ≡ false → d ≡ after_first line g → AfterLine has clause_of begun line g d
  is_later : begun ≡ true → (h : Progress) → AfterReading has clause_of g (step_of line) h
      → d ≡ record { begun = true; line = []; progress = h } → AfterLine has clause_of begun line g d

-- ---- bytes

-- a newline ends the line, and any other byte is one more of it; where a step was at fault, nothing is looked at
pub data AfterByte (has : Instance → Type 0) (clause_of : Instance → Clause) (c : Checking) (byte : ℕ)
    (d : Checking) : Type 0 where
  is_unread : (fault : ℕ × Reason) → c.progress.fault ≡ Some fault → d ≡ c → AfterByte has clause_of c byte d
  ends_line : c.progress.fault ≡ None → byte ≡ 10 → AfterLine has clause_of c.begun c.line c.progress d
      → AfterByte has clause_of c byte d
  is_in_line : c.progress.fault ≡ None → byte ≢ 10
      → d ≡ record { begun = c.begun; line = c.line ++ byte ∷ []; progress = c.progress }
      → AfterByte has clause_of c byte d

-- after bytes of the line that isn't ended
abbrev pub lengthened : Checking → List ℕ → Checking
lengthened c bytes = unless_at_fault c.progress.fault c
    (record { begun = c.begun; line = c.line ++ bytes; progress = c.progress })

-- what is held after these bytes
unfoldable pub After : (Instance → Type 0) → (Instance → Clause) → Checking → List ℕ → Checking → Type 0
After has clause_of c [] d = d ≡ c
After has clause_of c (b ∷ bs) d = (e : Checking) × AfterByte has clause_of c b e × After has clause_of e bs d

-- ---- verdicts

-- the number of the line that isn't ended
abbrev pub line_number : Bool → Progress → ℕ
line_number begun g = if begun then g.steps + 1 else 0

-- a line that isn't ended is no line of a log
abbrev pub line_verdict : Bool → List ℕ → Progress → Verdict
line_verdict begun [] g = verdict_of g
line_verdict begun (b ∷ bs) g = Rejected (line_number begun g) Malformed

-- the verdict where the bytes end here
abbrev pub ended : Checking → Verdict
ended c = unless_at_fault c.progress.fault (verdict_of c.progress) (line_verdict c.begun c.line c.progress)

-- The verdict on bytes: that on the steps, where they are the text of a log. Else the first step at fault before the
-- line that is no line of a log, or else that line.
pub data HasVerdict (has : Instance → Type 0) (clause_of : Instance → Clause) (p : Posed) (bytes : List ℕ)
    (v : Verdict) : Type 0 where
  of_log : (steps : List Step) → AreWritable steps → IsText bytes steps → IsVerdictOn has clause_of p steps v
      → HasVerdict has clause_of p bytes v
  of_no_log : bytes ≢ [] → ((rest : List ℕ) → ¬ (bytes ≡ first_line ++ rest)) → v ≡ Rejected 0 Malformed
      → HasVerdict has clause_of p bytes v
  of_fault : (rest : List ℕ) (number k : ℕ) (reason : Reason) → bytes ≡ first_line ++ rest
      → (stop : StopsAt rest number) → FailsAt has clause_of p stop.before k reason
      → v ≡ Rejected k reason → HasVerdict has clause_of p bytes v
  of_no_line : (rest : List ℕ) (number : ℕ) (clauses : List Clause) → bytes ≡ first_line ++ rest
      → (stop : StopsAt rest number)
      → Adds has clause_of (length (atoms p)) (defining p) stop.before clauses → v ≡ Rejected number Malformed
      → HasVerdict has clause_of p bytes v

-- the bytes are the text of a log that is accepted
pub record IsAcceptedText (has : Instance → Type 0) (clause_of : Instance → Clause) (p : Posed)
    (bytes : List ℕ) : Type 0 where
  pub steps : List Step
  pub writable : AreWritable steps
  pub text : IsText bytes steps
  pub accepted : IsAccepted has clause_of p steps

-- ---- checkers

-- a checker: the rules and the problem, what is held, and whether memory ran out once, so that it refuses all
pub record Checker (T : Type 0) : Type 0 where
  pub rules : T
  pub problem : Posed
  pub state : Checking
  pub refuses : Bool
