-- How far a report is.
use Rattle.std.specs.Prelude.{◌≡◌, ◌⊎◌, ◌||◌, ℕ, List, [], ◌∷◌, ◌++◌, map, take, length, Bool, false, Result, Ok, Err}
use Rattle.std.specs.List.{AllByRecursion}
use Rattle.sc_clauses.specs.declared.step.Step.{Step}
use Rattle.sc_reports.specs.declared.tally.Tally.{Tally}
use Rattle.sc_outside.specs.Writes.{Written, all_appended, appended}
use Rattle.sc_outside.specs.declared.faults.SinkFault.{SinkFault}
use Rattle.sc_outside.specs.declared.faults.SinkFault.TheVariants.{Failed, NoMemory}
use Rattle.sc_schema.specs.declared.declarations.Env.{Env}
use Rattle.sc_schema.specs.Declarations.{environments}
use Rattle.sc_reports.specs.Reports.{Asked, Line, IsLine, IsReport, line_text, line_texts, no_environments, report_texts, status_by, status_of, is_counterexample, is_open, has_counterexample, has_open, log_of, logs_of}

-- What putting out a text does: it is appended, a failed write appends a front of it, and where memory runs out nothing
-- is. `rose` says that the count of write faults rose.
abbrev pub Puts : Written → Written → List ℕ → Type 0 → Result Unit SinkFault → Type 0
Puts old new text rose (Ok _) = new ≡ appended old text
Puts old new text rose (Err Failed) = rose × ((n : ℕ) × (new ≡ appended old (take n text)))
Puts old new text rose (Err NoMemory) = new ≡ old

-- the first lines of a report, one for each of the first environments
pub record IsFront (q : Asked) (envs : List Env) (lines : List Line) : Type 0 where
  pub rest : List Env
  pub in_order : map (λ (l : Line). l.env) lines ++ rest ≡ envs
  pub lines_true : AllByRecursion (IsLine q) lines

-- what is counted of lines: whether one is a counterexample, whether one is open, and the logs of those that say
-- `unknown`
pub record Counts (lines : List Line) (t : Tally) : Type 0 where
  pub counterexample : t.counterexample ≡ has_counterexample lines
  pub undecided : t.undecided ≡ has_open lines
  pub spent : t.spent.items ≡ logs_of lines

-- no line is counted
pub record IsFresh (t : Tally) : Type 0 where
  pub counterexample : t.counterexample ≡ false
  pub undecided : t.undecided ≡ false
  pub spent : t.spent.items ≡ []

-- what one more line adds to a count: whether it is a counterexample, whether it is open, and its logs
pub record CountedAs (t u : Tally) (fails left : Bool) (logs : List (List Step)) : Type 0 where
  pub counterexample : u.counterexample ≡ t.counterexample || fails
  pub undecided : u.undecided ≡ t.undecided || left
  pub spent : u.spent.items ≡ t.spent.items ++ logs

abbrev pub Counted : Line → Tally → Tally → Type 0
Counted l t u = CountedAs t u (is_counterexample l.verdict) (is_open l.verdict) (log_of l.verdict)

-- What putting out a line and counting it does: it is put out, and counted so; or a failed write puts out a front of
-- it; or memory runs out, and nothing is put out. Where the whole line isn't, no log is counted.
abbrev pub PutsCounted : Tally → Tally → Bool → Bool → List (List Step) → Written → Written → List ℕ
    → Type 0 → Result Unit SinkFault → Type 0
PutsCounted t u fails left logs old new text rose (Ok x) = (new ≡ appended old text) × CountedAs t u fails left logs
PutsCounted t u fails left logs old new text rose (Err Failed) =
    rose × (u.spent.items ≡ t.spent.items) × ((n : ℕ) × (new ≡ appended old (take n text)))
PutsCounted t u fails left logs old new text rose (Err NoMemory) = (new ≡ old) × (u.spent.items ≡ t.spent.items)

-- the lines of the first i environments are written, and counted
pub record Progress (q : Asked) (envs : List Env) (i : ℕ) (old new : Written) (t : Tally) : Type 0 where
  pub lines : List Line
  pub in_order : map (λ (l : Line). l.env) lines ≡ take i envs
  pub lines_true : AllByRecursion (IsLine q) lines
  pub text : new ≡ all_appended old (line_texts lines)
  pub counts : Counts lines t

-- How reporting ends: the whole report is written; or the sink failed, whole first lines are written and a front of
-- the next one; or memory ran out, and whole first lines are written. The logs are those of the whole lines that say
-- `unknown`.
pub data Reported (q : Asked) (old new : Written) (rose : Type 0) (code : ℕ)
    (spent : List (List Step)) : Type 0 where
  whole : (lines : List Line) → IsReport q (environments q.schema) lines → code ≡ status_of lines
      → new ≡ all_appended old (report_texts lines) → spent ≡ logs_of lines → Reported q old new rose code spent
  cut : (lines : List Line) (next : Line) (n : ℕ) → IsFront q (environments q.schema) (lines ++ next ∷ []) → rose
      → code ≡ 21
      → new ≡ appended (all_appended old (line_texts lines)) (take n (line_text next)) → spent ≡ logs_of lines
      → Reported q old new rose code spent
  cut_none : (n : ℕ) → environments q.schema ≡ [] → rose → code ≡ 21 → new ≡ appended old (take n no_environments)
      → spent ≡ [] → Reported q old new rose code spent
  stopped : (lines : List Line) → IsFront q (environments q.schema) lines → code ≡ 30
      → new ≡ all_appended old (line_texts lines) → spent ≡ logs_of lines → Reported q old new rose code spent

-- What reporting an environment does: a true line of it is put out and counted; or a failed write puts out a front of
-- such a line; or memory runs out, and nothing is put out. Where no whole line is, no log is counted.
abbrev pub ReportsEnv : Asked → Env → Tally → Tally → Written → Written → Type 0
    → Result Unit SinkFault → Type 0
ReportsEnv q env t u old new rose (Ok x) = (l : Line) × IsLine q l × (l.env ≡ env) × Counted l t u
    × (new ≡ appended old (line_text l))
ReportsEnv q env t u old new rose (Err Failed) =
    rose × (u.spent.items ≡ t.spent.items)
    × ((l : Line) × IsLine q l × (l.env ≡ env) × ((n : ℕ) × (new ≡ appended old (take n (line_text l)))))
ReportsEnv q env t u old new rose (Err NoMemory) = (new ≡ old) × (u.spent.items ≡ t.spent.items)

-- whole first lines and a front of the next one are written
pub record CutFront (q : Asked) (envs : List Env) (old new : Written) (t : Tally) : Type 0 where
  pub lines : List Line
  pub next : Line
  pub kept : ℕ
  pub front : IsFront q envs (lines ++ next ∷ [])
  pub text : new ≡ appended (all_appended old (line_texts lines)) (take kept (line_text next))
  pub spent : t.spent.items ≡ logs_of lines

-- whole first lines are written
pub record WholeFront (q : Asked) (envs : List Env) (old new : Written) (t : Tally) : Type 0 where
  pub lines : List Line
  pub front : IsFront q envs lines
  pub text : new ≡ all_appended old (line_texts lines)
  pub spent : t.spent.items ≡ logs_of lines

-- what reporting environments one after another does
abbrev pub ReportsAll : Asked → List Env → Tally → Written → Written → Type 0
    → Result Unit SinkFault → Type 0
ReportsAll q envs t old new rose (Ok x) = Progress q envs (length envs) old new t
ReportsAll q envs t old new rose (Err Failed) = rose × CutFront q envs old new t
ReportsAll q envs t old new rose (Err NoMemory) = WholeFront q envs old new t

-- the status with which it ends
abbrev pub status_after : Tally → Result Unit SinkFault → ℕ
status_after t (Ok x) = status_by t.counterexample t.undecided
status_after t (Err Failed) = 21
status_after t (Err NoMemory) = 30

-- what putting out the line of a schema without environments does
abbrev pub ReportsNone : Written → Written → Type 0 → ℕ → Type 0
ReportsNone old new rose code =
    ((code ≡ 0) × (new ≡ appended old no_environments))
    ⊎ ((rose × (code ≡ 21) × ((n : ℕ) × (new ≡ appended old (take n no_environments)))) ⊎ ((code ≡ 30) × (new ≡ old)))
