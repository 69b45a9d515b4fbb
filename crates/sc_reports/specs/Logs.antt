-- What a run writes of the log of an environment.
use Rattle.std.specs.Prelude.{◌≡◌, ◌≢◌, ℕ, List, [], ◌∷◌, ◌++◌, map, take, Result, Ok, Err}
use Rattle.sc_outside.specs.Writes.{Written, all_appended, appended}
use Rattle.sc_outside.specs.declared.faults.SinkFault.{SinkFault}
use Rattle.sc_outside.specs.declared.faults.SinkFault.TheVariants.{Failed, NoMemory}
use Rattle.sc_clauses.specs.declared.step.Step.{Step}
use Rattle.sc_checker.specs.Texts.{first_line, step_line}
use Rattle.sc_schema.specs.declared.declarations.Env.{Env}
use Rattle.sc_reports.specs.Analyses.{IsRefuted}
use Rattle.sc_reports.specs.Reports.{Asked, IsLine, Line, holds, line_text, log_of, status_of}

-- the lines of steps, each with its newline
abbrev pub step_lines : List Step → List (List ℕ)
step_lines steps = map (λ (s : Step). step_line s ++ 10 ∷ []) steps

-- the lines of a log's text
abbrev pub log_lines : List Step → List (List ℕ)
log_lines log = first_line ∷ step_lines log

abbrev pub line_for : Env → Line
line_for env = record { env = env; verdict = holds }

-- a log shows that each well-formed world of the environment has the property
pub record Shows (q : Asked) (env : Env) (log : List Step) : Type 0 where
  pub refuted : IsRefuted q env log
  pub always : IsLine q (line_for env)

-- a true line of an environment for which the property isn't shown
pub record IsOther (q : Asked) (env : Env) (l : Line) : Type 0 where
  pub line_true : IsLine q l
  pub env_is : l.env ≡ env
  pub not_shown : l.verdict ≢ holds

-- the status after a log was put out
abbrev pub log_status : Result Unit SinkFault → ℕ
log_status (Ok x) = 0
log_status (Err Failed) = 21
log_status (Err NoMemory) = 30

-- How writing the log of an environment ends: where it shows the property, all lines of its text are written; or the
-- sink failed, whole first lines are written and a front of the next one; or memory ran out, and whole first lines
-- are written. Else a line of the environment is written so. Or memory ran out before, and nothing is written.
pub data Logged (q : Asked) (env : Env) (old new : Written) (rose : Type 0) (code : ℕ)
    (spent : List (List Step)) : Type 0 where
  log_whole : (log : List Step) → Shows q env log → code ≡ 0 → new ≡ all_appended old (log_lines log)
      → spent ≡ [] → Logged q env old new rose code spent
  log_front : (log : List Step) (lines : List (List ℕ)) (next : List ℕ) (rest : List (List ℕ)) (n : ℕ)
      → Shows q env log → lines ++ next ∷ rest ≡ log_lines log
      → rose → code ≡ 21 → new ≡ appended (all_appended old lines) (take n next) → spent ≡ []
      → Logged q env old new rose code spent
  log_first : (log : List Step) (lines rest : List (List ℕ)) → Shows q env log → lines ++ rest ≡ log_lines log
      → code ≡ 30 → new ≡ all_appended old lines → spent ≡ [] → Logged q env old new rose code spent
  other_whole : (l : Line) → IsOther q env l → code ≡ status_of (l ∷ []) → new ≡ appended old (line_text l)
      → spent ≡ log_of l.verdict → Logged q env old new rose code spent
  other_front : (l : Line) (n : ℕ) → IsOther q env l → rose → code ≡ 21 → new ≡ appended old (take n (line_text l))
      → spent ≡ [] → Logged q env old new rose code spent
  unlogged : code ≡ 30 → new ≡ old → spent ≡ [] → Logged q env old new rose code spent
