-- What is said of a log that is checked for an environment.
use Rattle.std.specs.Prelude.{◌≡◌, ◌≤◌, ◌++◌, ℕ, List, Option, IfSome, length, codes, take}
use Rattle.std.specs.Fmt.{decimal}
use Rattle.sc_outside.specs.Writes.{Written, appended}
use Rattle.sc_checker.specs.Streams.{HasVerdict, IsAcceptedText}
use Rattle.sc_checker.specs.declared.checking.Reason.{Reason}
use Rattle.sc_checker.specs.declared.checking.Reason.TheVariants as reason
use Rattle.sc_checker.specs.declared.checking.Verdict.{Verdict}
use Rattle.sc_checker.specs.declared.checking.Verdict.TheVariants.{Refuted, Rejected}
use Rattle.sc_footprint.specs.Problems.{Posed}
use Rattle.sc_inputs.specs.Refusals.{log_limit}
use Rattle.sc_schema.specs.declared.declarations.Env.{Env}
use Rattle.sc_solver.specs.Theories.{HasRule, rule_clause}
use Rattle.sc_reports.specs.Reports.{AlwaysHas, Asked, HasRoom, IsProblem, IsTooLarge, line_text, over_limit}
use Rattle.sc_reports.specs.declared.claims.Answer as code
use Rattle.sc_reports.specs.declared.claims.Answer.TheVariants as answer

-- the answers to a claim
pub data Answer : Type 0 where
  -- the log shows the property
  accepted : Answer
  -- this step is the first at fault, for this reason
  rejected : ℕ → Reason → Answer
  -- the environment's problem lists more atoms than may be
  too_large : Answer

-- the text has this verdict as a log of the environment's problem
pub record HasTextVerdict (q : Asked) (env : Env) (text : List ℕ) (v : Verdict) : Type 0 where
  pub posed : Posed
  pub is_problem : IsProblem q env posed
  pub verdict : HasVerdict (HasRule posed) (rule_clause posed) posed text v

-- the text is that of a log of the environment's problem which is accepted
pub record IsShown (q : Asked) (env : Env) (text : List ℕ) : Type 0 where
  pub posed : Posed
  pub is_problem : IsProblem q env posed
  pub accepted_text : IsAcceptedText (HasRule posed) (rule_clause posed) posed text

-- what an answer claims, of a log file with this content, where that is told: that a log is accepted means, whatever
-- the file holds, that each well-formed world of the environment has the property
abbrev pub Claims : Option (List ℕ) → Asked → Env → Answer → Type 0
Claims content q env accepted = AlwaysHas q env × HasRoom q env × IfSome content (IsShown q env)
Claims content q env (rejected step why) =
    HasRoom q env × IfSome content (λ text. HasTextVerdict q env text (Rejected step why))
Claims content q env too_large = IsTooLarge q env

-- the log file isn't too long, where its content is told
abbrev pub IsShort : Option (List ℕ) → Type 0
IsShort content = IfSome content (λ text. length text ≤ log_limit)

abbrev pub reason_name : Reason → List ℕ
reason_name reason.Malformed = codes "Malformed"
reason_name reason.NoInstance = codes "NoInstance"
reason_name reason.NotRefuted = codes "NotRefuted"
reason_name reason.NotEmpty = codes "NotEmpty"

unfoldable pub rejected_text : ℕ → Reason → List ℕ
rejected_text step why = codes "error 14 step " ++ (decimal step ++ (codes " " ++ (reason_name why ++ codes "\n")))

abbrev pub answer_text : Env → Answer → List ℕ
answer_text env accepted = codes "accepted\n"
answer_text env (rejected step why) = rejected_text step why
answer_text env too_large = line_text (record { env = env; verdict = over_limit })

abbrev pub answer_code : Answer → ℕ
answer_code accepted = 0
answer_code (rejected step why) = 14
answer_code too_large = 2

abbrev pub answer_view : code.Answer → Answer
answer_view answer.Accepted = accepted
answer_view (answer.Rejected step why) = rejected step why
answer_view answer.OverLimit = too_large

-- a text is checked for a problem: this is its verdict
pub record IsChecked (p : Posed) (text : List ℕ) (v : Verdict) : Type 0 where
  pub verdict : HasVerdict (HasRule p) (rule_clause p) p text v
  pub accepted : v ≡ Refuted → IsAcceptedText (HasRule p) (rule_clause p) p text

-- what is said of a verdict
abbrev pub says_of : Verdict → Answer
says_of Refuted = accepted
says_of (Rejected step why) = rejected step why

-- How checking a log ends, of a log file with this content, where that is told: the log isn't too long, and what is
-- said of it is written whole; or the sink failed, and a front of it is; or memory ran out, and nothing is written.
pub data Checked (content : Option (List ℕ)) (q : Asked) (env : Env) (old new : Written) (rose : Type 0)
    (code : ℕ) : Type 0 where
  answer_whole : (a : Answer) → IsShort content → Claims content q env a → code ≡ answer_code a
      → new ≡ appended old (answer_text env a) → Checked content q env old new rose code
  answer_front : (a : Answer) (n : ℕ) → IsShort content → Claims content q env a → rose → code ≡ 21
      → new ≡ appended old (take n (answer_text env a)) → Checked content q env old new rose code
  unchecked : code ≡ 30 → new ≡ old → Checked content q env old new rose code
