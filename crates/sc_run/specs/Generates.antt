-- What a run asks of generated policies, and what it writes of them.
use Rattle.std.specs.Prelude.{◌≡◌, ℕ, List, [], ◌++◌, take, length, codes}
use Rattle.std.specs.Fmt.{decimal}
use Rattle.sc_clauses.specs.declared.step.Step.{Step}
use Rattle.sc_generated.specs.Generated.{backward, forward, schema_text}
use Rattle.sc_outside.specs.Writes.{Written, appended}
use Rattle.sc_parser.specs.Spelling.{Spells}
use Rattle.sc_question.specs.declared.question.Question.TheVariants.{Equivalent}
use Rattle.sc_reports.specs.Progress.{Reported}
use Rattle.sc_reports.specs.Reports.{Asked}
use Rattle.sc_schema_json.specs.Spelling as schema_file

-- whether so many generated policies are equivalent to the same in reverse order, under their schema and within a
-- million units: of each text what it spells is asked
pub record IsGenerated (size : ℕ) (q : Asked) : Type 0 where
  pub schema : schema_file.Spells schema_text q.schema
  pub question : q.question ≡ Equivalent
  pub first : Spells (forward size) q.first
  pub second : Spells (backward size) q.second
  pub budget : q.budget ≡ 1000000

-- how many policies there are, and how many bytes their text has
unfoldable pub summary_text : ℕ → ℕ → List ℕ
summary_text policies bytes =
    codes "generated " ++ (decimal policies ++ (codes " policies, " ++ (decimal bytes ++ codes " bytes\n")))

abbrev pub summary : ℕ → List ℕ
summary size = summary_text size (length (forward size))

-- How reporting on generated policies ends: their summary is written, and then the report as it comes; or the sink
-- failed, and a front of the summary is written; or memory ran out, and nothing is.
pub data Summed (n : ℕ) (old new : Written) (rose : Type 0) (code : ℕ) (spent : List (List Step)) : Type 0 where
  summed : (q : Asked) → IsGenerated n q → Reported q (appended old (summary n)) new rose code spent
      → Summed n old new rose code spent
  summary_cut : (k : ℕ) → rose → code ≡ 21 → new ≡ appended old (take k (summary n)) → spent ≡ []
      → Summed n old new rose code spent
  unsummed : code ≡ 30 → new ≡ old → spent ≡ [] → Summed n old new rose code spent
