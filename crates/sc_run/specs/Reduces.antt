-- What a run writes of a reduction.
use Rattle.std.specs.Prelude.{◌≡◌, ℕ, List, [], ◌∷◌, ◌++◌, take, None, Result, Ok, Err}
use Rattle.sc_outside.specs.Writes.{Written, all_appended, appended}
use Rattle.sc_outside.specs.declared.faults.SinkFault.{SinkFault}
use Rattle.sc_outside.specs.declared.faults.SinkFault.TheVariants.{Failed, NoMemory}
use Rattle.sc_ast.specs.declared.policy.Policy.{Policy}
use Rattle.sc_clauses.specs.declared.step.Step.{Step}
use Rattle.sc_schema.specs.Declarations.{Declarations}
use Rattle.sc_typing.specs.Checking.{type_fault}
use Rattle.sc_typing.specs.Names.{name_fault}
use Rattle.sc_reduction.specs.Lines.{fate_lines, logs_of, status_of}
use Rattle.sc_reduction.specs.Reductions.{Asked, IsReduction}
use Rattle.sc_reduction.specs.declared.fate.Fate.{Fate}

-- what is to be reduced
abbrev pub to_reduce : Declarations → List Policy → ℕ → Asked
to_reduce s ps budget = record { schema = s; policies = ps; budget = budget }

-- policies that write declared names alone and are typed in each environment
pub record IsReducible (s : Declarations) (ps : List Policy) : Type 0 where
  pub declared : name_fault s ps ≡ None
  pub typed : type_fault s ps ≡ None

-- the lines, each with its newline
abbrev pub lines_of : Asked → List Fate → List (List ℕ)
lines_of x fates = fate_lines x.schema x.budget fates

-- How reporting a reduction ends: all lines are written; or the sink failed, whole first lines are written and a
-- front of the next one; or memory ran out, and whole first lines are written, or, where it ran out before they were
-- known, nothing. Where lines are known, the logs are those of all policies for which the budget was spent.
pub data Reduced (x : Asked) (old new : Written) (rose : Type 0) (code : ℕ) (spent : List (List Step)) : Type 0 where
  reduced_whole : (fates : List Fate) → IsReduction x fates → code ≡ status_of fates
      → new ≡ all_appended old (lines_of x fates) → spent ≡ logs_of fates → Reduced x old new rose code spent
  reduced_front : (fates : List Fate) (lines : List (List ℕ)) (next : List ℕ) (rest : List (List ℕ)) (n : ℕ)
      → IsReduction x fates → lines ++ next ∷ rest ≡ lines_of x fates
      → rose → code ≡ 21 → new ≡ appended (all_appended old lines) (take n next) → spent ≡ logs_of fates
      → Reduced x old new rose code spent
  reduced_first : (fates : List Fate) (lines rest : List (List ℕ)) → IsReduction x fates → lines
      ++ rest ≡ lines_of x fates
      → code ≡ 30 → new ≡ all_appended old lines → spent ≡ logs_of fates → Reduced x old new rose code spent
  unreduced : code ≡ 30 → new ≡ old → spent ≡ [] → Reduced x old new rose code spent

-- the status after lines were put out, where it is this one once all are
abbrev pub code_after : ℕ → Result Unit SinkFault → ℕ
code_after whole (Ok x) = whole
code_after whole (Err Failed) = 21
code_after whole (Err NoMemory) = 30
