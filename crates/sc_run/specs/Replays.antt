-- What a run writes of a scene: what the policies do in a world, under a schema.
use Rattle.std.specs.Prelude.{◌≡◌, ℕ, List, ◌∷◌, ◌++◌, take, Option}
use Rattle.sc_outside.specs.Writes.{Written, all_appended, appended}
use Rattle.sc_ast.specs.Literals.{literals}
use Rattle.sc_replay.specs.Reports.{report_lines, status_of}
use Rattle.sc_replay.specs.declared.breaks.Break.{Break}
use Rattle.sc_replay.specs.Breaks.{IsFirstBreak}
use Rattle.sc_inputs.specs.declared.inputs.Scene.{Scene}

-- what keeps the world from being well-formed, first of all, or that nothing does
abbrev pub Finds : Scene → Option Break → Type 0
Finds x found = IsFirstBreak x.schema (literals x.policies) x.world found

-- the lines of the report, each with its newline
abbrev pub lines_of : Scene → Option Break → List (List ℕ)
lines_of x found = report_lines found x.world x.policies

-- How reporting what a world does ends: all lines are written; or the sink failed, whole first lines are written and
-- a front of the next one; or memory ran out, and whole first lines are written, or, where it ran out before they
-- were known, nothing.
pub data Replayed (x : Scene) (old new : Written) (rose : Type 0) (code : ℕ) : Type 0 where
  told_whole : (found : Option Break) → Finds x found → code ≡ status_of found
      → new ≡ all_appended old (lines_of x found) → Replayed x old new rose code
  told_front : (found : Option Break) (lines : List (List ℕ)) (next : List ℕ) (rest : List (List ℕ)) (n : ℕ)
      → Finds x found → lines ++ next ∷ rest ≡ lines_of x found
      → rose → code ≡ 21 → new ≡ appended (all_appended old lines) (take n next) → Replayed x old new rose code
  told_first : (found : Option Break) (lines rest : List (List ℕ)) → Finds x found → lines ++ rest ≡ lines_of x found
      → code ≡ 30 → new ≡ all_appended old lines → Replayed x old new rose code
  untold : code ≡ 30 → new ≡ old → Replayed x old new rose code
