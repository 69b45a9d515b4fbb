-- The lines of a reduction, its status and its logs.
use Rattle.std.specs.Prelude.{ℕ, ◌+◌, List, [], ◌∷◌, ◌++◌, flat_map, Bool, true, false, Option, Some, None, codes, slice_get, ⊤}
use Rattle.std.specs.Fmt.{decimal}
use Rattle.std.specs.List.{list_any}
use Rattle.sc_clauses.specs.declared.step.Step.{Step}
use Rattle.sc_inputs.specs.FaultTexts.{env_text}
use Rattle.sc_schema.specs.declared.declarations.Env.{Env}
use Rattle.sc_schema.specs.Declarations.{Declarations, environments}
use Rattle.sc_world.specs.WellFormed.{IsProperWorld}
use Rattle.sc_world_json.specs.Text.{world_text}
use Rattle.sc_reduction.specs.declared.fate.Fate.{Fate}
use Rattle.sc_reduction.specs.declared.fate.Fate.TheVariants.{Dropped, Kept, Unproved, TooLarge}

-- a word and an environment, as lines name it
abbrev pub on_env : List ℕ → Option Env → List ℕ
on_env word None = word
on_env word (Some env) = word ++ env_text env

-- what is told of a policy under a schema, within a budget
abbrev pub fate_text : Declarations → ℕ → Fate → List ℕ
fate_text s budget Dropped = codes "dropped"
fate_text s budget (Kept n w) = on_env (codes "kept ") (slice_get (environments s) n) ++ (codes " " ++ world_text w)
fate_text s budget (Unproved n log) = on_env (codes "unproved ") (slice_get (environments s) n)
    ++ (codes " after " ++ (decimal budget ++ codes " units"))
fate_text s budget (TooLarge n) = on_env (codes "over limit ") (slice_get (environments s) n)

-- the line of the policy at a place, with its newline
unfoldable pub fate_line : Declarations → ℕ → ℕ → Fate → List ℕ
fate_line s budget place fate = codes "policy" ++ decimal place ++ codes " " ++ fate_text s budget fate ++ codes "\n"

-- the lines of policies of which the first is at this place
abbrev pub lines_from : Declarations → ℕ → ℕ → List Fate → List (List ℕ)
lines_from s budget place [] = []
lines_from s budget place (f ∷ fs) = fate_line s budget place f ∷ lines_from s budget (place + 1) fs

-- one line for each policy, by its place
abbrev pub fate_lines : Declarations → ℕ → List Fate → List (List ℕ)
fate_lines s budget fates = lines_from s budget 0 fates

-- whether a policy matters isn't known
abbrev pub is_open : Fate → Bool
is_open Dropped = false
is_open (Kept n w) = false
is_open (Unproved n log) = true
is_open (TooLarge n) = true

abbrev pub status_by : Bool → ℕ
status_by true = 2
status_by false = 0

-- 2 where of some policy it isn't known whether it matters, else 0
abbrev pub status_of : List Fate → ℕ
status_of fates = status_by (list_any is_open fates)

abbrev pub log_of : Fate → List (List Step)
log_of Dropped = []
log_of (Kept n w) = []
log_of (Unproved n log) = log ∷ []
log_of (TooLarge n) = []

-- the logs of those for which the budget was spent
abbrev pub logs_of : List Fate → List (List Step)
logs_of fates = flat_map log_of fates

-- a world that is to be printed is made of values
abbrev pub IsPrintable : Fate → Type 0
IsPrintable Dropped = ⊤
IsPrintable (Kept n w) = IsProperWorld w
IsPrintable (Unproved n log) = ⊤
IsPrintable (TooLarge n) = ⊤
