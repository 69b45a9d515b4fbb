-- For private clauses: the lines of policies from how they stand.
use Rattle.std.specs.Prelude.{ℕ, ◌+◌, List, [], ◌∷◌, ◌++◌, codes}
use Rattle.std.specs.Fmt.{decimal}
use Rattle.sc_auth.specs.declared.standing.Standing.{Standing}
use Rattle.sc_auth.specs.declared.standing.Standing.TheVariants.{Satisfied, Unsatisfied, Errs}
use Rattle.sc_replay.specs.Reports.{error_name}

abbrev pub standing_text : Standing → List ℕ
standing_text Satisfied = codes "satisfied"
standing_text Unsatisfied = codes "not satisfied"
standing_text (Errs e) = codes "errs " ++ error_name e

-- of the policy at place n
unfoldable pub standing_line : ℕ → Standing → List ℕ
standing_line n s = codes "policy" ++ decimal n ++ codes " " ++ standing_text s ++ codes "\n"

-- of policies of which the first is at place n
abbrev pub standing_lines : ℕ → List Standing → List (List ℕ)
standing_lines n [] = []
standing_lines n (s ∷ ss) = standing_line n s ∷ standing_lines (n + 1) ss
