-- How one policy stands in a world, and what is counted of it.
use Rattle.std.specs.Prelude.{ℕ, List, [], ◌∷◌, Bool, true, false, if◌then◌else◌, Ok, Err}
use Rattle.sc_ast.specs.declared.policy.Policy.{Policy}
use Rattle.sc_ast.specs.Conditions.{condition}
use Rattle.sc_values.specs.declared.value.Value.{out-Value}
use Rattle.sc_world.specs.declared.world.World.{World}
use Rattle.sc_eval.specs.Outcomes.{Outcome}
use Rattle.sc_eval.specs.Eval.{eval}
use Rattle.sc_auth.specs.declared.standing.Standing.{Standing}
use Rattle.sc_auth.specs.declared.standing.Standing.TheVariants.{Satisfied, Unsatisfied, Errs}
use Rattle.sc_auth.specs.Decisions.{true_in}

abbrev pub standing_in : Outcome → Standing
standing_in (Ok x) = if true_in (out-Value x) then Satisfied else Unsatisfied
standing_in (Err e) = Errs e

abbrev pub standing_of : World → Policy → Standing
standing_of w p = standing_in (eval (condition p) w)

-- ---- for private clauses

-- the place, where it is to be listed
abbrev pub listed : Bool → ℕ → List ℕ
listed true n = n ∷ []
listed false n = []

abbrev pub is_satisfied : Standing → Bool
is_satisfied Satisfied = true
is_satisfied Unsatisfied = false
is_satisfied (Errs e) = false

abbrev pub has_erred : Standing → Bool
has_erred Satisfied = false
has_erred Unsatisfied = false
has_erred (Errs e) = true

abbrev pub is_some : List ℕ → Bool
is_some [] = false
is_some (n ∷ ns) = true
