-- Which policies are satisfied in a world, which err there, and what a set of them decides.
use Rattle.std.specs.Prelude.{◌&&◌, not, ℕ, ◌+◌, List, [], ◌∷◌, Bool, true, false, if◌then◌else◌, Ok, Err, is_err}
use Rattle.std.specs.List.{list_any}
use Rattle.sc_ast.specs.declared.policy.Policy.{Policy}
use Rattle.sc_ast.specs.declared.policy.Effect.{Effect}
use Rattle.sc_ast.specs.declared.policy.Effect.TheVariants.{Permit, Forbid}
use Rattle.sc_ast.specs.Conditions.{condition}
use Rattle.sc_values.specs.declared.value.Value.{Value, Value-F, out-Value}
use Rattle.sc_values.specs.declared.value.Value.TheOpen as v
use Rattle.sc_world.specs.declared.world.World.{World}
use Rattle.sc_eval.specs.Outcomes.{Outcome}
use Rattle.sc_eval.specs.Eval.{eval}
use Rattle.sc_auth.specs.declared.decision.Decision.{Decision}
use Rattle.sc_auth.specs.declared.decision.Decision.TheVariants.{Allow, Deny}

abbrev pub true_in : Value-F Value → Bool
true_in (v.Bool b) = b
true_in _ = false

abbrev pub is_true : Outcome → Bool
is_true (Ok x) = true_in (out-Value x)
is_true (Err e) = false

-- the policy's condition is true
abbrev pub satisfied : World → Policy → Bool
satisfied w p = is_true (eval (condition p) w)

-- the policy's condition has no value
abbrev pub errs : World → Policy → Bool
errs w p = is_err (eval (condition p) w)

abbrev pub permits : Effect → Bool
permits Permit = true
permits Forbid = false

-- a permit that is satisfied
abbrev pub is_permitting : World → Policy → Bool
is_permitting w p = permits p.effect && satisfied w p

-- a forbid that is satisfied
abbrev pub is_forbidding : World → Policy → Bool
is_forbidding w p = not (permits p.effect) && satisfied w p

-- some permit is satisfied, and no forbid is
abbrev pub allows : World → List Policy → Bool
allows w ps = list_any (is_permitting w) ps && not (list_any (is_forbidding w) ps)

abbrev pub decided : Bool → Decision
decided true = Allow
decided false = Deny

-- ---- the policies that a response names

-- the places of the policies that pass a test, the first policy being at n
abbrev pub places_from : ℕ → (Policy → Bool) → List Policy → List ℕ
places_from n test [] = []
places_from n test (p ∷ ps) = if test p then n ∷ places_from (n + 1) test ps else places_from (n + 1) test ps

abbrev pub places : (Policy → Bool) → List Policy → List ℕ
places test ps = places_from 0 test ps

-- the first list, where it has something
abbrev pub first_some : List ℕ → List ℕ → List ℕ
first_some [] others = others
first_some (n ∷ ns) others = n ∷ ns

-- the satisfied forbids where there are any, else the satisfied permits
abbrev pub determining : World → List Policy → List ℕ
determining w ps = first_some (places (is_forbidding w) ps) (places (is_permitting w) ps)

-- the policies that err
abbrev pub erroring : World → List Policy → List ℕ
erroring w ps = places (errs w) ps
