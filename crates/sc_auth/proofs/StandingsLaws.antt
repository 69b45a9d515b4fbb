-- How a policy stands, and what its condition comes to.
use Rattle.std.proofs.Common.{◌≡◌, ◌↔◌, Bool, true, false, IsTrue, if◌then◌else◌, Ok, Err, refl}
use Rattle.sc_ast.specs.declared.policy.Policy.{Policy}
use Rattle.sc_ast.specs.Conditions.{condition}
use Rattle.sc_values.specs.declared.value.Value.{out-Value}
use Rattle.sc_values.specs.declared.value.Value.TheVariants as value
use Rattle.sc_world.specs.declared.world.World.{World}
use Rattle.sc_eval.specs.declared.error.EvalError.{EvalError}
use Rattle.sc_eval.specs.Outcomes.{Outcome}
use Rattle.sc_eval.specs.Eval.{eval}
use Rattle.sc_auth.specs.declared.standing.Standing.{Standing}
use Rattle.sc_auth.specs.declared.standing.Standing.TheVariants.{Satisfied, Unsatisfied, Errs}
use Rattle.sc_auth.specs.Decisions.{true_in, is_true}
use Rattle.sc_auth.specs.Standings.{standing_in, standing_of}
use Rattle.sc_auth.proofs.DecisionsLaws.{is_true-decides}

-- a value that is true or not
abbrev by_truth : Bool → Standing
by_truth b = if b then Satisfied else Unsatisfied

truth-decides : (b : Bool) → (by_truth b ≡ Satisfied) ↔ IsTrue b
truth-decides true = (λ h. refl, λ h. refl)
truth-decides false = (λ h. absurd cc, λ h. absurd cc)

truth-errs : (b : Bool) (e : EvalError) → by_truth b ≡ Errs e → ⊥
truth-errs true e h = cc
truth-errs false e h = cc

satisfied_in : (o : Outcome) → (standing_in o ≡ Satisfied) ↔ IsTrue (is_true o)
satisfied_in (Ok x) = truth-decides (true_in (out-Value x))
satisfied_in (Err e) = (λ h. absurd cc, λ h. absurd cc)

errs_in : (o : Outcome) (e : EvalError) → (standing_in o ≡ Errs e) ↔ (o ≡ Err e)
errs_in (Ok x) e = (λ h. absurd (truth-errs (true_in (out-Value x)) e h), λ h. absurd cc)
errs_in (Err d) e = (λ h. cc, λ h. cc)

pub Satisfied-decides : (w : World) (p : Policy) → (standing_of w p ≡ Satisfied) ↔ (eval (condition p) w ≡ Ok (value.Bool true))
Satisfied-decides w p = (
  λ h. (is_true-decides (eval (condition p) w)).0 ((satisfied_in (eval (condition p) w)).0 h),
  λ h. (satisfied_in (eval (condition p) w)).1 ((is_true-decides (eval (condition p) w)).1 h),
)

pub Errs-decides : (w : World) (p : Policy) (e : EvalError) → (standing_of w p ≡ Errs e) ↔ (eval (condition p) w ≡ Err e)
Errs-decides w p e = errs_in (eval (condition p) w) e
