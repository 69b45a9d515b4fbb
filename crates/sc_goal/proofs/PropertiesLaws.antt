-- Which worlds have the properties.
use Rattle.std.proofs.Common.{◌≡◌, ◌↔◌, List, Bool, true, false, ◌&&◌, ◌||◌, not, IsTrue, IsErr, Any, refl}
use Rattle.std.specs.List.{list_any}
use Rattle.std.proofs.lemmas.List.Folds.{Any-from_list_any, list_any-from_Any}
use Rattle.sc_ast.specs.declared.policy.Policy.{Policy}
use Rattle.sc_ast.specs.Conditions.{condition}
use Rattle.sc_world.specs.declared.world.World.{World}
use Rattle.sc_eval.specs.Eval.{eval}
use Rattle.sc_auth.specs.Decisions.{allows, errs}
use Rattle.sc_question.specs.declared.question.Question.TheVariants.{NeverErrors, AlwaysDenies, Implies, Equivalent, Disjoint}
use Rattle.sc_goal.specs.Properties.{same, has}

not-decides : (b : Bool) → IsTrue (not b) ↔ ¬ IsTrue b
not-decides true = (λ h. cc, λ h. absurd (h refl))
not-decides false = (λ h t. let clash : false ≡ true = t in cc, λ h. refl)

implies_tested : (a b : Bool) → IsTrue (not a || b) ↔ (IsTrue a → IsTrue b)
implies_tested true b = (λ h t. h, λ h. h refl)
implies_tested false b = (λ h t. cc, λ h. refl)

same-decides : (a b : Bool) → IsTrue (same a b) ↔ (IsTrue a ↔ IsTrue b)
same-decides true b = (λ h. (λ t. h, λ t. refl), λ h. h.0 refl)
same-decides false true = (λ h. cc, λ h. h.1 refl)
same-decides false false = (λ h. (λ t. t, λ t. t), λ h. refl)

not_both : (a b : Bool) → IsTrue (not (a && b)) ↔ ¬ (IsTrue a × IsTrue b)
not_both true b = (λ h both. (not-decides b).0 h both.1, λ h. (not-decides b).1 (λ t. h (refl, t)))
not_both false b = (λ h both. let clash : false ≡ true = both.0 in cc, λ h. refl)

pub never_errors_decides : (a b : List Policy) (w : World) → IsTrue (has NeverErrors a b w) ↔ ¬ Any (λ p. IsErr (eval (condition p) w)) a
never_errors_decides a b w = (
  λ h some. (not-decides (list_any (errs w) a)).0 h (list_any-from_Any (errs w) a some),
  λ h. (not-decides (list_any (errs w) a)).1 (λ t. h (Any-from_list_any (errs w) a t)),
)

pub denies_decides : (a b : List Policy) (w : World) → IsTrue (has AlwaysDenies a b w) ↔ ¬ IsTrue (allows w a)
denies_decides a b w = not-decides (allows w a)

pub implies_decides : (a b : List Policy) (w : World) → IsTrue (has Implies a b w) ↔ (IsTrue (allows w a) → IsTrue (allows w b))
implies_decides a b w = implies_tested (allows w a) (allows w b)

pub equivalent_decides : (a b : List Policy) (w : World) → IsTrue (has Equivalent a b w) ↔ (IsTrue (allows w a) ↔ IsTrue (allows w b))
equivalent_decides a b w = same-decides (allows w a) (allows w b)

pub disjoint_decides : (a b : List Policy) (w : World) → IsTrue (has Disjoint a b w) ↔ ¬ (IsTrue (allows w a) × IsTrue (allows w b))
disjoint_decides a b w = not_both (allows w a) (allows w b)
