-- Which worlds have the property of some questions.
use Rattle.std.proofs.Common.{◌≡◌, ℤ, pos, negsuc, List, [], ◌∷◌, Bool, true, false, ◌&&◌, ◌||◌, not, is_err, if◌then◌else◌, Some, Ok, Err, codes, refl, ap, ◌∙◌}
use Rattle.sc_ast.specs.declared.expr.Expr.{Expr}
use Rattle.sc_ast.specs.declared.expr.Expr.TheVariants as expr
use Rattle.sc_ast.specs.declared.expr.Variable.TheVariants.{Context}
use Rattle.sc_ast.specs.declared.literal.Literal.TheVariants as literal
use Rattle.sc_ast.specs.declared.operator.BinaryOperator.TheVariants.{Add, Equal, Less}
use Rattle.sc_ast.specs.declared.operator.UnaryOperator.TheVariants.{Negate}
use Rattle.sc_ast.specs.declared.policy.Effect.TheVariants.{Permit}
use Rattle.sc_ast.specs.declared.policy.Policy.{Policy}
use Rattle.sc_values.specs.declared.value.Value.TheVariants as value
use Rattle.sc_values.specs.Records.{field}
use Rattle.sc_values.proofs.OutLaws.{out_Bool, out_Long}
use Rattle.sc_world.specs.declared.world.World.{World}
use Rattle.sc_eval.specs.declared.error.EvalError.TheVariants.{Overflow}
use Rattle.sc_eval.specs.Outcomes.{◌>>=◌, bool_in, decide, of_bool}
use Rattle.sc_eval.specs.Entities.{or_missing}
use Rattle.sc_eval.specs.Operators.{binary, unary}
use Rattle.sc_eval.specs.Eval.{eval}
use Rattle.sc_eval.specs.ConstructLaws.{eval_Or, eval_And, eval_Binary, eval_Unary, eval_Literal}
use Rattle.sc_auth.specs.Decisions.{true_in, is_true, allows, errs}
use Rattle.sc_auth.proofs.Examples.{at, when, mfa, condition-when, eval-context, satisfied-mfa}
use Rattle.sc_question.specs.declared.question.Question.TheVariants.{NeverErrors, AlwaysAllows, AlwaysDenies, Implies, Equivalent, Disjoint}
use Rattle.sc_goal.specs.Properties.{same, has}

-- ---- one set

-- `permit(principal, action, resource) when { BODY };`
abbrev permit : Expr → List Policy
permit body = when Permit body ∷ []

allows-permit : (body : Expr) (w : World) → allows w (permit body) ≡ is_true (decide (eval body w) of_bool)
allows-permit body w = ap (λ o. (is_true o || false) && true) (condition-when Permit body w) ∙ whole (is_true (decide (eval body w) of_bool))
  where
    whole : (b : Bool) → ((b || false) && true) ≡ b
    whole true = refl
    whole false = refl

errs-permit : (body : Expr) (w : World) → errs w (when Permit body) ≡ is_err (decide (eval body w) of_bool)
errs-permit body w = ap is_err (condition-when Permit body w)

-- a world in which `mfa` is true allows, so the set doesn't always deny
denies-mfa : (w : World) → field (codes "mfa") w.request.context ≡ Some (value.Bool true) → has AlwaysDenies (permit mfa) [] w ≡ false
denies-mfa w is = ap (λ b. not ((b || false) && true)) (satisfied-mfa Permit true w is)

denies-none : (w : World) → has AlwaysDenies [] [] w ≡ true
denies-none w = refl

allows-none : (w : World) → has AlwaysAllows [] [] w ≡ false
allows-none w = refl

errs-none : (w : World) → has NeverErrors [] [] w ≡ true
errs-none w = refl

-- ---- errors

-- `context.n`
abbrev n : Expr
n = expr.Access (at 0) (expr.Variable (at 0) Context) (codes "n")

abbrev long : ℤ → Expr
long i = expr.Literal (at 0) (literal.Long i)

abbrev truth : Bool → Expr
truth b = expr.Literal (at 0) (literal.Bool b)

-- `-context.n < 0 || true`
abbrev negated : Expr
negated = expr.Or (at 0) (expr.Binary (at 0) Less (expr.Unary (at 0) Negate n) (long (pos 0))) (truth true)

abbrev least : ℤ
least = negsuc 9223372036854775807

eval-n : (i : ℤ) (w : World) → field (codes "n") w.request.context ≡ Some (value.Long i) → eval n w ≡ Ok (value.Long i)
eval-n i w is = eval-context (at 0) (at 0) (codes "n") w ∙ ap or_missing is

eval-negated : (i : ℤ) (w : World) → field (codes "n") w.request.context ≡ Some (value.Long i)
    → eval negated w ≡ decide (unary Negate (value.Long i) >>= λ x. binary Less w x (value.Long (pos 0))) (λ p. if p then of_bool true else decide (of_bool true) of_bool)
eval-negated i w is =
    eval_Or (at 0) (expr.Binary (at 0) Less (expr.Unary (at 0) Negate n) (long (pos 0))) (truth true) w
    ∙ ap (λ o. decide o (λ p. if p then of_bool true else decide (eval (truth true) w) of_bool))
    (eval_Binary (at 0) Less (expr.Unary (at 0) Negate n) (long (pos 0)) w
    ∙ ap (λ o. o >>= λ x. eval (long (pos 0)) w >>= λ y. binary Less w x y) (eval_Unary (at 0) Negate n w ∙ ap (λ o. o >>= unary Negate) (eval-n i w is))
    ∙ ap (λ o. unary Negate (value.Long i) >>= λ x. o >>= λ y. binary Less w x y) (eval_Literal (at 0) (literal.Long (pos 0)) w))
    ∙ ap (λ o. decide (unary Negate (value.Long i) >>= λ x. binary Less w x (value.Long (pos 0))) (λ p. if p then of_bool true else decide o of_bool)) (eval_Literal (at 0) (literal.Bool true) w)

-- the least number has no negation
errs-least : (w : World) → field (codes "n") w.request.context ≡ Some (value.Long least) → has NeverErrors (permit negated) [] w ≡ false
errs-least w is = ap (λ b. not (b || false)) (errs-permit negated w ∙ ap (λ o. is_err (decide o of_bool)) (eval-negated least w is ∙ overflow))
  where
    overflow : decide (unary Negate (value.Long least) >>= λ x. binary Less w x (value.Long (pos 0))) (λ p. if p then of_bool true else decide (of_bool true) of_bool) ≡ Err Overflow
    overflow = rw (out_Long least) refl

-- `false && context.n + 1 == 0`
abbrev unasked : Expr
unasked = expr.And (at 0) (truth false) (expr.Binary (at 0) Equal (expr.Binary (at 0) Add n (long (pos 1))) (long (pos 0)))

-- what isn't evaluated doesn't err
errs-unasked : (w : World) → has NeverErrors (permit unasked) [] w ≡ true
errs-unasked w = ap (λ b. not (b || false)) (errs-permit unasked w ∙ ap (λ o. is_err (decide o of_bool)) no ∙ ap (λ y. is_err (bool_in y >>= of_bool)) (out_Bool false))
  where
    other : Expr
    other = expr.Binary (at 0) Equal (expr.Binary (at 0) Add n (long (pos 1))) (long (pos 0))

    no : eval unasked w ≡ of_bool false
    no =
        eval_And (at 0) (truth false) other w
        ∙ ap (λ o. decide o (λ p. if p then decide (eval other w) of_bool else of_bool false)) (eval_Literal (at 0) (literal.Bool false) w)
        ∙ ap (λ y. bool_in y >>= λ p. if p then decide (eval other w) of_bool else of_bool false) (out_Bool false)

-- ---- two sets

allows-true : (w : World) → allows w (permit (truth true)) ≡ true
allows-true w =
    allows-permit (truth true) w ∙ ap (λ o. is_true (decide o of_bool)) (eval_Literal (at 0) (literal.Bool true) w)
    ∙ ap (λ y. is_true (bool_in y >>= of_bool)) (out_Bool true) ∙ ap true_in (out_Bool true)

allows-mfa : (b : Bool) (w : World) → field (codes "mfa") w.request.context ≡ Some (value.Bool b) → allows w (permit mfa) ≡ b
allows-mfa true w is = ap (λ b. (b || false) && true) (satisfied-mfa Permit true w is)
allows-mfa false w is = ap (λ b. (b || false) && true) (satisfied-mfa Permit false w is)

-- what always allows is implied by all
implies-true : (w : World) → has Implies (permit mfa) (permit (truth true)) w ≡ true
implies-true w = ap (λ b. not (allows w (permit mfa)) || b) (allows-true w) ∙ always (not (allows w (permit mfa)))
  where
    always : (b : Bool) → (b || true) ≡ true
    always true = refl
    always false = refl

-- and implies nothing that doesn't allow
implies-mfa : (w : World) → field (codes "mfa") w.request.context ≡ Some (value.Bool false) → has Implies (permit (truth true)) (permit mfa) w ≡ false
implies-mfa w is = ap (λ b. not b || allows w (permit mfa)) (allows-true w) ∙ allows-mfa false w is

equivalent-mfa : (b : Bool) (w : World) → field (codes "mfa") w.request.context ≡ Some (value.Bool b) → has Equivalent (permit (truth true)) (permit mfa) w ≡ b
equivalent-mfa b w is = ap (λ c. same c (allows w (permit mfa))) (allows-true w) ∙ allows-mfa b w is

disjoint-mfa : (b : Bool) (w : World) → field (codes "mfa") w.request.context ≡ Some (value.Bool b) → has Disjoint (permit mfa) (permit (truth true)) w ≡ not b
disjoint-mfa b w is = ap (λ c. not (allows w (permit mfa) && c)) (allows-true w) ∙ ap (λ c. not (c && true)) (allows-mfa b w is) ∙ ap not (whole b)
  where
    whole : (c : Bool) → (c && true) ≡ c
    whole true = refl
    whole false = refl
