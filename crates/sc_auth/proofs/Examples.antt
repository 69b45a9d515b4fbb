-- What some policies decide.
use Rattle.std.proofs.Common.{◌≡◌, ℕ, List, [], ◌∷◌, Bool, true, false, ◌&&◌, ◌||◌, not, if◌then◌else◌, is_err, Some, None, Err, codes, refl, ap, ◌∙◌, pos}
use Rattle.sc_ast.specs.declared.expr.Expr.{Expr}
use Rattle.sc_ast.specs.declared.expr.Expr.TheVariants as expr
use Rattle.sc_ast.specs.declared.expr.Variable.TheVariants.{Context}
use Rattle.sc_ast.specs.declared.literal.Literal.TheVariants as literal
use Rattle.sc_ast.specs.declared.place.Place.{Place}
use Rattle.sc_ast.specs.declared.policy.ConditionKind.TheVariants.{When}
use Rattle.sc_ast.specs.declared.policy.Effect.{Effect}
use Rattle.sc_ast.specs.declared.policy.Effect.TheVariants.{Permit, Forbid}
use Rattle.sc_ast.specs.declared.policy.Policy.{Policy}
use Rattle.sc_ast.specs.declared.scope.ActionConstraint.TheVariants as action
use Rattle.sc_ast.specs.declared.scope.Constraint.TheVariants as constraint
use Rattle.sc_ast.specs.declared.scope.Scope.{Scope}
use Rattle.sc_ast.specs.Conditions.{condition}
use Rattle.sc_values.specs.declared.value.Value.TheVariants as value
use Rattle.sc_values.specs.Records.{field}
use Rattle.sc_values.proofs.OutLaws.{out_Bool, out_Long, out_Record}
use Rattle.sc_world.specs.declared.world.World.{World}
use Rattle.sc_eval.specs.declared.error.EvalError.TheVariants.{TypeError, AttrMissing}
use Rattle.sc_eval.specs.Outcomes.{◌>>=◌, bool_in, decide, of_bool}
use Rattle.sc_eval.specs.Entities.{access_in, access, or_missing}
use Rattle.sc_eval.specs.Eval.{eval}
use Rattle.sc_eval.specs.ConstructLaws.{eval_And, eval_Access, eval_Literal, eval_Variable}
use Rattle.sc_auth.specs.declared.decision.Decision.TheVariants.{Allow, Deny}
use Rattle.sc_auth.specs.declared.decision.Decision.{Decision}
use Rattle.sc_auth.specs.Decisions.{true_in, is_true, satisfied, errs, is_permitting, allows, decided, first_some, places, determining, erroring}

abbrev pub at : ℕ → Place
at n = record { offset = n }

abbrev pub any : ℕ → Scope
any n = record { place = at n; constraint = constraint.Any }

-- `EFFECT(principal, action, resource) when { BODY };`
abbrev pub when : Effect → Expr → Policy
when effect body = record {
  place = at 0;
  effect = effect;
  principal = any 7;
  action = record { place = at 18; constraint = action.Any };
  resource = any 26;
  conditions = record { place = at 36; kind = When; body = body } ∷ [];
}

-- `context.mfa`
abbrev pub mfa : Expr
mfa = expr.Access (at 50) (expr.Variable (at 43) Context) (codes "mfa")

-- `1`, which is no Bool
abbrev pub number : Expr
number = expr.Literal (at 43) (literal.Long (pos 1))

-- ---- conditions

-- such a policy asks its body alone
pub condition-when : (effect : Effect) (body : Expr) (w : World) → eval (condition (when effect body)) w ≡ decide (eval body w) of_bool
condition-when effect body w =
    eval_And (at 36) (expr.Literal (at 0) (literal.Bool true)) body w
    ∙ ap (λ o. decide o (λ p. if p then decide (eval body w) of_bool else of_bool false)) (eval_Literal (at 0) (literal.Bool true) w)
    ∙ ap (λ y. y >>= λ p. if p then decide (eval body w) of_bool else of_bool false) (ap bool_in (out_Bool true))

-- a field of the context
pub eval-context : (p q : Place) (name : List ℕ) (w : World) → eval (expr.Access p (expr.Variable q Context) name) w ≡ or_missing (field name w.request.context)
eval-context p q name w =
    eval_Access p (expr.Variable q Context) name w
    ∙ ap (λ o. o >>= access name w) (eval_Variable q Context w)
    ∙ ap (access_in name w) (out_Record w.request.context)

-- the condition where `mfa` is a Bool
pub condition-mfa : (effect : Effect) (b : Bool) (w : World) → field (codes "mfa") w.request.context ≡ Some (value.Bool b) → eval (condition (when effect mfa)) w ≡ of_bool b
condition-mfa effect b w is =
    condition-when effect mfa w
    ∙ ap (λ o. decide o of_bool) (eval-context (at 50) (at 43) (codes "mfa") w ∙ ap or_missing is)
    ∙ ap (λ y. y >>= of_bool) (ap bool_in (out_Bool b))

-- where it isn't there
pub condition-no_mfa : (effect : Effect) (w : World) → field (codes "mfa") w.request.context ≡ None → eval (condition (when effect mfa)) w ≡ Err AttrMissing
condition-no_mfa effect w is =
    condition-when effect mfa w ∙ ap (λ o. decide o of_bool) (eval-context (at 50) (at 43) (codes "mfa") w ∙ ap or_missing is)

pub condition-number : (effect : Effect) (w : World) → eval (condition (when effect number)) w ≡ Err TypeError
condition-number effect w =
    condition-when effect number w
    ∙ ap (λ o. decide o of_bool) (eval_Literal (at 43) (literal.Long (pos 1)) w)
    ∙ ap (λ y. y >>= of_bool) (ap bool_in (out_Long (pos 1)))

-- ---- decisions

-- the places of the policies, the decision, and the policies that it rests on and that err
pub record Decides (w : World) (ps : List Policy) (d : Decision) (rests_on err : List ℕ) : Type 0 where
  pub decision : decided (allows w ps) ≡ d
  pub determining : determining w ps ≡ rests_on
  pub erroring : erroring w ps ≡ err

pub satisfied-mfa : (effect : Effect) (b : Bool) (w : World) → field (codes "mfa") w.request.context ≡ Some (value.Bool b) → satisfied w (when effect mfa) ≡ b
satisfied-mfa effect b w is = ap is_true (condition-mfa effect b w is) ∙ ap true_in (out_Bool b)

pub errs-mfa : (effect : Effect) (b : Bool) (w : World) → field (codes "mfa") w.request.context ≡ Some (value.Bool b) → errs w (when effect mfa) ≡ false
errs-mfa effect b w is = ap is_err (condition-mfa effect b w is)

-- a place, where it is to be listed, before others
abbrev listed_if : Bool → ℕ → List ℕ → List ℕ
listed_if b n ns = if b then n ∷ ns else ns

-- a permit whose condition is true
pub one-permit : (w : World) → field (codes "mfa") w.request.context ≡ Some (value.Bool true) → Decides w (when Permit mfa ∷ []) Allow (0 ∷ []) []
one-permit w is = record {
  decision = ap (λ b. decided ((b || false) && true)) (satisfied-mfa Permit true w is);
  determining = ap (λ b. if b then 0 ∷ [] else []) (satisfied-mfa Permit true w is);
  erroring = ap (λ b. if b then 0 ∷ [] else []) (errs-mfa Permit true w is);
}

-- a permit whose condition is false
pub false-permit : (w : World) → field (codes "mfa") w.request.context ≡ Some (value.Bool false) → Decides w (when Permit mfa ∷ []) Deny [] []
false-permit w is = record {
  decision = ap (λ b. decided ((b || false) && true)) (satisfied-mfa Permit false w is);
  determining = ap (λ b. if b then 0 ∷ [] else []) (satisfied-mfa Permit false w is);
  erroring = ap (λ b. if b then 0 ∷ [] else []) (errs-mfa Permit false w is);
}

-- a permit whose condition has no value
pub erring-permit : (w : World) → field (codes "mfa") w.request.context ≡ None → Decides w (when Permit mfa ∷ []) Deny [] (0 ∷ [])
erring-permit w is = record {
  decision = ap (λ o. decided ((is_true o || false) && true)) (condition-no_mfa Permit w is);
  determining = ap (λ o. if is_true o then 0 ∷ [] else []) (condition-no_mfa Permit w is);
  erroring = ap (λ o. if is_err o then 0 ∷ [] else []) (condition-no_mfa Permit w is);
}

-- no policy
pub no_policy : (w : World) → Decides w [] Deny [] []
no_policy w = record { decision = refl; determining = refl; erroring = refl }

-- a satisfied forbid decides against a satisfied permit; a policy that errs is told, and decides nothing
pub forbid-first : (w : World) → field (codes "mfa") w.request.context ≡ Some (value.Bool true)
    → Decides w (when Permit mfa ∷ when Permit number ∷ when Forbid mfa ∷ []) Deny (2 ∷ []) (1 ∷ [])
forbid-first w is = record {
  decision =
      ap (λ b. decided ((satisfied w (when Permit mfa) || (satisfied w (when Permit number) || false)) && not (b || false))) (satisfied-mfa Forbid true w is)
      ∙ ap decided (and_false (satisfied w (when Permit mfa) || (satisfied w (when Permit number) || false)));
  determining = ap (λ b. first_some (if b then 2 ∷ [] else []) (places (is_permitting w) (when Permit mfa ∷ when Permit number ∷ when Forbid mfa ∷ []))) (satisfied-mfa Forbid true w is);
  erroring = named (errs w (when Permit mfa)) (errs w (when Permit number)) (errs w (when Forbid mfa)) (errs-mfa Permit true w is) (ap is_err (condition-number Permit w)) (errs-mfa Forbid true w is);
}
  where
    and_false : (b : Bool) → (b && false) ≡ false
    and_false true = refl
    and_false false = refl

    named : (a b c : Bool) → a ≡ false → b ≡ true → c ≡ false → listed_if a 0 (listed_if b 1 (listed_if c 2 [])) ≡ 1 ∷ []
    named a b c p q r = rw (p, q, r) refl

-- a forbid that errs forbids nothing
pub erring-forbid : (w : World) → field (codes "mfa") w.request.context ≡ Some (value.Bool true)
    → Decides w (when Permit mfa ∷ when Forbid number ∷ []) Allow (0 ∷ []) (1 ∷ [])
erring-forbid w is = record {
  decision = decided_by (satisfied w (when Permit mfa)) (satisfied w (when Forbid number)) (satisfied-mfa Permit true w is) (ap is_true (condition-number Forbid w));
  determining = rests_on (satisfied w (when Permit mfa)) (satisfied w (when Forbid number)) (satisfied-mfa Permit true w is) (ap is_true (condition-number Forbid w));
  erroring = named (errs w (when Permit mfa)) (errs w (when Forbid number)) (errs-mfa Permit true w is) (ap is_err (condition-number Forbid w));
}
  where
    decided_by : (a b : Bool) → a ≡ true → b ≡ false → decided ((a || false) && not (b || false)) ≡ Allow
    decided_by a b p q = rw (p, q) refl

    rests_on : (a b : Bool) → a ≡ true → b ≡ false → first_some (listed_if b 1 []) (listed_if a 0 (listed_if false 1 [])) ≡ 0 ∷ []
    rests_on a b p q = rw (p, q) refl

    named : (a b : Bool) → a ≡ false → b ≡ true → listed_if a 0 (listed_if b 1 []) ≡ 1 ∷ []
    named a b p q = rw (p, q) refl
