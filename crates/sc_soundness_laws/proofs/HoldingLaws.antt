-- Capabilities that hold.
use Rattle.std.proofs.Common.{◌≡◌, ◌||◌, ℕ, List, [], ◌∷◌, ◌++◌, Bool, true, false, cond, Result, Ok, Err, refl, sym, ap, subst, ◌∙◌}
use Rattle.std.specs.List.{list_any}
use Rattle.sc_ast.specs.declared.expr.Expr.{Expr}
use Rattle.sc_ast.specs.declared.expr.Expr.TheVariants as expr
use Rattle.sc_ast.specs.declared.operator.BinaryOperator.TheVariants.{HasTag}
use Rattle.sc_values.specs.declared.value.Value.{Value, Value-F, out-Value}
use Rattle.sc_values.specs.declared.value.Value.TheVariants as value
use Rattle.sc_values.specs.declared.value.Value.TheOpen as v
use Rattle.sc_values.proofs.OutLaws.{out_Bool}
use Rattle.sc_world.specs.declared.world.World.{World}
use Rattle.sc_eval.specs.declared.error.EvalError.{EvalError}
use Rattle.sc_eval.specs.Outcomes.{Outcome, ◌>>=◌, of_bool}
use Rattle.sc_eval.specs.Entities.{has, has_path}
use Rattle.sc_eval.specs.Operators.{binary}
use Rattle.sc_eval.specs.Eval.{eval}
use Rattle.sc_eval.specs.ConstructLaws.{eval_Has, eval_Binary, has_path-one}
use Rattle.sc_typed.specs.declared.capability.Capability.{Capability}
use Rattle.sc_typed.specs.Capabilities.{Capabilities, nowhere, bare, tag_of, same, is_known, common}
use Rattle.sc_typing_rules.specs.Paths.{named}
use Rattle.sc_soundness_laws.specs.Sound.{Holds, AllHold}
use Rattle.sc_soundness_laws.proofs.BareLaws.{bare_eval}
use Rattle.sc_typed.proofs.SameLaws.{same_is}

-- ---- the value true

truth_in : Value-F Value → Bool
truth_in (v.Bool b) = b
truth_in _ = false

truth_of : Outcome → Bool
truth_of (Ok x) = truth_in (out-Value x)
truth_of (Err e) = false

truth_of-bool : (b : Bool) → truth_of (Ok (value.Bool b)) ≡ b
unfolding truth_of truth_in
truth_of-bool b = ap truth_in (out_Bool b)

pub is_true : (b : Bool) → ◌≡◌ {A = Outcome} (Ok (value.Bool b)) (Ok (value.Bool true)) → b ≡ true
is_true b e = sym (truth_of-bool b) ∙ ap truth_of e ∙ truth_of-bool true

pub no_error : (e : EvalError) → ◌≡◌ {A = Outcome} (Err e) (Ok (value.Bool true)) → ⊥
no_error e h = absurd cc

-- a test that is true has passed
pub passed : (r : Result Bool EvalError) → (r >>= of_bool) ≡ Ok (value.Bool true) → r ≡ Ok true
passed (Ok b) h = ap Ok (is_true b h)
passed (Err e) h = absurd (no_error e h)

-- ---- lists of capabilities

module _ (w : World) where
  pub both-hold : (a b : Capabilities) → AllHold w a → AllHold w b → AllHold w (a ++ b)
  both-hold [] b h k = k
  both-hold (c ∷ a) b h k = (h.0, both-hold a b h.1 k)

  one_holds : (c d : Capability) (b rest : Bool) → (b ≡ true → c ≡ d) → Holds w d → (rest ≡ true → Holds w c) → (b || rest) ≡ true → Holds w c
  one_holds c d true rest is h later k = subst (Holds w) (sym (is refl)) h
  one_holds c d false rest is h later k = later k

  -- what is among those that hold holds
  pub known_holds : (known : Capabilities) (c : Capability) → is_known known c ≡ true → AllHold w known → Holds w c
  unfolding is_known
  known_holds [] c k h = absurd cc
  known_holds (d ∷ known) c k h = one_holds c d (same c d) (list_any (same c) known) (same_is c d) h.0 (λ rest. known_holds known c rest h.1) k

  kept : (c : Capability) (b : Bool) (cs : Capabilities) → (b ≡ true → Holds w c) → AllHold w cs → AllHold w (cond b (c ∷ cs) cs)
  kept c true cs h k = (h refl, k)
  kept c false cs h k = k

  -- those that are common to two lists hold where either list does
  pub common-first : (a b : Capabilities) → AllHold w a → AllHold w (common a b)
  common-first [] b h = tt
  common-first (c ∷ a) b h = kept c (is_known b c) (common a b) (λ k. h.0) (common-first a b h.1)

  pub common-second : (a b : Capabilities) → AllHold w b → AllHold w (common a b)
  common-second [] b h = tt
  common-second (c ∷ a) b h = kept c (is_known b c) (common a b) (λ k. known_holds b c k h) (common-second a b h)

  -- ---- the tests of capabilities

  attribute_test : (object : Expr) (name : List ℕ) (x : Value) → eval object w ≡ Ok x → eval (expr.Has nowhere object (name ∷ [])) w ≡ (has name w x >>= of_bool)
  attribute_test object name x at =
      eval_Has nowhere object (name ∷ []) w
      ∙ ap (λ (o : Outcome). o >>= has_path (name ∷ []) w >>= of_bool) at
      ∙ ap (λ (r : Result Bool EvalError). r >>= of_bool) (has_path-one name w x)

  -- an object has the attribute
  pub has-holds : (object : Expr) (name : List ℕ) (x : Value) → eval object w ≡ Ok x → has name w x ≡ Ok true → Holds w (named object name)
  has-holds object name x at h = attribute_test object name x at ∙ ap (λ (r : Result Bool EvalError). r >>= of_bool) h

  pub holds-has : (object : Expr) (name : List ℕ) (x : Value) → eval object w ≡ Ok x → Holds w (named object name) → has name w x ≡ Ok true
  holds-has object name x at h = passed (has name w x) (sym (attribute_test object name x at) ∙ h)

  -- an entity has the tag
  tag_test : (a b : Expr) (x y : Value) → eval a w ≡ Ok x → eval b w ≡ Ok y → eval (expr.Binary nowhere HasTag (bare a) (bare b)) w ≡ binary HasTag w x y
  tag_test a b x y at bt =
      eval_Binary nowhere HasTag (bare a) (bare b) w
      ∙ ap (λ (o : Outcome). o >>= λ m. eval (bare b) w >>= λ n. binary HasTag w m n) (bare_eval w a ∙ at)
      ∙ ap (λ (o : Outcome). o >>= λ n. binary HasTag w x n) (bare_eval w b ∙ bt)

  pub tag-holds : (a b : Expr) (x y : Value) → eval a w ≡ Ok x → eval b w ≡ Ok y → binary HasTag w x y ≡ Ok (value.Bool true) → Holds w (tag_of a b)
  tag-holds a b x y at bt h = tag_test a b x y at bt ∙ h

  pub holds-tag : (a b : Expr) (x y : Value) → eval a w ≡ Ok x → eval b w ≡ Ok y → Holds w (tag_of a b) → binary HasTag w x y ≡ Ok (value.Bool true)
  holds-tag a b x y at bt h = sym (tag_test a b x y at bt) ∙ h
