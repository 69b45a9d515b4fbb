-- The terms of policies in a world in which they agree with the policies.
use Rattle.std.proofs.Common.{◌≡◌, Bool, true, false, not, cond, ◌&&◌, ◌||◌, List, [], ◌∷◌, map, filter, Result, Ok, Err, is_err, refl, sym, ap, subst, ◌∙◌}
use Rattle.std.specs.Prelude.{fold}
use Rattle.std.specs.List.{AllByRecursion, AllZip, list_any}
use Rattle.std.proofs.lemmas.List.Elements.{All-from_recursion, All-filter, All-map}
use Rattle.sc_terms.proofs.FoldValues.{truth_yes}
use Rattle.sc_ast.specs.declared.expr.Expr.{Expr}
use Rattle.sc_ast.specs.declared.literal.Literal.TheVariants as literal
use Rattle.sc_ast.specs.declared.policy.Effect.{Effect}
use Rattle.sc_ast.specs.declared.policy.Policy.{Policy}
use Rattle.sc_ast.specs.Conditions.{Conjunct, truth as truth_at, joined, conjuncts, condition}
use Rattle.sc_values.specs.declared.value.Value.TheVariants as value
use Rattle.sc_values.proofs.OutLaws.{out_Bool}
use Rattle.sc_world.specs.declared.world.World.{World}
use Rattle.sc_eval.specs.declared.error.EvalError.{EvalError}
use Rattle.sc_eval.specs.Outcomes.{Outcome, ◌>>=◌, as_bool, decide, of_bool}
use Rattle.sc_eval.specs.Eval.{eval}
use Rattle.sc_eval.specs.ConstructLaws.{eval_And, eval_Literal}
use Rattle.sc_auth.specs.Decisions.{true_in, is_true, satisfied as is_satisfied, errs, permits, allows}
use Rattle.sc_terms.specs.Trees.{Tree}
use Rattle.sc_terms.specs.Values.{Val, val, it, yes, truth, and_value}
use Rattle.sc_constructs.specs.Code.{Code}
use Rattle.sc_symeval.specs.Agreement.{Agrees}
use Rattle.sc_symauth.specs.Standings.{Compiled, satisfied, error, any_satisfied, allow, any_error}
use Rattle.sc_symauth.specs.Agreement.{IsTruth, Represents}
use Rattle.sc_symauth.proofs.ValuesLaws.{Negation, Both, Either, AnyTrue, IsYes, and_no, and_yes, not_is, both_are, and_is, any_is}

-- ---- a condition comes to a truth value, or errs

then_truth : (r : Result Bool EvalError) (f : Bool → Outcome) → ((b : Bool) → IsTruth (f b)) → IsTruth (r >>= f)
then_truth (Ok b) f h = h b
then_truth (Err e) f h = tt

decide_truth : (o : Outcome) (f : Bool → Outcome) → ((b : Bool) → IsTruth (f b)) → IsTruth (decide o f)
decide_truth (Ok x) f h = then_truth (as_bool x) f h
decide_truth (Err e) f h = tt

bool_truth : (b : Bool) → IsTruth (of_bool b)
bool_truth b = (b, refl)

joined_truth : (c : Conjunct) (a : Expr) (w : World) → IsTruth (eval (joined a c) w)
joined_truth c a w = subst IsTruth (sym (eval_And c.0 a c.1 w)) (decide_truth (eval a w) (λ (p : Bool). cond p (decide (eval c.1 w) of_bool) (of_bool false)) by)
  where
    by : (p : Bool) → IsTruth (cond p (decide (eval c.1 w) of_bool) (of_bool false))
    by true = decide_truth (eval c.1 w) of_bool bool_truth
    by false = bool_truth false

all_truth : (cs : List Conjunct) (a : Expr) (w : World) → IsTruth (eval a w) → IsTruth (eval (fold joined a cs) w)
all_truth [] a w h = h
all_truth (c ∷ cs) a w h = all_truth cs (joined a c) w (joined_truth c a w)

pub condition_truth : (p : Policy) (w : World) → IsTruth (eval (condition p) w)
condition_truth p w = all_truth (conjuncts p) (truth_at p.place) w (subst IsTruth (sym (eval_Literal p.place (literal.Bool true) w)) (bool_truth true))

-- ---- one policy

true_of : (b : Bool) → is_true (Ok (value.Bool b)) ≡ b
true_of b = ap true_in (out_Bool b)

pub satisfied_is : Both → (w : World) (c : Code) (o : Outcome) → Agrees w c o → IsTruth o → val (satisfied c) w ≡ yes (is_true o)
satisfied_is both w c (Ok x) h t =
    both_are both c.ok c.val w ∙ ap (λ (y : Val). and_value y (val c.val w)) h.0 ∙ and_yes (val c.val w) ∙ h.1 ∙ ap it t.1
    ∙ ap yes (sym (ap (λ (o : Outcome). is_true o) (ap Ok t.1) ∙ true_of t.0))
satisfied_is both w c (Err e) h t = both_are both c.ok c.val w ∙ ap (λ (y : Val). and_value y (val c.val w)) h ∙ and_no (val c.val w)

pub error_is : Negation → (w : World) (c : Code) (o : Outcome) → Agrees w c o → val (error c) w ≡ yes (is_err o)
error_is negation w c (Ok x) h = not_is negation c.ok w true h.0
error_is negation w c (Err e) h = not_is negation c.ok w false h

-- ---- a set of policies

module _ (negation : Negation) (both : Both) (either : Either) (any : AnyTrue) (w : World) where
  abbrev holds : Tree → Bool
  holds t = truth (val t w)

  stands : (c : Compiled) (p : Policy) → Represents w c p → val (satisfied c.code) w ≡ yes (is_satisfied w p)
  stands c p r = satisfied_is both w c.code (eval (condition p) w) r.agrees (condition_truth p w)

  errors : (c : Compiled) (p : Policy) → Represents w c p → val (error c.code) w ≡ yes (errs w p)
  errors c p r = error_is negation w c.code (eval (condition p) w) r.agrees

  -- each is a truth value
  all_stand : (cs : List Compiled) (ps : List Policy) → AllZip (Represents w) cs ps → AllByRecursion (λ (c : Compiled). IsYes w (satisfied c.code)) cs
  all_stand [] ps r = tt
  all_stand (c ∷ cs) [] r = absurd r
  all_stand (c ∷ cs) (p ∷ ps) r = ((is_satisfied w p, stands c p r.0), all_stand cs ps r.1)

  all_errors : (cs : List Compiled) (ps : List Policy) → AllZip (Represents w) cs ps → AllByRecursion (λ (c : Compiled). IsYes w (error c.code)) cs
  all_errors [] ps r = tt
  all_errors (c ∷ cs) [] r = absurd r
  all_errors (c ∷ cs) (p ∷ ps) r = ((errs w p, errors c p r.0), all_errors cs ps r.1)

  one_of_those : (b : Bool) (c : Compiled) (p : Policy) (cs : List Compiled) (rest : Bool) → Represents w c p → list_any holds (map (λ (c : Compiled). satisfied c.code) cs) ≡ rest
      → list_any holds (map (λ (c : Compiled). satisfied c.code) (cond b (c ∷ cs) cs)) ≡ ((b && is_satisfied w p) || rest)
  one_of_those true c p cs rest r e =
      ap (λ (x : Bool). x || list_any holds (map (λ (c : Compiled). satisfied c.code) cs)) (ap truth (stands c p r) ∙ truth_yes (is_satisfied w p))
      ∙ ap (λ (x : Bool). is_satisfied w p || x) e
  one_of_those false c p cs rest r e = e

  any_of_those : (h : Effect → Bool) (cs : List Compiled) (ps : List Policy) → AllZip (Represents w) cs ps
      → list_any holds (map (λ (c : Compiled). satisfied c.code) (filter (λ (c : Compiled). h c.effect) cs)) ≡ list_any (λ (p : Policy). h p.effect && is_satisfied w p) ps
  any_of_those h [] [] r = refl
  any_of_those h [] (p ∷ ps) r = absurd r
  any_of_those h (c ∷ cs) [] r = absurd r
  any_of_those h (c ∷ cs) (p ∷ ps) r =
      one_of_those (h c.effect) c p (filter (λ (c : Compiled). h c.effect) cs) (list_any (λ (p : Policy). h p.effect && is_satisfied w p) ps) r.0 (any_of_those h cs ps r.1)
      ∙ ap (λ (e : Effect). (h e && is_satisfied w p) || list_any (λ (p : Policy). h p.effect && is_satisfied w p) ps) r.0.effect

  any_satisfied_is : (h : Effect → Bool) (cs : List Compiled) (ps : List Policy) → AllZip (Represents w) cs ps
      → val (any_satisfied (λ (c : Compiled). h c.effect) cs) w ≡ yes (list_any (λ (p : Policy). h p.effect && is_satisfied w p) ps)
  any_satisfied_is h cs ps r =
      any_is either any (map (λ (c : Compiled). satisfied c.code) (filter (λ (c : Compiled). h c.effect) cs)) w
      (All-map (IsYes w) (λ (c : Compiled). satisfied c.code) (filter (λ (c : Compiled). h c.effect) cs)
      (All-filter (λ (c : Compiled). h c.effect) (λ (c : Compiled). IsYes w (satisfied c.code)) cs (All-from_recursion (λ (c : Compiled). IsYes w (satisfied c.code)) cs (all_stand cs ps r))))
      ∙ ap yes (any_of_those h cs ps r)

  pub allow_is : (cs : List Compiled) (ps : List Policy) → AllZip (Represents w) cs ps → val (allow cs) w ≡ yes (allows w ps)
  allow_is cs ps r =
      and_is both (any_satisfied (λ (c : Compiled). permits c.effect) cs) _ w _ _ (any_satisfied_is permits cs ps r)
      (not_is negation (any_satisfied (λ (c : Compiled). not (permits c.effect)) cs) w _ (any_satisfied_is (λ (e : Effect). not (permits e)) cs ps r))

  any_of_errors : (cs : List Compiled) (ps : List Policy) → AllZip (Represents w) cs ps → list_any holds (map (λ (c : Compiled). error c.code) cs) ≡ list_any (errs w) ps
  any_of_errors [] [] r = refl
  any_of_errors [] (p ∷ ps) r = absurd r
  any_of_errors (c ∷ cs) [] r = absurd r
  any_of_errors (c ∷ cs) (p ∷ ps) r =
      ap (λ (x : Bool). x || list_any holds (map (λ (c : Compiled). error c.code) cs)) (ap truth (errors c p r.0) ∙ truth_yes (errs w p))
      ∙ ap (λ (x : Bool). errs w p || x) (any_of_errors cs ps r.1)

  pub any_error_is : (cs : List Compiled) (ps : List Policy) → AllZip (Represents w) cs ps → val (any_error cs) w ≡ yes (list_any (errs w) ps)
  any_error_is cs ps r =
      any_is either any (map (λ (c : Compiled). error c.code) cs) w
      (All-map (IsYes w) (λ (c : Compiled). error c.code) cs (All-from_recursion (λ (c : Compiled). IsYes w (error c.code)) cs (all_errors cs ps r)))
      ∙ ap yes (any_of_errors cs ps r)
