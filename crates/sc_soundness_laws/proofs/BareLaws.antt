-- An expression without places has the value of the expression.
use Rattle.std.proofs.Common.{◌≡◌, ℕ, List, [], ◌∷◌, map, true, false, if◌then◌else◌, Result, Ok, refl, sym, ap, subst, ◌∙◌}
use Rattle.sc_ast.specs.declared.expr.Expr.{Expr, Expr-F, roll-Expr, map-Expr, ind-Expr, fold-roll-Expr}
use Rattle.sc_ast.specs.declared.expr.Expr.TheOpen as e
use Rattle.sc_values.specs.declared.value.Value.{Value}
use Rattle.sc_values.specs.Records.{Fields}
use Rattle.sc_world.specs.declared.world.World.{World}
use Rattle.sc_eval.specs.declared.error.EvalError.{EvalError}
use Rattle.sc_eval.specs.Outcomes.{◌>>=◌, decide, of_bool}
use Rattle.sc_eval.specs.Entities.{access, has_path, is_of, is_in}
use Rattle.sc_eval.specs.Collections.{set_value, record_value}
use Rattle.sc_eval.specs.Operators.{binary, unary, is_like}
use Rattle.sc_eval.specs.Eval.{Meaning, all_values, all_fields, eval_step, eval}
use Rattle.sc_eval.specs.ConstructLaws.{eval_If, eval_Or, eval_And, eval_Binary, eval_Has, eval_Like, eval_Is, eval_IsIn, eval_Unary, eval_Access, eval_Literal, eval_Variable, eval_Set, eval_Record}
use Rattle.sc_typed.specs.Capabilities.{nowhere, bare_name, bare_step, bare}

module _ (w : World) where
  abbrev IsKept : Expr → Type 0
  IsKept x = eval (bare x) w ≡ eval x w

  abbrev Known : Type 0
  Known = (x : Expr) × IsKept x

  abbrev forget : Expr-F Known → Expr-F Expr
  forget = map-Expr Known Expr (λ k. k.0)

  abbrev exprs : List Known → List Expr
  exprs ks = map (λ (k : Known). k.0) ks

  same_values : (ks : List Known) → all_values (map eval (map bare (exprs ks))) w ≡ all_values (map eval (exprs ks)) w
  same_values [] = refl
  same_values (k ∷ ks) = let first : IsKept k.0 = k.1 in let rest = same_values ks in λ i. first i >>= λ y. rest i >>= λ ys. Ok (y ∷ ys)

  abbrev fields : List (List ℕ × Known) → List (List ℕ × Expr)
  fields ks = map (λ (f : List ℕ × Known). (f.0, f.1.0)) ks

  abbrev bare_fields : List (List ℕ × Expr) → List (List ℕ × Expr)
  bare_fields fs = map (λ (f : List ℕ × Expr). (f.0, bare f.1)) fs

  abbrev meanings : List (List ℕ × Expr) → List (List ℕ × Meaning)
  meanings fs = map (λ (f : List ℕ × Expr). (f.0, eval f.1)) fs

  same_fields : (ks : List (List ℕ × Known)) → all_fields (meanings (bare_fields (fields ks))) w ≡ all_fields (meanings (fields ks)) w
  same_fields [] = refl
  same_fields (k ∷ ks) = let first : IsKept k.1.0 = k.1.1 in let rest = same_fields ks in λ i. first i >>= λ y. rest i >>= λ gs. Ok ((k.0, y) ∷ gs)

  row : (y : Expr-F Known) → eval (bare_step (map-Expr Expr Expr bare (forget y))) w ≡ eval_step (map-Expr Expr Meaning eval (forget y)) w
  row (e.If place c a b) = eval_If nowhere (bare c.0) (bare a.0) (bare b.0) w ∙ λ i. decide (c.1 i) (λ p. if p then a.1 i else b.1 i)
  row (e.Or place a b) = eval_Or nowhere (bare a.0) (bare b.0) w ∙ λ i. decide (a.1 i) (λ p. if p then of_bool true else decide (b.1 i) of_bool)
  row (e.And place a b) = eval_And nowhere (bare a.0) (bare b.0) w ∙ λ i. decide (a.1 i) (λ p. if p then decide (b.1 i) of_bool else of_bool false)
  row (e.Binary place operator a b) = eval_Binary nowhere operator (bare a.0) (bare b.0) w ∙ λ i. a.1 i >>= λ x. b.1 i >>= λ y. binary operator w x y
  row (e.Has place a names) = eval_Has nowhere (bare a.0) names w ∙ λ i. a.1 i >>= has_path names w >>= of_bool
  row (e.Like place a pattern) = eval_Like nowhere (bare a.0) pattern w ∙ λ i. a.1 i >>= is_like pattern >>= of_bool
  row (e.Is place a t) = eval_Is nowhere (bare a.0) (bare_name t) w ∙ λ i. a.1 i >>= is_of t.name >>= of_bool
  row (e.IsIn place a t in_place b) = eval_IsIn nowhere (bare a.0) (bare_name t) nowhere (bare b.0) w ∙ λ i. a.1 i >>= λ x. is_of t.name x >>= λ p. if p then (b.1 i >>= is_in w x >>= of_bool) else of_bool false
  row (e.Unary place operator a) = eval_Unary nowhere operator (bare a.0) w ∙ λ i. a.1 i >>= unary operator
  row (e.Access place a name) = eval_Access nowhere (bare a.0) name w ∙ λ i. a.1 i >>= access name w
  row (e.Literal place l) = eval_Literal nowhere l w
  row (e.Variable place x) = eval_Variable nowhere x w
  row (e.Set place ks) = eval_Set nowhere (map bare (exprs ks)) w ∙ ap (λ (r : Result (List Value) EvalError). r >>= λ ys. Ok (set_value ys)) (same_values ks)
  row (e.Record place ks) = eval_Record nowhere (bare_fields (fields ks)) w ∙ ap (λ (r : Result Fields EvalError). r >>= λ gs. Ok (record_value gs)) (same_fields ks)

  inner : (y : Expr-F Known) → IsKept (roll-Expr (forget y))
  unfolding bare eval
  inner y =
      ap (λ z. eval z w) (fold-roll-Expr Expr bare_step (forget y))
      ∙ row y
      ∙ sym (ap (λ f. f w) (fold-roll-Expr Meaning eval_step (forget y)))

  -- its value is the same
  pub bare_eval : (x : Expr) → IsKept x
  bare_eval = ind-Expr IsKept (λ x y at. subst (λ z. IsKept (roll-Expr z)) at (inner y))
