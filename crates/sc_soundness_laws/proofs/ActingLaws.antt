-- An expression with the action's uid in place of `action`: its value where that is the request's action, and its uids.
use Rattle.std.proofs.Common.{◌≡◌, ℕ, List, [], ◌∷◌, ◌++◌, map, flat_map, true, false, if◌then◌else◌, Result, Ok, refl, sym, ap, subst, ◌∙◌}
use Rattle.std.specs.List.{AllByRecursion}
use Rattle.sc_ast.specs.declared.expr.Expr.{Expr, Expr-F, roll-Expr, map-Expr, ind-Expr, fold-roll-Expr}
use Rattle.sc_ast.specs.declared.expr.Expr.TheOpen as e
use Rattle.sc_ast.specs.declared.expr.Expr.TheVariants as expr
use Rattle.sc_ast.specs.declared.expr.Expr.TheVariants.{rolls-Literal, rolls-Variable}
use Rattle.sc_ast.specs.declared.expr.Variable.{Variable}
use Rattle.sc_ast.specs.declared.expr.Variable.TheVariants.{Principal, Action, Resource, Context}
use Rattle.sc_ast.specs.declared.literal.Literal.TheVariants as literal
use Rattle.sc_ast.specs.declared.place.Place.{Place}
use Rattle.sc_ast.specs.Literals.{uids_step, expr_uids}
use Rattle.sc_names.specs.declared.uid.Uid.{Uid}
use Rattle.sc_values.specs.declared.value.Value.{Value}
use Rattle.sc_values.specs.Records.{Fields}
use Rattle.sc_world.specs.declared.world.World.{World}
use Rattle.sc_eval.specs.declared.error.EvalError.{EvalError}
use Rattle.sc_eval.specs.Outcomes.{◌>>=◌, decide, of_bool}
use Rattle.sc_eval.specs.Entities.{access, has_path, is_of, is_in}
use Rattle.sc_eval.specs.Collections.{set_value, record_value}
use Rattle.sc_eval.specs.Operators.{binary, unary, is_like, variable_value}
use Rattle.sc_eval.specs.Eval.{Meaning, all_values, all_fields, eval_step, eval}
use Rattle.sc_eval.specs.ConstructLaws.{eval_Literal, eval_Variable}
use Rattle.sc_typing.specs.Policies.{acting_variable, acting_step, acting}
use Rattle.sc_soundness_laws.proofs.ListLaws.{split, joined}

-- ---- the uids of an expression, one level deep

pub uids_of : (x : Expr) (y : Expr-F Expr) → roll-Expr y ≡ x → expr_uids x ≡ uids_step (map-Expr Expr (List Uid) expr_uids y)
unfolding expr_uids
uids_of x y at = ap expr_uids (sym at) ∙ fold-roll-Expr (List Uid) uids_step y

eval_of : (x : Expr) (y : Expr-F Expr) (w : World) → roll-Expr y ≡ x → eval x w ≡ eval_step (map-Expr Expr Meaning eval y) w
unfolding eval
eval_of x y w at = ap (λ z. eval z w) (sym at) ∙ ap (λ f. f w) (fold-roll-Expr Meaning eval_step y)

-- ---- its value

module _ (w : World) where
  abbrev IsKept : Expr → Type 0
  IsKept x = eval (acting w.request.action x) w ≡ eval x w

  abbrev Known : Type 0
  Known = (x : Expr) × IsKept x

  abbrev forget : Expr-F Known → Expr-F Expr
  forget = map-Expr Known Expr (λ k. k.0)

  abbrev act : Expr → Expr
  act = acting w.request.action

  abbrev exprs : List Known → List Expr
  exprs ks = map (λ (k : Known). k.0) ks

  same_values : (ks : List Known) → all_values (map eval (map act (exprs ks))) w ≡ all_values (map eval (exprs ks)) w
  same_values [] = refl
  same_values (k ∷ ks) = let first : IsKept k.0 = k.1 in let rest = same_values ks in λ i. first i >>= λ y. rest i >>= λ ys. Ok (y ∷ ys)

  abbrev fields : List (List ℕ × Known) → List (List ℕ × Expr)
  fields ks = map (λ (f : List ℕ × Known). (f.0, f.1.0)) ks

  abbrev act_fields : List (List ℕ × Expr) → List (List ℕ × Expr)
  act_fields fs = map (λ (f : List ℕ × Expr). (f.0, act f.1)) fs

  abbrev meanings : List (List ℕ × Expr) → List (List ℕ × Meaning)
  meanings fs = map (λ (f : List ℕ × Expr). (f.0, eval f.1)) fs

  same_fields : (ks : List (List ℕ × Known)) → all_fields (meanings (act_fields (fields ks))) w ≡ all_fields (meanings (fields ks)) w
  same_fields [] = refl
  same_fields (k ∷ ks) = let first : IsKept k.1.0 = k.1.1 in let rest = same_fields ks in λ i. first i >>= λ y. rest i >>= λ gs. Ok ((k.0, y) ∷ gs)

  variable : (place : Place) (x : Variable) → eval (acting_variable w.request.action place x) w ≡ Ok (variable_value x w.request)
  variable place Principal = eval_Variable place Principal w
  variable place Action = eval_Literal place (literal.Entity w.request.action) w
  variable place Resource = eval_Variable place Resource w
  variable place Context = eval_Variable place Context w

  -- a layer whose parts keep their values keeps its value
  abbrev Keeps : Expr-F Known → Type 0
  Keeps y = eval_step (map-Expr Expr Meaning eval (map-Expr Expr Expr act (forget y))) w ≡ eval_step (map-Expr Expr Meaning eval (forget y)) w

  by_layer : (y : Expr-F Known) → Keeps y → eval (roll-Expr (map-Expr Expr Expr act (forget y))) w ≡ eval_step (map-Expr Expr Meaning eval (forget y)) w
  by_layer y h = eval_of (roll-Expr (map-Expr Expr Expr act (forget y))) (map-Expr Expr Expr act (forget y)) w refl ∙ h

  row : (y : Expr-F Known) → eval (acting_step w.request.action (map-Expr Expr Expr act (forget y))) w ≡ eval_step (map-Expr Expr Meaning eval (forget y)) w
  row (e.If place c a b) = by_layer (e.If place c a b) (λ i. decide (c.1 i) (λ p. if p then a.1 i else b.1 i))
  row (e.Or place a b) = by_layer (e.Or place a b) (λ i. decide (a.1 i) (λ p. if p then of_bool true else decide (b.1 i) of_bool))
  row (e.And place a b) = by_layer (e.And place a b) (λ i. decide (a.1 i) (λ p. if p then decide (b.1 i) of_bool else of_bool false))
  row (e.Binary place operator a b) = by_layer (e.Binary place operator a b) (λ i. a.1 i >>= λ x. b.1 i >>= λ y. binary operator w x y)
  row (e.Has place a names) = by_layer (e.Has place a names) (λ i. a.1 i >>= has_path names w >>= of_bool)
  row (e.Like place a pattern) = by_layer (e.Like place a pattern) (λ i. a.1 i >>= is_like pattern >>= of_bool)
  row (e.Is place a t) = by_layer (e.Is place a t) (λ i. a.1 i >>= is_of t.name >>= of_bool)
  row (e.IsIn place a t in_place b) = by_layer (e.IsIn place a t in_place b) (λ i. a.1 i >>= λ x. is_of t.name x >>= λ p. if p then (b.1 i >>= is_in w x >>= of_bool) else of_bool false)
  row (e.Unary place operator a) = by_layer (e.Unary place operator a) (λ i. a.1 i >>= unary operator)
  row (e.Access place a name) = by_layer (e.Access place a name) (λ i. a.1 i >>= access name w)
  row (e.Literal place l) = by_layer (e.Literal place l) refl
  row (e.Variable place x) = variable place x
  row (e.Set place ks) = by_layer (e.Set place ks) (ap (λ (r : Result (List Value) EvalError). r >>= λ ys. Ok (set_value ys)) (same_values ks))
  row (e.Record place ks) = by_layer (e.Record place ks) (ap (λ (r : Result Fields EvalError). r >>= λ gs. Ok (record_value gs)) (same_fields ks))

  inner : (y : Expr-F Known) → IsKept (roll-Expr (forget y))
  unfolding acting eval
  inner y =
      ap (λ z. eval z w) (fold-roll-Expr Expr (acting_step w.request.action) (forget y))
      ∙ row y
      ∙ sym (ap (λ f. f w) (fold-roll-Expr Meaning eval_step (forget y)))

  -- its value is the same
  pub acting-eval : (x : Expr) → IsKept x
  acting-eval = ind-Expr IsKept (λ x y at. subst (λ z. IsKept (roll-Expr z)) at (inner y))

-- ---- its uids

module _ (P : Uid → Type 0) (action : Uid) (here : P action) where
  abbrev IsAll : Expr → Type 0
  IsAll x = AllByRecursion P (expr_uids x)

  abbrev Holds : Expr → Type 0
  Holds x = IsAll x → IsAll (acting action x)

  abbrev Part : Type 0
  Part = (x : Expr) × Holds x

  abbrev plain : Expr-F Part → Expr-F Expr
  plain = map-Expr Part Expr (λ k. k.0)

  abbrev parts : List Part → List Expr
  parts ks = map (λ (k : Part). k.0) ks

  each_member : (ks : List Part) → AllByRecursion P (flat_map (λ (us : List Uid). us) (map expr_uids (parts ks))) → AllByRecursion P (flat_map (λ (us : List Uid). us) (map expr_uids (map (acting action) (parts ks))))
  each_member [] h = tt
  each_member (k ∷ ks) h =
      let rest : List Uid = flat_map (λ (us : List Uid). us) (map expr_uids (parts ks)) in
      let p = split P (expr_uids k.0) rest h in
      joined P (expr_uids (acting action k.0)) (flat_map (λ (us : List Uid). us) (map expr_uids (map (acting action) (parts ks)))) (k.1 p.0) (each_member ks p.1)

  abbrev field_parts : List (List ℕ × Part) → List (List ℕ × Expr)
  field_parts ks = map (λ (f : List ℕ × Part). (f.0, f.1.0)) ks

  abbrev acting_fields : List (List ℕ × Expr) → List (List ℕ × Expr)
  acting_fields fs = map (λ (f : List ℕ × Expr). (f.0, acting action f.1)) fs

  abbrev field_uids : List (List ℕ × Expr) → List Uid
  field_uids fs = flat_map (λ (f : List ℕ × List Uid). f.1) (map (λ (f : List ℕ × Expr). (f.0, expr_uids f.1)) fs)

  each_field : (ks : List (List ℕ × Part)) → AllByRecursion P (field_uids (field_parts ks)) → AllByRecursion P (field_uids (acting_fields (field_parts ks)))
  each_field [] h = tt
  each_field (k ∷ ks) h =
      let p = split P (expr_uids k.1.0) (field_uids (field_parts ks)) h in
      joined P (expr_uids (acting action k.1.0)) (field_uids (acting_fields (field_parts ks))) (k.1.1 p.0) (each_field ks p.1)

  abbrev layer_uids : Expr-F Expr → List Uid
  layer_uids y = uids_step (map-Expr Expr (List Uid) expr_uids y)

  by_uids : (x : Expr) (y : Expr-F Expr) → roll-Expr y ≡ x → AllByRecursion P (layer_uids y) → IsAll x
  by_uids x y at h = subst (AllByRecursion P) (sym (uids_of x y at)) h

  abbrev act_on : Expr-F Part → Expr-F Expr
  act_on y = map-Expr Expr Expr (acting action) (plain y)

  acted_variable : (place : Place) (x : Variable) → IsAll (acting_variable action place x)
  acted_variable place Principal = by_uids (expr.Variable place Principal) (e.Variable place Principal) (rolls-Variable place Principal) tt
  acted_variable place Action = by_uids (expr.Literal place (literal.Entity action)) (e.Literal place (literal.Entity action)) (rolls-Literal place (literal.Entity action)) (here, tt)
  acted_variable place Resource = by_uids (expr.Variable place Resource) (e.Variable place Resource) (rolls-Variable place Resource) tt
  acted_variable place Context = by_uids (expr.Variable place Context) (e.Variable place Context) (rolls-Variable place Context) tt

  by_parts : (y : Expr-F Part) → AllByRecursion P (layer_uids (act_on y)) → IsAll (roll-Expr (act_on y))
  by_parts y h = by_uids (roll-Expr (act_on y)) (act_on y) refl h

  two : (a b : Part) → AllByRecursion P (expr_uids a.0 ++ expr_uids b.0) → AllByRecursion P (expr_uids (acting action a.0) ++ expr_uids (acting action b.0))
  two a b h = let p = split P (expr_uids a.0) (expr_uids b.0) h in joined P (expr_uids (acting action a.0)) (expr_uids (acting action b.0)) (a.1 p.0) (b.1 p.1)

  step : (y : Expr-F Part) → AllByRecursion P (layer_uids (plain y)) → IsAll (acting_step action (act_on y))
  step (e.If place c a b) h =
      let p = split P (expr_uids c.0) (expr_uids a.0 ++ expr_uids b.0) h in
      by_parts (e.If place c a b) (joined P (expr_uids (acting action c.0)) (expr_uids (acting action a.0) ++ expr_uids (acting action b.0)) (c.1 p.0) (two a b p.1))
  step (e.Or place a b) h = by_parts (e.Or place a b) (two a b h)
  step (e.And place a b) h = by_parts (e.And place a b) (two a b h)
  step (e.Binary place operator a b) h = by_parts (e.Binary place operator a b) (two a b h)
  step (e.Has place a names) h = by_parts (e.Has place a names) (a.1 h)
  step (e.Like place a pattern) h = by_parts (e.Like place a pattern) (a.1 h)
  step (e.Is place a t) h = by_parts (e.Is place a t) (a.1 h)
  step (e.IsIn place a t in_place b) h = by_parts (e.IsIn place a t in_place b) (two a b h)
  step (e.Unary place operator a) h = by_parts (e.Unary place operator a) (a.1 h)
  step (e.Access place a name) h = by_parts (e.Access place a name) (a.1 h)
  step (e.Literal place l) h = by_parts (e.Literal place l) h
  step (e.Variable place x) h = acted_variable place x
  step (e.Set place ks) h = by_parts (e.Set place ks) (each_member ks h)
  step (e.Record place ks) h = by_parts (e.Record place ks) (each_field ks h)

  uids_inner : (y : Expr-F Part) → Holds (roll-Expr (plain y))
  unfolding acting
  uids_inner y h = subst IsAll (sym (fold-roll-Expr Expr (acting_step action) (plain y))) (step y (subst (AllByRecursion P) (uids_of (roll-Expr (plain y)) (plain y) refl) h))

  -- what holds of the action and of an expression's uids holds of those with the action
  pub acting-uids : (x : Expr) → Holds x
  acting-uids = ind-Expr Holds (λ x y at. subst (λ z. Holds (roll-Expr z)) at (uids_inner y))
