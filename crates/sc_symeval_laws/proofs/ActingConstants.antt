-- What holds of the action and of the constants of an expression holds of those with the action in place of `action`.
use Rattle.std.proofs.Common.{◌≡◌, ℕ, List, [], ◌∷◌, ◌++◌, map, flat_map, refl, ap, sym, subst, ◌∙◌}
use Rattle.std.specs.List.{AllByRecursion}
use Rattle.sc_lists.proofs.ListLaws.{all_append}
use Rattle.sc_ast.specs.declared.expr.Expr.{Expr, Expr-F, roll-Expr, map-Expr, ind-Expr, fold-roll-Expr}
use Rattle.sc_ast.specs.declared.expr.Expr.TheOpen as e
use Rattle.sc_ast.specs.declared.expr.Expr.TheVariants as expr
use Rattle.sc_ast.specs.declared.expr.Expr.TheVariants.{rolls-Literal, rolls-Variable}
use Rattle.sc_ast.specs.declared.expr.Variable.{Variable}
use Rattle.sc_ast.specs.declared.expr.Variable.TheVariants.{Principal, Action, Resource, Context}
use Rattle.sc_ast.specs.declared.literal.Literal.TheVariants as literal
use Rattle.sc_ast.specs.declared.place.Place.{Place}
use Rattle.sc_eval.specs.Written.{constants_step, constants}
use Rattle.sc_names.specs.declared.uid.Uid.{Uid}
use Rattle.sc_soundness_laws.proofs.ListLaws.{split}
use Rattle.sc_typing.specs.Policies.{acting_variable, acting_step, acting}
use Rattle.sc_values.specs.declared.value.Value.{Value}
use Rattle.sc_values.specs.declared.value.Value.TheVariants as value

pub constants_of : (x : Expr) (y : Expr-F Expr) → roll-Expr y ≡ x → constants x ≡ constants_step (map-Expr Expr (List Value) constants y)
unfolding constants
constants_of x y at = ap constants (sym at) ∙ fold-roll-Expr (List Value) constants_step y

module _ (P : Value → Type 0) (action : Uid) (here : P (value.Entity action)) where
  abbrev IsAll : Expr → Type 0
  IsAll x = AllByRecursion P (constants x)

  abbrev Holds : Expr → Type 0
  Holds x = IsAll x → IsAll (acting action x)

  abbrev Part : Type 0
  Part = (x : Expr) × Holds x

  abbrev plain : Expr-F Part → Expr-F Expr
  plain = map-Expr Part Expr (λ k. k.0)

  abbrev parts : List Part → List Expr
  parts ks = map (λ (k : Part). k.0) ks

  abbrev of_members : List Expr → List Value
  of_members xs = flat_map (λ (m : List Value). m) (map constants xs)

  each_member : (ks : List Part) → AllByRecursion P (of_members (parts ks)) → AllByRecursion P (of_members (map (acting action) (parts ks)))
  each_member [] h = tt
  each_member (k ∷ ks) h =
      let p = split P (constants k.0) (of_members (parts ks)) h in
      all_append P (constants (acting action k.0)) (of_members (map (acting action) (parts ks))) (k.1 p.0) (each_member ks p.1)

  abbrev field_parts : List (List ℕ × Part) → List (List ℕ × Expr)
  field_parts ks = map (λ (f : List ℕ × Part). (f.0, f.1.0)) ks

  abbrev acting_fields : List (List ℕ × Expr) → List (List ℕ × Expr)
  acting_fields fs = map (λ (f : List ℕ × Expr). (f.0, acting action f.1)) fs

  abbrev of_fields : List (List ℕ × Expr) → List Value
  of_fields fs = flat_map (λ (f : List ℕ × List Value). value.String f.0 ∷ f.1) (map (λ (f : List ℕ × Expr). (f.0, constants f.1)) fs)

  each_field : (ks : List (List ℕ × Part)) → AllByRecursion P (of_fields (field_parts ks)) → AllByRecursion P (of_fields (acting_fields (field_parts ks)))
  each_field [] h = tt
  each_field (k ∷ ks) h =
      let p = split P (constants k.1.0) (of_fields (field_parts ks)) h.1 in
      (h.0, all_append P (constants (acting action k.1.0)) (of_fields (acting_fields (field_parts ks))) (k.1.1 p.0) (each_field ks p.1))

  abbrev layer_constants : Expr-F Expr → List Value
  layer_constants y = constants_step (map-Expr Expr (List Value) constants y)

  by_constants : (x : Expr) (y : Expr-F Expr) → roll-Expr y ≡ x → AllByRecursion P (layer_constants y) → IsAll x
  by_constants x y at h = subst (AllByRecursion P) (sym (constants_of x y at)) h

  abbrev act_on : Expr-F Part → Expr-F Expr
  act_on y = map-Expr Expr Expr (acting action) (plain y)

  acted_variable : (place : Place) (x : Variable) → IsAll (acting_variable action place x)
  acted_variable place Principal = by_constants (expr.Variable place Principal) (e.Variable place Principal) (rolls-Variable place Principal) tt
  acted_variable place Action = by_constants (expr.Literal place (literal.Entity action)) (e.Literal place (literal.Entity action)) (rolls-Literal place (literal.Entity action)) (here, tt)
  acted_variable place Resource = by_constants (expr.Variable place Resource) (e.Variable place Resource) (rolls-Variable place Resource) tt
  acted_variable place Context = by_constants (expr.Variable place Context) (e.Variable place Context) (rolls-Variable place Context) tt

  by_parts : (y : Expr-F Part) → AllByRecursion P (layer_constants (act_on y)) → IsAll (roll-Expr (act_on y))
  by_parts y h = by_constants (roll-Expr (act_on y)) (act_on y) refl h

  two : (a b : Part) → AllByRecursion P (constants a.0 ++ constants b.0) → AllByRecursion P (constants (acting action a.0) ++ constants (acting action b.0))
  two a b h = let p = split P (constants a.0) (constants b.0) h in all_append P (constants (acting action a.0)) (constants (acting action b.0)) (a.1 p.0) (b.1 p.1)

  step : (y : Expr-F Part) → AllByRecursion P (layer_constants (plain y)) → IsAll (acting_step action (act_on y))
  step (e.If place c a b) h =
      let p = split P (constants c.0) (constants a.0 ++ constants b.0) h in
      by_parts (e.If place c a b) (all_append P (constants (acting action c.0)) (constants (acting action a.0) ++ constants (acting action b.0)) (c.1 p.0) (two a b p.1))
  step (e.Or place a b) h = by_parts (e.Or place a b) (two a b h)
  step (e.And place a b) h = by_parts (e.And place a b) (two a b h)
  step (e.Binary place operator a b) h = by_parts (e.Binary place operator a b) (two a b h)
  step (e.Has place a names) h = by_parts (e.Has place a names) (a.1 h)
  step (e.Like place a pattern) h = by_parts (e.Like place a pattern) (a.1 h)
  step (e.Is place a t) h = by_parts (e.Is place a t) (a.1 h)
  step (e.IsIn place a t in_place b) h = by_parts (e.IsIn place a t in_place b) (two a b h)
  step (e.Unary place operator a) h = by_parts (e.Unary place operator a) (a.1 h)
  step (e.Access place a name) h = by_parts (e.Access place a name) (a.1 h)
  step (e.Literal place l) h = by_parts (e.Literal place l) h
  step (e.Variable place x) h = acted_variable place x
  step (e.Set place ks) h = by_parts (e.Set place ks) (each_member ks h)
  step (e.Record place ks) h = by_parts (e.Record place ks) (each_field ks h)

  constants_inner : (y : Expr-F Part) → Holds (roll-Expr (plain y))
  unfolding acting
  constants_inner y h = subst IsAll (sym (fold-roll-Expr Expr (acting_step action) (plain y))) (step y (subst (AllByRecursion P) (constants_of (roll-Expr (plain y)) (plain y) refl) h))

  pub acting-constants : (x : Expr) → Holds x
  acting-constants = ind-Expr Holds (λ x y at. subst (λ z. Holds (roll-Expr z)) at (constants_inner y))
