-- Expressions with each place moved, construct by construct; and what of an expression has no places.
use Rattle.std.proofs.Common.{◌≡◌, ℕ, List, [], ◌∷◌, map, Option, unwrap_or, refl, sym, ap, subst, ◌∙◌}
use Rattle.sc_ast.specs.declared.expr.Expr.{Expr, Expr-F, out-Expr, roll-Expr, out-roll-Expr, map-Expr, ind-Expr, fold_out-Expr, fold-roll-Expr}
use Rattle.sc_ast.specs.declared.expr.Expr.TheOpen as e
use Rattle.sc_ast.specs.declared.expr.Expr.TheVariants as expr
use Rattle.sc_ast.specs.declared.expr.Expr.TheVariants.{rolls-If, rolls-Or, rolls-And, rolls-Binary, rolls-Has, rolls-Like, rolls-Is, rolls-IsIn, rolls-Unary, rolls-Access, rolls-Literal, rolls-Variable, rolls-Set, rolls-Record}
use Rattle.sc_ast.specs.declared.expr.TypeName.{TypeName}
use Rattle.sc_ast.specs.declared.expr.Variable.{Variable}
use Rattle.sc_ast.specs.declared.literal.Literal.{Literal}
use Rattle.sc_ast.specs.declared.operator.BinaryOperator.{BinaryOperator}
use Rattle.sc_ast.specs.declared.operator.UnaryOperator.{UnaryOperator}
use Rattle.sc_ast.specs.declared.place.Place.{Place}
use Rattle.sc_pattern.specs.declared.part.Part.{Part}
use Rattle.sc_schema.specs.declared.ty.Ty.{Ty}
use Rattle.sc_schema.specs.declared.ty.Ty.TheVariants as types
use Rattle.sc_typed.specs.declared.typed_expr.HasStep.{HasStep}
use Rattle.sc_typed.specs.declared.typed_expr.TypedExpr.{TypedExpr, TypedExpr-F, out-TypedExpr, roll-TypedExpr, out-roll-TypedExpr, map-TypedExpr, fold_out-TypedExpr, fold-roll-TypedExpr}
use Rattle.sc_typed.specs.declared.typed_expr.TypedExpr.TheOpen as t
use Rattle.sc_typed.specs.declared.typed_expr.TypedExpr.TheVariants as typed
use Rattle.sc_typed.specs.declared.typed_expr.TypedExpr.TheVariants.{rolls-If as if_is, rolls-Or as or_is, rolls-And as and_is, rolls-Binary as binary_is, rolls-Has as has_is, rolls-Like as like_is, rolls-Is as test_is, rolls-IsIn as among_is, rolls-Unary as unary_is, rolls-Access as access_is, rolls-Literal as literal_is, rolls-Variable as variable_is, rolls-Set as set_is, rolls-Record as record_is, rolls-Skipped as skipped_is}
use Rattle.sc_typed.specs.Capabilities.{bare_step, bare}
use Rattle.sc_typed.specs.Literals.{literal_in, literal_of}
use Rattle.sc_typed.specs.Outcomes.{ty}
use Rattle.sc_typed.specs.TypedExprs.{type_in, type_of, expr_place_in, expr_place, place_in, place_of}
use Rattle.sc_typing_laws.specs.Moved.{name_moved, layer_moved, moved, typed_layer_moved, typed_moved}

module _ (move : Place → Place) where
  -- ---- expressions

  pub out_moved : (x : Expr) → out-Expr (moved move x) ≡ layer_moved move (map-Expr Expr Expr (moved move) (out-Expr x))
  unfolding moved
  out_moved x =
      ap out-Expr (fold_out-Expr Expr (λ y. roll-Expr (layer_moved move y)) x)
      ∙ out-roll-Expr (layer_moved move (map-Expr Expr Expr (moved move) (out-Expr x)))

  rolled : (x z : Expr) (y : Expr-F Expr) → roll-Expr y ≡ x → roll-Expr (layer_moved move (map-Expr Expr Expr (moved move) y)) ≡ z → moved move x ≡ z
  unfolding moved
  rolled x z y at is = ap (moved move) (sym at) ∙ fold-roll-Expr Expr (λ y. roll-Expr (layer_moved move y)) y ∙ is

  pub moved_If : (p : Place) (c a b : Expr) → moved move (expr.If p c a b) ≡ expr.If (move p) (moved move c) (moved move a) (moved move b)
  moved_If p c a b = rolled _ _ (e.If p c a b) (rolls-If p c a b) (rolls-If (move p) (moved move c) (moved move a) (moved move b))

  pub moved_Or : (p : Place) (a b : Expr) → moved move (expr.Or p a b) ≡ expr.Or (move p) (moved move a) (moved move b)
  moved_Or p a b = rolled _ _ (e.Or p a b) (rolls-Or p a b) (rolls-Or (move p) (moved move a) (moved move b))

  pub moved_And : (p : Place) (a b : Expr) → moved move (expr.And p a b) ≡ expr.And (move p) (moved move a) (moved move b)
  moved_And p a b = rolled _ _ (e.And p a b) (rolls-And p a b) (rolls-And (move p) (moved move a) (moved move b))

  pub moved_Binary : (p : Place) (o : BinaryOperator) (a b : Expr) → moved move (expr.Binary p o a b) ≡ expr.Binary (move p) o (moved move a) (moved move b)
  moved_Binary p o a b = rolled _ _ (e.Binary p o a b) (rolls-Binary p o a b) (rolls-Binary (move p) o (moved move a) (moved move b))

  pub moved_Has : (p : Place) (a : Expr) (names : List (List ℕ)) → moved move (expr.Has p a names) ≡ expr.Has (move p) (moved move a) names
  moved_Has p a names = rolled _ _ (e.Has p a names) (rolls-Has p a names) (rolls-Has (move p) (moved move a) names)

  pub moved_Like : (p : Place) (a : Expr) (pattern : List Part) → moved move (expr.Like p a pattern) ≡ expr.Like (move p) (moved move a) pattern
  moved_Like p a pattern = rolled _ _ (e.Like p a pattern) (rolls-Like p a pattern) (rolls-Like (move p) (moved move a) pattern)

  pub moved_Is : (p : Place) (a : Expr) (n : TypeName) → moved move (expr.Is p a n) ≡ expr.Is (move p) (moved move a) (name_moved move n)
  moved_Is p a n = rolled _ _ (e.Is p a n) (rolls-Is p a n) (rolls-Is (move p) (moved move a) (name_moved move n))

  pub moved_IsIn : (p : Place) (a : Expr) (n : TypeName) (q : Place) (b : Expr) → moved move (expr.IsIn p a n q b) ≡ expr.IsIn (move p) (moved move a) (name_moved move n) (move q) (moved move b)
  moved_IsIn p a n q b = rolled _ _ (e.IsIn p a n q b) (rolls-IsIn p a n q b) (rolls-IsIn (move p) (moved move a) (name_moved move n) (move q) (moved move b))

  pub moved_Unary : (p : Place) (o : UnaryOperator) (a : Expr) → moved move (expr.Unary p o a) ≡ expr.Unary (move p) o (moved move a)
  moved_Unary p o a = rolled _ _ (e.Unary p o a) (rolls-Unary p o a) (rolls-Unary (move p) o (moved move a))

  pub moved_Access : (p : Place) (a : Expr) (name : List ℕ) → moved move (expr.Access p a name) ≡ expr.Access (move p) (moved move a) name
  moved_Access p a name = rolled _ _ (e.Access p a name) (rolls-Access p a name) (rolls-Access (move p) (moved move a) name)

  pub moved_Literal : (p : Place) (l : Literal) → moved move (expr.Literal p l) ≡ expr.Literal (move p) l
  moved_Literal p l = rolled _ _ (e.Literal p l) (rolls-Literal p l) (rolls-Literal (move p) l)

  pub moved_Variable : (p : Place) (v : Variable) → moved move (expr.Variable p v) ≡ expr.Variable (move p) v
  moved_Variable p v = rolled _ _ (e.Variable p v) (rolls-Variable p v) (rolls-Variable (move p) v)

  pub moved_Set : (p : Place) (members : List Expr) → moved move (expr.Set p members) ≡ expr.Set (move p) (map (moved move) members)
  moved_Set p members = rolled _ _ (e.Set p members) (rolls-Set p members) (rolls-Set (move p) (map (moved move) members))

  abbrev pub fields_moved : List (List ℕ × Expr) → List (List ℕ × Expr)
  fields_moved fields = map (λ (f : List ℕ × Expr). (f.0, moved move f.1)) fields

  pub moved_Record : (p : Place) (fields : List (List ℕ × Expr)) → moved move (expr.Record p fields) ≡ expr.Record (move p) (fields_moved fields)
  moved_Record p fields = rolled _ _ (e.Record p fields) (rolls-Record p fields) (rolls-Record (move p) (fields_moved fields))

  -- ---- its place, its literal

  place_at : (y : Expr-F Expr) → expr_place_in (layer_moved move (map-Expr Expr Expr (moved move) y)) ≡ move (expr_place_in y)
  place_at (e.If p c a b) = refl
  place_at (e.Or p a b) = refl
  place_at (e.And p a b) = refl
  place_at (e.Binary p o a b) = refl
  place_at (e.Has p a names) = refl
  place_at (e.Like p a pattern) = refl
  place_at (e.Is p a n) = refl
  place_at (e.IsIn p a n q b) = refl
  place_at (e.Unary p o a) = refl
  place_at (e.Access p a name) = refl
  place_at (e.Literal p l) = refl
  place_at (e.Variable p v) = refl
  place_at (e.Set p members) = refl
  place_at (e.Record p fields) = refl

  expr_place_moved : (x : Expr) → expr_place (moved move x) ≡ move (expr_place x)
  unfolding expr_place
  expr_place_moved x = ap expr_place_in (out_moved x) ∙ place_at (out-Expr x)

  literal_at : (y : Expr-F Expr) → literal_in (layer_moved move (map-Expr Expr Expr (moved move) y)) ≡ literal_in y
  literal_at (e.If p c a b) = refl
  literal_at (e.Or p a b) = refl
  literal_at (e.And p a b) = refl
  literal_at (e.Binary p o a b) = refl
  literal_at (e.Has p a names) = refl
  literal_at (e.Like p a pattern) = refl
  literal_at (e.Is p a n) = refl
  literal_at (e.IsIn p a n q b) = refl
  literal_at (e.Unary p o a) = refl
  literal_at (e.Access p a name) = refl
  literal_at (e.Literal p l) = refl
  literal_at (e.Variable p v) = refl
  literal_at (e.Set p members) = refl
  literal_at (e.Record p fields) = refl

  pub literal_moved : (x : Expr) → literal_of (moved move x) ≡ literal_of x
  literal_moved x = ap literal_in (out_moved x) ∙ literal_at (out-Expr x)

  -- ---- without places

  abbrev IsBare : Expr → Type 0
  IsBare x = bare (moved move x) ≡ bare x

  abbrev Known : Type 0
  Known = (x : Expr) × IsBare x

  abbrev forget : Expr-F Known → Expr-F Expr
  forget = map-Expr Known Expr (λ k. k.0)

  abbrev exprs : List Known → List Expr
  exprs ks = map (λ (k : Known). k.0) ks

  bare_members : (ks : List Known) → map bare (map (moved move) (exprs ks)) ≡ map bare (exprs ks)
  bare_members [] = refl
  bare_members (k ∷ ks) = let first : IsBare k.0 = k.1 in let rest = bare_members ks in λ i. first i ∷ rest i

  abbrev known_fields : List (List ℕ × Known) → List (List ℕ × Expr)
  known_fields ks = map (λ (f : List ℕ × Known). (f.0, f.1.0)) ks

  abbrev bare_fields : List (List ℕ × Expr) → List (List ℕ × Expr)
  bare_fields fs = map (λ (f : List ℕ × Expr). (f.0, bare f.1)) fs

  bare_fields_are : (ks : List (List ℕ × Known)) → bare_fields (fields_moved (known_fields ks)) ≡ bare_fields (known_fields ks)
  bare_fields_are [] = refl
  bare_fields_are (k ∷ ks) = let first : IsBare k.1.0 = k.1.1 in let rest = bare_fields_are ks in λ i. (k.0, first i) ∷ rest i

  bare_at : (y : Expr-F Known) → bare_step (map-Expr Expr Expr bare (layer_moved move (map-Expr Expr Expr (moved move) (forget y)))) ≡ bare_step (map-Expr Expr Expr bare (forget y))
  bare_at (e.If p c a b) = λ i. bare_step (e.If p (c.1 i) (a.1 i) (b.1 i))
  bare_at (e.Or p a b) = λ i. bare_step (e.Or p (a.1 i) (b.1 i))
  bare_at (e.And p a b) = λ i. bare_step (e.And p (a.1 i) (b.1 i))
  bare_at (e.Binary p o a b) = λ i. bare_step (e.Binary p o (a.1 i) (b.1 i))
  bare_at (e.Has p a names) = λ i. bare_step (e.Has p (a.1 i) names)
  bare_at (e.Like p a pattern) = λ i. bare_step (e.Like p (a.1 i) pattern)
  bare_at (e.Is p a n) = λ i. bare_step (e.Is p (a.1 i) n)
  bare_at (e.IsIn p a n q b) = λ i. bare_step (e.IsIn p (a.1 i) n q (b.1 i))
  bare_at (e.Unary p o a) = λ i. bare_step (e.Unary p o (a.1 i))
  bare_at (e.Access p a name) = λ i. bare_step (e.Access p (a.1 i) name)
  bare_at (e.Literal p l) = refl
  bare_at (e.Variable p v) = refl
  bare_at (e.Set p ks) = λ i. bare_step (e.Set p (bare_members ks i))
  bare_at (e.Record p ks) = λ i. bare_step (e.Record p (bare_fields_are ks i))

  bare_inner : (y : Expr-F Known) → IsBare (roll-Expr (forget y))
  unfolding bare moved
  bare_inner y =
      ap bare (fold-roll-Expr Expr (λ z. roll-Expr (layer_moved move z)) (forget y))
      ∙ fold-roll-Expr Expr bare_step (layer_moved move (map-Expr Expr Expr (moved move) (forget y)))
      ∙ bare_at y
      ∙ sym (fold-roll-Expr Expr bare_step (forget y))

  pub bare_moved : (x : Expr) → bare (moved move x) ≡ bare x
  bare_moved = ind-Expr IsBare (λ x y at. subst (λ z. IsBare (roll-Expr z)) at (bare_inner y))

  -- ---- typed expressions

  out_typed : (z : TypedExpr) → out-TypedExpr (typed_moved move z) ≡ typed_layer_moved move (map-TypedExpr TypedExpr TypedExpr (typed_moved move) (out-TypedExpr z))
  unfolding typed_moved
  out_typed z =
      ap out-TypedExpr (fold_out-TypedExpr TypedExpr (λ y. roll-TypedExpr (typed_layer_moved move y)) z)
      ∙ out-roll-TypedExpr (typed_layer_moved move (map-TypedExpr TypedExpr TypedExpr (typed_moved move) (out-TypedExpr z)))

  typed_rolled : (x z : TypedExpr) (y : TypedExpr-F TypedExpr) → roll-TypedExpr y ≡ x → roll-TypedExpr (typed_layer_moved move (map-TypedExpr TypedExpr TypedExpr (typed_moved move) y)) ≡ z → typed_moved move x ≡ z
  unfolding typed_moved
  typed_rolled x z y at is = ap (typed_moved move) (sym at) ∙ fold-roll-TypedExpr TypedExpr (λ y. roll-TypedExpr (typed_layer_moved move y)) y ∙ is

  abbrev mt : TypedExpr → TypedExpr
  mt = typed_moved move

  pub typed_If : (p : Place) (type : Ty) (c a b : TypedExpr) → mt (typed.If p type c a b) ≡ typed.If (move p) type (mt c) (mt a) (mt b)
  typed_If p type c a b = typed_rolled _ _ (t.If p type c a b) (if_is p type c a b) (if_is (move p) type (mt c) (mt a) (mt b))

  pub typed_Or : (p : Place) (type : Ty) (a b : TypedExpr) → mt (typed.Or p type a b) ≡ typed.Or (move p) type (mt a) (mt b)
  typed_Or p type a b = typed_rolled _ _ (t.Or p type a b) (or_is p type a b) (or_is (move p) type (mt a) (mt b))

  pub typed_And : (p : Place) (type : Ty) (a b : TypedExpr) → mt (typed.And p type a b) ≡ typed.And (move p) type (mt a) (mt b)
  typed_And p type a b = typed_rolled _ _ (t.And p type a b) (and_is p type a b) (and_is (move p) type (mt a) (mt b))

  pub typed_Binary : (p : Place) (type : Ty) (o : BinaryOperator) (a b : TypedExpr) → mt (typed.Binary p type o a b) ≡ typed.Binary (move p) type o (mt a) (mt b)
  typed_Binary p type o a b = typed_rolled _ _ (t.Binary p type o a b) (binary_is p type o a b) (binary_is (move p) type o (mt a) (mt b))

  pub typed_Has : (p : Place) (type : Ty) (a : TypedExpr) (steps : List HasStep) (skipped : List (List ℕ)) → mt (typed.Has p type a steps skipped) ≡ typed.Has (move p) type (mt a) steps skipped
  typed_Has p type a steps skipped = typed_rolled _ _ (t.Has p type a steps skipped) (has_is p type a steps skipped) (has_is (move p) type (mt a) steps skipped)

  pub typed_Like : (p : Place) (type : Ty) (a : TypedExpr) (pattern : List Part) → mt (typed.Like p type a pattern) ≡ typed.Like (move p) type (mt a) pattern
  typed_Like p type a pattern = typed_rolled _ _ (t.Like p type a pattern) (like_is p type a pattern) (like_is (move p) type (mt a) pattern)

  pub typed_Is : (p : Place) (type : Ty) (a : TypedExpr) (n : TypeName) → mt (typed.Is p type a n) ≡ typed.Is (move p) type (mt a) (name_moved move n)
  typed_Is p type a n = typed_rolled _ _ (t.Is p type a n) (test_is p type a n) (test_is (move p) type (mt a) (name_moved move n))

  pub typed_IsIn : (p : Place) (type : Ty) (a : TypedExpr) (n : TypeName) (q : Place) (b : TypedExpr) → mt (typed.IsIn p type a n q b) ≡ typed.IsIn (move p) type (mt a) (name_moved move n) (move q) (mt b)
  typed_IsIn p type a n q b = typed_rolled _ _ (t.IsIn p type a n q b) (among_is p type a n q b) (among_is (move p) type (mt a) (name_moved move n) (move q) (mt b))

  pub typed_Unary : (p : Place) (type : Ty) (o : UnaryOperator) (a : TypedExpr) → mt (typed.Unary p type o a) ≡ typed.Unary (move p) type o (mt a)
  typed_Unary p type o a = typed_rolled _ _ (t.Unary p type o a) (unary_is p type o a) (unary_is (move p) type o (mt a))

  pub typed_Access : (p : Place) (type : Ty) (a : TypedExpr) (name : List ℕ) → mt (typed.Access p type a name) ≡ typed.Access (move p) type (mt a) name
  typed_Access p type a name = typed_rolled _ _ (t.Access p type a name) (access_is p type a name) (access_is (move p) type (mt a) name)

  pub typed_Literal : (p : Place) (type : Ty) (l : Literal) → mt (typed.Literal p type l) ≡ typed.Literal (move p) type l
  typed_Literal p type l = typed_rolled _ _ (t.Literal p type l) (literal_is p type l) (literal_is (move p) type l)

  pub typed_Variable : (p : Place) (type : Ty) (v : Variable) → mt (typed.Variable p type v) ≡ typed.Variable (move p) type v
  typed_Variable p type v = typed_rolled _ _ (t.Variable p type v) (variable_is p type v) (variable_is (move p) type v)

  pub typed_Set : (p : Place) (type : Ty) (members : List TypedExpr) → mt (typed.Set p type members) ≡ typed.Set (move p) type (map mt members)
  typed_Set p type members = typed_rolled _ _ (t.Set p type members) (set_is p type members) (set_is (move p) type (map mt members))

  abbrev pub typed_fields : List (List ℕ × TypedExpr) → List (List ℕ × TypedExpr)
  typed_fields fields = map (λ (f : List ℕ × TypedExpr). (f.0, mt f.1)) fields

  pub typed_Record : (p : Place) (type : Ty) (fields : List (List ℕ × TypedExpr)) → mt (typed.Record p type fields) ≡ typed.Record (move p) type (typed_fields fields)
  typed_Record p type fields = typed_rolled _ _ (t.Record p type fields) (record_is p type fields) (record_is (move p) type (typed_fields fields))

  pub typed_Skipped : (x : Expr) → mt (typed.Skipped x) ≡ typed.Skipped (moved move x)
  typed_Skipped x = typed_rolled _ _ (t.Skipped x) (skipped_is x) (skipped_is (moved move x))

  -- ---- its type and its place

  abbrev layers : TypedExpr-F TypedExpr → TypedExpr-F TypedExpr
  layers y = typed_layer_moved move (map-TypedExpr TypedExpr TypedExpr mt y)

  type_at : (y : TypedExpr-F TypedExpr) → type_in (layers y) ≡ type_in y
  type_at (t.If p type c a b) = refl
  type_at (t.Or p type a b) = refl
  type_at (t.And p type a b) = refl
  type_at (t.Binary p type o a b) = refl
  type_at (t.Has p type a steps skipped) = refl
  type_at (t.Like p type a pattern) = refl
  type_at (t.Is p type a n) = refl
  type_at (t.IsIn p type a n q b) = refl
  type_at (t.Unary p type o a) = refl
  type_at (t.Access p type a name) = refl
  type_at (t.Literal p type l) = refl
  type_at (t.Variable p type v) = refl
  type_at (t.Set p type members) = refl
  type_at (t.Record p type fields) = refl
  type_at (t.Skipped x) = refl

  type_of_moved : (z : TypedExpr) → type_of (mt z) ≡ type_of z
  unfolding type_of
  type_of_moved z = ap type_in (out_typed z) ∙ type_at (out-TypedExpr z)

  pub ty_moved : (z : TypedExpr) → ty (mt z) ≡ ty z
  ty_moved z = ap (λ (o : Option Ty). unwrap_or o types.Bool) (type_of_moved z)

  typed_place_at : (y : TypedExpr-F TypedExpr) → place_in (layers y) ≡ move (place_in y)
  typed_place_at (t.If p type c a b) = refl
  typed_place_at (t.Or p type a b) = refl
  typed_place_at (t.And p type a b) = refl
  typed_place_at (t.Binary p type o a b) = refl
  typed_place_at (t.Has p type a steps skipped) = refl
  typed_place_at (t.Like p type a pattern) = refl
  typed_place_at (t.Is p type a n) = refl
  typed_place_at (t.IsIn p type a n q b) = refl
  typed_place_at (t.Unary p type o a) = refl
  typed_place_at (t.Access p type a name) = refl
  typed_place_at (t.Literal p type l) = refl
  typed_place_at (t.Variable p type v) = refl
  typed_place_at (t.Set p type members) = refl
  typed_place_at (t.Record p type fields) = refl
  typed_place_at (t.Skipped x) = expr_place_moved x

  pub place_moved : (z : TypedExpr) → place_of (mt z) ≡ move (place_of z)
  unfolding place_of
  place_moved z = ap place_in (out_typed z) ∙ typed_place_at (out-TypedExpr z)
