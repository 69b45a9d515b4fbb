-- How much an expression weighs: more than each expression in it, and a name after `has` as much as an access.
use Rattle.std.proofs.Common.{◌≡◌, ◌+◌, ℕ, suc, List, [], ◌∷◌, map, length, refl, sym, ap, subst, ◌∙◌}
use Rattle.sc_ast.specs.declared.expr.Expr.{Expr, Expr-F, roll-Expr, map-Expr, fold-Expr, ind-Expr, fold-roll-Expr}
use Rattle.sc_ast.specs.declared.expr.Expr.TheOpen as e
use Rattle.sc_ast.specs.declared.expr.Expr.TheVariants as expr
use Rattle.sc_ast.specs.declared.expr.Expr.TheVariants.{rolls-If, rolls-Or, rolls-And, rolls-Binary, rolls-Has, rolls-Like, rolls-Is, rolls-IsIn, rolls-Unary, rolls-Access, rolls-Literal, rolls-Variable, rolls-Set, rolls-Record}
use Rattle.sc_ast.specs.declared.expr.TypeName.{TypeName}
use Rattle.sc_ast.specs.declared.expr.Variable.{Variable}
use Rattle.sc_ast.specs.declared.literal.Literal.{Literal}
use Rattle.sc_ast.specs.declared.operator.BinaryOperator.{BinaryOperator}
use Rattle.sc_ast.specs.declared.operator.UnaryOperator.{UnaryOperator}
use Rattle.sc_ast.specs.declared.place.Place.{Place}
use Rattle.sc_pattern.specs.declared.part.Part.{Part}
use Rattle.sc_typed.specs.Capabilities.{nowhere, bare_name, bare_step, bare}

abbrev pub total : List ℕ → ℕ
total [] = 0
total (n ∷ ns) = n + total ns

abbrev pub field_total : List (List ℕ × ℕ) → ℕ
field_total [] = 0
field_total (f ∷ fs) = f.1 + field_total fs

abbrev weight_step : Expr-F ℕ → ℕ
weight_step (e.If p c a b) = suc (c + (a + b))
weight_step (e.Or p a b) = suc (a + b)
weight_step (e.And p a b) = suc (a + b)
weight_step (e.Binary p o a b) = suc (a + b)
weight_step (e.Has p a names) = suc (a + length names)
weight_step (e.Like p a pattern) = suc a
weight_step (e.Is p a t) = suc a
weight_step (e.IsIn p a t q b) = suc (a + b)
weight_step (e.Unary p o a) = suc a
weight_step (e.Access p a name) = suc a
weight_step (e.Literal p l) = 1
weight_step (e.Variable p v) = 1
weight_step (e.Set p members) = suc (total members)
weight_step (e.Record p fields) = suc (field_total fields)

unfoldable pub weight : Expr → ℕ
weight = fold-Expr ℕ weight_step

rolled : (x : Expr) (y : Expr-F Expr) → roll-Expr y ≡ x → weight x ≡ weight_step (map-Expr Expr ℕ weight y)
unfolding weight
rolled x y at = ap weight (sym at) ∙ fold-roll-Expr ℕ weight_step y

pub weight_If : (p : Place) (c a b : Expr) → weight (expr.If p c a b) ≡ suc (weight c + (weight a + weight b))
weight_If p c a b = rolled (expr.If p c a b) (e.If p c a b) (rolls-If p c a b)

pub weight_Or : (p : Place) (a b : Expr) → weight (expr.Or p a b) ≡ suc (weight a + weight b)
weight_Or p a b = rolled (expr.Or p a b) (e.Or p a b) (rolls-Or p a b)

pub weight_And : (p : Place) (a b : Expr) → weight (expr.And p a b) ≡ suc (weight a + weight b)
weight_And p a b = rolled (expr.And p a b) (e.And p a b) (rolls-And p a b)

pub weight_Binary : (p : Place) (o : BinaryOperator) (a b : Expr) → weight (expr.Binary p o a b) ≡ suc (weight a + weight b)
weight_Binary p o a b = rolled (expr.Binary p o a b) (e.Binary p o a b) (rolls-Binary p o a b)

pub weight_Has : (p : Place) (a : Expr) (names : List (List ℕ)) → weight (expr.Has p a names) ≡ suc (weight a + length names)
weight_Has p a names = rolled (expr.Has p a names) (e.Has p a names) (rolls-Has p a names)

pub weight_Like : (p : Place) (a : Expr) (pattern : List Part) → weight (expr.Like p a pattern) ≡ suc (weight a)
weight_Like p a pattern = rolled (expr.Like p a pattern) (e.Like p a pattern) (rolls-Like p a pattern)

pub weight_Is : (p : Place) (a : Expr) (t : TypeName) → weight (expr.Is p a t) ≡ suc (weight a)
weight_Is p a t = rolled (expr.Is p a t) (e.Is p a t) (rolls-Is p a t)

pub weight_IsIn : (p : Place) (a : Expr) (t : TypeName) (q : Place) (b : Expr) → weight (expr.IsIn p a t q b) ≡ suc (weight a + weight b)
weight_IsIn p a t q b = rolled (expr.IsIn p a t q b) (e.IsIn p a t q b) (rolls-IsIn p a t q b)

pub weight_Unary : (p : Place) (o : UnaryOperator) (a : Expr) → weight (expr.Unary p o a) ≡ suc (weight a)
weight_Unary p o a = rolled (expr.Unary p o a) (e.Unary p o a) (rolls-Unary p o a)

pub weight_Access : (p : Place) (a : Expr) (name : List ℕ) → weight (expr.Access p a name) ≡ suc (weight a)
weight_Access p a name = rolled (expr.Access p a name) (e.Access p a name) (rolls-Access p a name)

weight_Literal : (p : Place) (l : Literal) → weight (expr.Literal p l) ≡ 1
weight_Literal p l = rolled (expr.Literal p l) (e.Literal p l) (rolls-Literal p l)

weight_Variable : (p : Place) (v : Variable) → weight (expr.Variable p v) ≡ 1
weight_Variable p v = rolled (expr.Variable p v) (e.Variable p v) (rolls-Variable p v)

pub weight_Set : (p : Place) (members : List Expr) → weight (expr.Set p members) ≡ suc (total (map weight members))
weight_Set p members = rolled (expr.Set p members) (e.Set p members) (rolls-Set p members)

-- fields, each with its weight
abbrev pub weights : List (List ℕ × Expr) → List (List ℕ × ℕ)
weights fields = map (λ (f : List ℕ × Expr). (f.0, weight f.1)) fields

pub weight_Record : (p : Place) (fields : List (List ℕ × Expr)) → weight (expr.Record p fields) ≡ suc (field_total (weights fields))
weight_Record p fields = rolled (expr.Record p fields) (e.Record p fields) (rolls-Record p fields)

-- ---- without places

abbrev IsKept : Expr → Type 0
IsKept x = weight (bare x) ≡ weight x

abbrev Known : Type 0
Known = (x : Expr) × IsKept x

abbrev forget : Expr-F Known → Expr-F Expr
forget = map-Expr Known Expr (λ k. k.0)

abbrev exprs : List Known → List Expr
exprs ks = map (λ (k : Known). k.0) ks

same_total : (ks : List Known) → total (map weight (map bare (exprs ks))) ≡ total (map weight (exprs ks))
same_total [] = refl
same_total (k ∷ ks) = let first : IsKept k.0 = k.1 in let rest = same_total ks in λ i. first i + rest i

abbrev fields_of : List (List ℕ × Known) → List (List ℕ × Expr)
fields_of ks = map (λ (f : List ℕ × Known). (f.0, f.1.0)) ks

abbrev bare_fields : List (List ℕ × Expr) → List (List ℕ × Expr)
bare_fields fs = map (λ (f : List ℕ × Expr). (f.0, bare f.1)) fs

same_fields : (ks : List (List ℕ × Known)) → field_total (weights (bare_fields (fields_of ks))) ≡ field_total (weights (fields_of ks))
same_fields [] = refl
same_fields (k ∷ ks) = let first : IsKept k.1.0 = k.1.1 in let rest = same_fields ks in λ i. first i + rest i

row : (y : Expr-F Known) → weight (bare_step (map-Expr Expr Expr bare (forget y))) ≡ weight_step (map-Expr Expr ℕ weight (forget y))
row (e.If p c a b) = weight_If nowhere (bare c.0) (bare a.0) (bare b.0) ∙ λ i. suc (c.1 i + (a.1 i + b.1 i))
row (e.Or p a b) = weight_Or nowhere (bare a.0) (bare b.0) ∙ λ i. suc (a.1 i + b.1 i)
row (e.And p a b) = weight_And nowhere (bare a.0) (bare b.0) ∙ λ i. suc (a.1 i + b.1 i)
row (e.Binary p o a b) = weight_Binary nowhere o (bare a.0) (bare b.0) ∙ λ i. suc (a.1 i + b.1 i)
row (e.Has p a names) = weight_Has nowhere (bare a.0) names ∙ λ i. suc (a.1 i + length names)
row (e.Like p a pattern) = weight_Like nowhere (bare a.0) pattern ∙ λ i. suc (a.1 i)
row (e.Is p a t) = weight_Is nowhere (bare a.0) (bare_name t) ∙ λ i. suc (a.1 i)
row (e.IsIn p a t q b) = weight_IsIn nowhere (bare a.0) (bare_name t) nowhere (bare b.0) ∙ λ i. suc (a.1 i + b.1 i)
row (e.Unary p o a) = weight_Unary nowhere o (bare a.0) ∙ λ i. suc (a.1 i)
row (e.Access p a name) = weight_Access nowhere (bare a.0) name ∙ λ i. suc (a.1 i)
row (e.Literal p l) = weight_Literal nowhere l
row (e.Variable p v) = weight_Variable nowhere v
row (e.Set p ks) = weight_Set nowhere (map bare (exprs ks)) ∙ ap suc (same_total ks)
row (e.Record p ks) = weight_Record nowhere (bare_fields (fields_of ks)) ∙ ap suc (same_fields ks)

inner : (y : Expr-F Known) → IsKept (roll-Expr (forget y))
unfolding bare weight
inner y = ap weight (fold-roll-Expr Expr bare_step (forget y)) ∙ row y ∙ sym (fold-roll-Expr ℕ weight_step (forget y))

-- an expression without places weighs as much
pub bare_weight : (x : Expr) → IsKept x
bare_weight = ind-Expr IsKept (λ x y at. subst (λ z. IsKept (roll-Expr z)) at (inner y))
