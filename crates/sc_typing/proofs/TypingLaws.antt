-- What an expression gives, construct by construct.
use Rattle.std.proofs.Common.{◌≡◌, ℕ, List, [], ◌∷◌, map, refl, ap, sym, subst, ◌∙◌}
use Rattle.sc_ast.specs.declared.expr.Expr.{Expr, Expr-F, roll-Expr, map-Expr, ind-Expr, fold-roll-Expr}
use Rattle.sc_ast.specs.declared.expr.Expr.TheVariants as expr
use Rattle.sc_ast.specs.declared.expr.Expr.TheVariants.{rolls-If, rolls-Or, rolls-And, rolls-Binary, rolls-Has, rolls-Like, rolls-Is, rolls-IsIn, rolls-Unary, rolls-Access, rolls-Literal, rolls-Variable, rolls-Set, rolls-Record}
use Rattle.sc_ast.specs.declared.expr.Expr.TheOpen as e
use Rattle.sc_ast.specs.declared.expr.TypeName.{TypeName}
use Rattle.sc_ast.specs.declared.expr.Variable.{Variable}
use Rattle.sc_ast.specs.declared.literal.Literal.{Literal}
use Rattle.sc_ast.specs.declared.operator.BinaryOperator.{BinaryOperator}
use Rattle.sc_ast.specs.declared.operator.UnaryOperator.{UnaryOperator}
use Rattle.sc_ast.specs.declared.place.Place.{Place}
use Rattle.sc_pattern.specs.declared.part.Part.{Part}
use Rattle.sc_schema.specs.declared.declarations.Env.{Env}
use Rattle.sc_schema.specs.Declarations.{Declarations}
use Rattle.sc_typed.specs.declared.typed_expr.TypedExpr.TheVariants as typed
use Rattle.sc_typed.specs.Capabilities.{Capabilities}
use Rattle.sc_typed.specs.Outcomes.{gives}
use Rattle.sc_typing_rules.specs.Rules.{Operand, choice, either, both, operated, having, matching, tested, tested_in, applied, accessed, literal_typed, variable_type, set_literal, record_literal}
use Rattle.sc_typing.specs.Typing.{whole, operand_step, operand, typing, part}

module _ (s : Declarations) (env : Env) where
  -- ---- an operand is the expression itself

  abbrev Known : Type 0
  Known = (x : Expr) × ((operand s env x).expr ≡ x)

  abbrev forget : Expr-F Known → Expr-F Expr
  forget = map-Expr Known Expr (λ k. k.0)

  -- the expression that some operands make, of which each is itself
  abbrev remade : Expr-F Known → Expr
  remade y = whole (map-Expr Expr Operand (operand s env) (forget y))

  same_members : (ks : List Known) → map (λ (o : Operand). o.expr) (map (operand s env) (map (λ (k : Known). k.0) ks)) ≡ map (λ (k : Known). k.0) ks
  same_members [] = refl
  same_members (k ∷ ks) = let first : (operand s env k.0).expr ≡ k.0 = k.1 in let rest = same_members ks in λ i. first i ∷ rest i

  abbrev exprs_in : List (List ℕ × Operand) → List (List ℕ × Expr)
  exprs_in fs = map (λ (p : List ℕ × Operand). (p.0, p.1.expr)) fs

  abbrev operands_in : List (List ℕ × Expr) → List (List ℕ × Operand)
  operands_in fs = map (λ (p : List ℕ × Expr). (p.0, operand s env p.1)) fs

  abbrev forget_in : List (List ℕ × Known) → List (List ℕ × Expr)
  forget_in fs = map (λ (p : List ℕ × Known). (p.0, p.1.0)) fs

  same_fields : (fs : List (List ℕ × Known)) → exprs_in (operands_in (forget_in fs)) ≡ forget_in fs
  same_fields [] = refl
  same_fields (f ∷ fs) = let first : (operand s env f.1.0).expr ≡ f.1.0 = f.1.1 in let rest = same_fields fs in λ i. (f.0, first i) ∷ rest i

  itself : (y : Expr-F Known) → remade y ≡ roll-Expr (forget y)
  itself (e.If place c a b) = λ i. roll-Expr (e.If place (c.1 i) (a.1 i) (b.1 i))
  itself (e.Or place a b) = λ i. roll-Expr (e.Or place (a.1 i) (b.1 i))
  itself (e.And place a b) = λ i. roll-Expr (e.And place (a.1 i) (b.1 i))
  itself (e.Binary place operator a b) = λ i. roll-Expr (e.Binary place operator (a.1 i) (b.1 i))
  itself (e.Has place a names) = λ i. roll-Expr (e.Has place (a.1 i) names)
  itself (e.Like place a pattern) = λ i. roll-Expr (e.Like place (a.1 i) pattern)
  itself (e.Is place a t) = λ i. roll-Expr (e.Is place (a.1 i) t)
  itself (e.IsIn place a t in_place b) = λ i. roll-Expr (e.IsIn place (a.1 i) t in_place (b.1 i))
  itself (e.Unary place operator a) = λ i. roll-Expr (e.Unary place operator (a.1 i))
  itself (e.Access place a name) = λ i. roll-Expr (e.Access place (a.1 i) name)
  itself (e.Literal place l) = refl
  itself (e.Variable place x) = refl
  itself (e.Set place members) = λ i. roll-Expr (e.Set place (same_members members i))
  itself (e.Record place fields) = λ i. roll-Expr (e.Record place (same_fields fields i))

  rolled : (y : Expr-F Known) → (operand s env (roll-Expr (forget y))).expr ≡ remade y
  unfolding operand
  rolled y = ap (λ (o : Operand). o.expr) (fold-roll-Expr Operand (operand_step s env) (forget y))

  pub expr_is : (x : Expr) → (operand s env x).expr ≡ x
  expr_is = ind-Expr (λ x. (operand s env x).expr ≡ x) (λ x y at. subst (λ z. (operand s env (roll-Expr z)).expr ≡ roll-Expr z) at (rolled y ∙ itself y))

  pub operand_is : (x : Expr) → operand s env x ≡ part s env x
  operand_is x = λ i. record { expr = expr_is x i; typed = typing s env x }

  -- ---- each construct

  rolls : (x : Expr) (y : Expr-F Expr) → roll-Expr y ≡ x → (known : Capabilities) → typing s env x known ≡ (operand_step s env (map-Expr Expr Operand (operand s env) y)).typed known
  unfolding operand
  rolls x y at known = ap (λ z. typing s env z known) (sym at) ∙ ap (λ (o : Operand). o.typed known) (fold-roll-Expr Operand (operand_step s env) y)

  pub typing_If : (place : Place) (c a b : Expr) (known : Capabilities) → typing s env (expr.If place c a b) known ≡ choice place (part s env c) (part s env a) (part s env b) known
  typing_If place c a b known =
      rolls (expr.If place c a b) (e.If place c a b) (rolls-If place c a b) known ∙ λ i. choice place (operand_is c i) (operand_is a i) (operand_is b i) known

  pub typing_Or : (place : Place) (a b : Expr) (known : Capabilities) → typing s env (expr.Or place a b) known ≡ either place (part s env a) (part s env b) known
  typing_Or place a b known = rolls (expr.Or place a b) (e.Or place a b) (rolls-Or place a b) known ∙ λ i. either place (operand_is a i) (operand_is b i) known

  pub typing_And : (place : Place) (a b : Expr) (known : Capabilities) → typing s env (expr.And place a b) known ≡ both place (part s env a) (part s env b) known
  typing_And place a b known = rolls (expr.And place a b) (e.And place a b) (rolls-And place a b) known ∙ λ i. both place (operand_is a i) (operand_is b i) known

  pub typing_Binary : (place : Place) (operator : BinaryOperator) (a b : Expr) (known : Capabilities) → typing s env (expr.Binary place operator a b) known ≡ operated s place operator (part s env a) (part s env b) known
  typing_Binary place operator a b known =
      rolls (expr.Binary place operator a b) (e.Binary place operator a b) (rolls-Binary place operator a b) known ∙ λ i. operated s place operator (operand_is a i) (operand_is b i) known

  pub typing_Has : (place : Place) (a : Expr) (names : List (List ℕ)) (known : Capabilities) → typing s env (expr.Has place a names) known ≡ having s place names (part s env a) known
  typing_Has place a names known = rolls (expr.Has place a names) (e.Has place a names) (rolls-Has place a names) known ∙ λ i. having s place names (operand_is a i) known

  pub typing_Like : (place : Place) (a : Expr) (pattern : List Part) (known : Capabilities) → typing s env (expr.Like place a pattern) known ≡ matching place pattern (part s env a) known
  typing_Like place a pattern known = rolls (expr.Like place a pattern) (e.Like place a pattern) (rolls-Like place a pattern) known ∙ λ i. matching place pattern (operand_is a i) known

  pub typing_Is : (place : Place) (a : Expr) (t : TypeName) (known : Capabilities) → typing s env (expr.Is place a t) known ≡ tested place t (part s env a) known
  typing_Is place a t known = rolls (expr.Is place a t) (e.Is place a t) (rolls-Is place a t) known ∙ λ i. tested place t (operand_is a i) known

  pub typing_IsIn : (place : Place) (a : Expr) (t : TypeName) (in_place : Place) (b : Expr) (known : Capabilities) → typing s env (expr.IsIn place a t in_place b) known ≡ tested_in s place t in_place (part s env a) (part s env b) known
  typing_IsIn place a t in_place b known =
      rolls (expr.IsIn place a t in_place b) (e.IsIn place a t in_place b) (rolls-IsIn place a t in_place b) known ∙ λ i. tested_in s place t in_place (operand_is a i) (operand_is b i) known

  pub typing_Unary : (place : Place) (operator : UnaryOperator) (a : Expr) (known : Capabilities) → typing s env (expr.Unary place operator a) known ≡ applied place operator (part s env a) known
  typing_Unary place operator a known = rolls (expr.Unary place operator a) (e.Unary place operator a) (rolls-Unary place operator a) known ∙ λ i. applied place operator (operand_is a i) known

  pub typing_Access : (place : Place) (a : Expr) (name : List ℕ) (known : Capabilities) → typing s env (expr.Access place a name) known ≡ accessed s place name (part s env a) known
  typing_Access place a name known = rolls (expr.Access place a name) (e.Access place a name) (rolls-Access place a name) known ∙ λ i. accessed s place name (operand_is a i) known

  pub typing_Literal : (place : Place) (l : Literal) (known : Capabilities) → typing s env (expr.Literal place l) known ≡ gives (literal_typed s place l) []
  typing_Literal place l known = rolls (expr.Literal place l) (e.Literal place l) (rolls-Literal place l) known

  pub typing_Variable : (place : Place) (x : Variable) (known : Capabilities) → typing s env (expr.Variable place x) known ≡ gives (typed.Variable place (variable_type s env x) x) []
  typing_Variable place x known = rolls (expr.Variable place x) (e.Variable place x) (rolls-Variable place x) known

  pub typing_Set : (place : Place) (members : List Expr) (known : Capabilities) → typing s env (expr.Set place members) known ≡ set_literal place (map (part s env) members) known
  typing_Set place members known =
      rolls (expr.Set place members) (e.Set place members) (rolls-Set place members) known ∙ λ i. set_literal place (map (λ x. operand_is x i) members) known

  pub typing_Record : (place : Place) (fields : List (List ℕ × Expr)) (known : Capabilities)
      → typing s env (expr.Record place fields) known ≡ record_literal place (map (λ (f : List ℕ × Expr). (f.0, part s env f.1)) fields) known
  typing_Record place fields known =
      rolls (expr.Record place fields) (e.Record place fields) (rolls-Record place fields) known ∙ λ i. record_literal place (map (λ (f : List ℕ × Expr). (f.0, operand_is f.1 i)) fields) known
