-- What an expression is compiled to, construct by construct.
use Rattle.std.proofs.Common.{◌≡◌, ℕ, List, [], ◌∷◌, map, false, refl, ap, sym, subst, ◌∙◌}
use Rattle.sc_ast.specs.declared.expr.Expr.{Expr}
use Rattle.sc_ast.specs.declared.expr.TypeName.{TypeName}
use Rattle.sc_ast.specs.declared.expr.Variable.{Variable}
use Rattle.sc_ast.specs.declared.literal.Literal.{Literal}
use Rattle.sc_ast.specs.declared.operator.BinaryOperator.{BinaryOperator}
use Rattle.sc_ast.specs.declared.operator.UnaryOperator.{UnaryOperator}
use Rattle.sc_ast.specs.declared.place.Place.{Place}
use Rattle.sc_pattern.specs.declared.part.Part.{Part as PatternPart}
use Rattle.sc_schema.specs.declared.ty.Ty.{Ty}
use Rattle.sc_typed.specs.declared.typed_expr.HasStep.{HasStep}
use Rattle.sc_typed.specs.declared.typed_expr.TypedExpr.{TypedExpr, TypedExpr-F, out-TypedExpr, roll-TypedExpr, map-TypedExpr, ind-TypedExpr, fold-roll-TypedExpr, out-roll-TypedExpr}
use Rattle.sc_typed.specs.declared.typed_expr.TypedExpr.TheVariants as typed
use Rattle.sc_typed.specs.declared.typed_expr.TypedExpr.TheVariants.{rolls-If, rolls-Or, rolls-And, rolls-Binary, rolls-Has, rolls-Like, rolls-Is, rolls-IsIn, rolls-Unary, rolls-Access, rolls-Literal, rolls-Variable, rolls-Set, rolls-Record, rolls-Skipped}
use Rattle.sc_typed.specs.declared.typed_expr.TypedExpr.TheOpen as t
use Rattle.sc_schema.specs.declared.declarations.Env.{Env}
use Rattle.sc_schema.specs.Declarations.{Declarations}
use Rattle.sc_typed.specs.Outcomes.{ty}
use Rattle.sc_typed.specs.Types.{is_true}
use Rattle.sc_constructs.specs.Code.{CodeField, always, constant, like_code, is_code, set_code, record_code}
use Rattle.sc_constructs.specs.Objects.{access_code, path_code, written_term, variable_term}
use Rattle.sc_symeval.specs.Codes.{Part, of_choice, of_either, of_both, binary_code, unary_code, is_in_code, code_step, whole, part_step, part, code_of}

-- an expression, one level deep
pub opens : (x z : TypedExpr) (y : TypedExpr-F TypedExpr) → roll-TypedExpr y ≡ z → x ≡ z → out-TypedExpr x ≡ y
opens x z y rolls is = ap out-TypedExpr (is ∙ sym rolls) ∙ out-roll-TypedExpr y

module _ (s : Declarations) (env : Env) where
  -- an expression with what it is compiled to
  abbrev pub seen_in : TypedExpr → Part
  seen_in x = record { expr = x; code = code_of s env x }

  -- ---- a part is the expression itself

  abbrev Known : Type 0
  Known = (x : TypedExpr) × ((part s env x).expr ≡ x)

  abbrev forget : TypedExpr-F Known → TypedExpr-F TypedExpr
  forget = map-TypedExpr Known TypedExpr (λ k. k.0)

  -- the expression that some parts make, of which each is itself
  abbrev remade : TypedExpr-F Known → TypedExpr
  remade y = whole (map-TypedExpr TypedExpr Part (part s env) (forget y))

  same_members : (ks : List Known) → map (λ (p : Part). p.expr) (map (part s env) (map (λ (k : Known). k.0) ks)) ≡ map (λ (k : Known). k.0) ks
  same_members [] = refl
  same_members (k ∷ ks) = let first : (part s env k.0).expr ≡ k.0 = k.1 in let rest = same_members ks in λ i. first i ∷ rest i

  abbrev exprs_in : List (List ℕ × Part) → List (List ℕ × TypedExpr)
  exprs_in fs = map (λ (f : List ℕ × Part). (f.0, f.1.expr)) fs

  abbrev parts_in : List (List ℕ × TypedExpr) → List (List ℕ × Part)
  parts_in fs = map (λ (f : List ℕ × TypedExpr). (f.0, part s env f.1)) fs

  abbrev forget_in : List (List ℕ × Known) → List (List ℕ × TypedExpr)
  forget_in fs = map (λ (f : List ℕ × Known). (f.0, f.1.0)) fs

  same_fields : (fs : List (List ℕ × Known)) → exprs_in (parts_in (forget_in fs)) ≡ forget_in fs
  same_fields [] = refl
  same_fields (f ∷ fs) = let first : (part s env f.1.0).expr ≡ f.1.0 = f.1.1 in let rest = same_fields fs in λ i. (f.0, first i) ∷ rest i

  itself : (y : TypedExpr-F Known) → remade y ≡ roll-TypedExpr (forget y)
  itself (t.If place type c a b) = λ i. roll-TypedExpr (t.If place type (c.1 i) (a.1 i) (b.1 i))
  itself (t.Or place type a b) = λ i. roll-TypedExpr (t.Or place type (a.1 i) (b.1 i))
  itself (t.And place type a b) = λ i. roll-TypedExpr (t.And place type (a.1 i) (b.1 i))
  itself (t.Binary place type operator a b) = λ i. roll-TypedExpr (t.Binary place type operator (a.1 i) (b.1 i))
  itself (t.Has place type a steps skipped) = λ i. roll-TypedExpr (t.Has place type (a.1 i) steps skipped)
  itself (t.Like place type a pattern) = λ i. roll-TypedExpr (t.Like place type (a.1 i) pattern)
  itself (t.Is place type a n) = λ i. roll-TypedExpr (t.Is place type (a.1 i) n)
  itself (t.IsIn place type a n in_place b) = λ i. roll-TypedExpr (t.IsIn place type (a.1 i) n in_place (b.1 i))
  itself (t.Unary place type operator a) = λ i. roll-TypedExpr (t.Unary place type operator (a.1 i))
  itself (t.Access place type a name) = λ i. roll-TypedExpr (t.Access place type (a.1 i) name)
  itself (t.Literal place type l) = refl
  itself (t.Variable place type x) = refl
  itself (t.Set place type members) = λ i. roll-TypedExpr (t.Set place type (same_members members i))
  itself (t.Record place type fields) = λ i. roll-TypedExpr (t.Record place type (same_fields fields i))
  itself (t.Skipped x) = refl

  rolled : (y : TypedExpr-F Known) → (part s env (roll-TypedExpr (forget y))).expr ≡ remade y
  unfolding part
  rolled y = ap (λ (p : Part). p.expr) (fold-roll-TypedExpr Part (part_step s env) (forget y))

  expr_is : (x : TypedExpr) → (part s env x).expr ≡ x
  expr_is = ind-TypedExpr (λ x. (part s env x).expr ≡ x) (λ x y at. subst (λ z. (part s env (roll-TypedExpr z)).expr ≡ roll-TypedExpr z) at (rolled y ∙ itself y))

  pub part_is : (x : TypedExpr) → part s env x ≡ seen_in x
  part_is x = λ i. record { expr = expr_is x i; code = code_of s env x }

  -- ---- each construct

  rolls : (x : TypedExpr) (y : TypedExpr-F TypedExpr) → roll-TypedExpr y ≡ x → code_of s env x ≡ code_step s env (map-TypedExpr TypedExpr Part (part s env) y)
  unfolding part
  rolls x y at = ap (code_of s env) (sym at) ∙ ap (λ (p : Part). p.code) (fold-roll-TypedExpr Part (part_step s env) y)

  -- what members are compiled to
  same_codes : (xs : List TypedExpr) → map (λ (p : Part). p.code) (map (part s env) xs) ≡ map (code_of s env) xs
  same_codes [] = refl
  same_codes (x ∷ xs) = let rest = same_codes xs in λ i. code_of s env x ∷ rest i

  abbrev codes_of_parts : List (List ℕ × Part) → List CodeField
  codes_of_parts fs = map (λ (f : List ℕ × Part). (f.0, f.1.code)) fs

  abbrev codes_of_fields : List (List ℕ × TypedExpr) → List CodeField
  codes_of_fields fs = map (λ (f : List ℕ × TypedExpr). (f.0, code_of s env f.1)) fs

  same_field_codes : (fs : List (List ℕ × TypedExpr)) → codes_of_parts (parts_in fs) ≡ codes_of_fields fs
  same_field_codes [] = refl
  same_field_codes (f ∷ fs) = let rest = same_field_codes fs in λ i. (f.0, code_of s env f.1) ∷ rest i

  pub code_If : (place : Place) (type : Ty) (c a b : TypedExpr) → code_of s env (typed.If place type c a b) ≡ of_choice (seen_in c) (seen_in a) (seen_in b)
  code_If place type c a b = rolls (typed.If place type c a b) (t.If place type c a b) (rolls-If place type c a b) ∙ λ i. of_choice (part_is c i) (part_is a i) (part_is b i)

  pub code_Or : (place : Place) (type : Ty) (a b : TypedExpr) → code_of s env (typed.Or place type a b) ≡ of_either (seen_in a) (seen_in b)
  code_Or place type a b = rolls (typed.Or place type a b) (t.Or place type a b) (rolls-Or place type a b) ∙ λ i. of_either (part_is a i) (part_is b i)

  pub code_And : (place : Place) (type : Ty) (a b : TypedExpr) → code_of s env (typed.And place type a b) ≡ of_both (seen_in a) (seen_in b)
  code_And place type a b = rolls (typed.And place type a b) (t.And place type a b) (rolls-And place type a b) ∙ λ i. of_both (part_is a i) (part_is b i)

  pub code_Binary : (place : Place) (type : Ty) (operator : BinaryOperator) (a b : TypedExpr) → code_of s env (typed.Binary place type operator a b) ≡ binary_code s operator type a b (code_of s env a) (code_of s env b)
  code_Binary place type operator a b = rolls (typed.Binary place type operator a b) (t.Binary place type operator a b) (rolls-Binary place type operator a b) ∙ λ i. binary_code s operator type (part_is a i).expr (part_is b i).expr (part_is a i).code (part_is b i).code

  pub code_Has : (place : Place) (type : Ty) (a : TypedExpr) (steps : List HasStep) (skipped : List (List ℕ)) → code_of s env (typed.Has place type a steps skipped) ≡ path_code s (code_of s env a) steps
  code_Has place type a steps skipped = rolls (typed.Has place type a steps skipped) (t.Has place type a steps skipped) (rolls-Has place type a steps skipped) ∙ λ i. path_code s (part_is a i).code steps

  pub code_Like : (place : Place) (type : Ty) (a : TypedExpr) (pattern : List PatternPart) → code_of s env (typed.Like place type a pattern) ≡ like_code pattern (code_of s env a)
  code_Like place type a pattern = rolls (typed.Like place type a pattern) (t.Like place type a pattern) (rolls-Like place type a pattern) ∙ λ i. like_code pattern (part_is a i).code

  pub code_Is : (place : Place) (type : Ty) (a : TypedExpr) (n : TypeName) → code_of s env (typed.Is place type a n) ≡ is_code (is_true type) (code_of s env a)
  code_Is place type a n = rolls (typed.Is place type a n) (t.Is place type a n) (rolls-Is place type a n) ∙ λ i. is_code (is_true type) (part_is a i).code

  pub code_IsIn : (place : Place) (type : Ty) (a : TypedExpr) (n : TypeName) (in_place : Place) (b : TypedExpr) → code_of s env (typed.IsIn place type a n in_place b) ≡ is_in_code s type n a b (code_of s env a) (code_of s env b)
  code_IsIn place type a n in_place b = rolls (typed.IsIn place type a n in_place b) (t.IsIn place type a n in_place b) (rolls-IsIn place type a n in_place b) ∙ λ i. is_in_code s type n (part_is a i).expr (part_is b i).expr (part_is a i).code (part_is b i).code

  pub code_Unary : (place : Place) (type : Ty) (operator : UnaryOperator) (a : TypedExpr) → code_of s env (typed.Unary place type operator a) ≡ unary_code operator a (code_of s env a)
  code_Unary place type operator a = rolls (typed.Unary place type operator a) (t.Unary place type operator a) (rolls-Unary place type operator a) ∙ λ i. unary_code operator (part_is a i).expr (part_is a i).code

  pub code_Access : (place : Place) (type : Ty) (a : TypedExpr) (name : List ℕ) → code_of s env (typed.Access place type a name) ≡ access_code s (ty a) name (code_of s env a)
  code_Access place type a name = rolls (typed.Access place type a name) (t.Access place type a name) (rolls-Access place type a name) ∙ λ i. access_code s (ty (part_is a i).expr) name (part_is a i).code

  pub code_Literal : (place : Place) (type : Ty) (l : Literal) → code_of s env (typed.Literal place type l) ≡ always (written_term s l)
  code_Literal place type l = rolls (typed.Literal place type l) (t.Literal place type l) (rolls-Literal place type l)

  pub code_Variable : (place : Place) (type : Ty) (x : Variable) → code_of s env (typed.Variable place type x) ≡ always (variable_term s env x)
  code_Variable place type x = rolls (typed.Variable place type x) (t.Variable place type x) (rolls-Variable place type x)

  pub code_Set : (place : Place) (type : Ty) (members : List TypedExpr) → code_of s env (typed.Set place type members) ≡ set_code (map (code_of s env) members)
  code_Set place type members = rolls (typed.Set place type members) (t.Set place type members) (rolls-Set place type members) ∙ λ i. set_code (same_codes members i)

  pub code_Record : (place : Place) (type : Ty) (fields : List (List ℕ × TypedExpr)) → code_of s env (typed.Record place type fields) ≡ record_code (map (λ (f : List ℕ × TypedExpr). (f.0, code_of s env f.1)) fields)
  code_Record place type fields = rolls (typed.Record place type fields) (t.Record place type fields) (rolls-Record place type fields) ∙ λ i. record_code (same_field_codes fields i)

  pub code_Skipped : (x : Expr) → code_of s env (typed.Skipped x) ≡ constant false
  code_Skipped x = rolls (typed.Skipped x) (t.Skipped x) (rolls-Skipped x)
