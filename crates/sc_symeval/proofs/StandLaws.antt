-- Numbers that stand for what an expression is compiled to: a construct's numbers, by those of its operands.
use Rattle.std.proofs.Common.{◌≡◌, ℕ, List, Bool, true, false, Result, IfOk, map, sym, subst, ◌∙◌}
use Rattle.sc_ast.specs.declared.expr.Expr.{Expr}
use Rattle.sc_ast.specs.declared.expr.TypeName.{TypeName}
use Rattle.sc_ast.specs.declared.expr.Variable.{Variable}
use Rattle.sc_ast.specs.declared.literal.Literal.{Literal}
use Rattle.sc_ast.specs.declared.operator.BinaryOperator.{BinaryOperator}
use Rattle.sc_ast.specs.declared.operator.UnaryOperator.{UnaryOperator}
use Rattle.sc_ast.specs.declared.place.Place.{Place}
use Rattle.sc_pattern.specs.declared.part.Part.{Part as PatternPart}
use Rattle.sc_schema.specs.declared.declarations.Env.{Env}
use Rattle.sc_schema.specs.declared.ty.Ty.{Ty}
use Rattle.sc_schema.specs.Declarations.{Declarations}
use Rattle.sc_typed.specs.declared.typed_expr.HasStep.{HasStep}
use Rattle.sc_typed.specs.declared.typed_expr.TypedExpr.{TypedExpr}
use Rattle.sc_typed.specs.declared.typed_expr.TypedExpr.TheVariants as typed
use Rattle.sc_typed.specs.Outcomes.{ty}
use Rattle.sc_typed.specs.Types.{is_true}
use Rattle.sc_sorts.specs.declared.node.Node.{Node}
use Rattle.sc_terms.specs.Tables.{Keeps}
use Rattle.sc_constructs.specs.declared.opt.Opt.{Opt}
use Rattle.sc_constructs.specs.Code.{Code, always, constant, choice_code, branch_code, or_code, and_code, like_code, is_code, set_code, record_code}
use Rattle.sc_constructs.specs.Objects.{access_code, path_code, in_code, written_term, variable_term}
use Rattle.sc_constructs.specs.Numbers.{IsCode, StandsAs, code_at}
use Rattle.sc_constructs.specs.declared.setting.Setting.{Setting}
use Rattle.sc_constructs.proofs.NumbersLaws.{as_later, in_table, code_is, ready_later}
use Rattle.sc_symeval.specs.Settings.{IsReady}
use Rattle.sc_symeval.specs.Codes.{Part, of_choice, of_either, of_both, binary_code, unary_code, among_code, is_in_code, code_of}
use Rattle.sc_symeval.proofs.CodeLaws.{code_If, code_Or, code_And, code_Binary, code_Has, code_Like, code_Is, code_IsIn, code_Unary, code_Access, code_Literal, code_Variable, code_Set, code_Record, code_Skipped}
use Rattle.sc_constructs.proofs.AlongLaws.{code_later}

-- ---- numbers of operands in the table of the construct

pub later : (xs ys : List Node) (o : Opt) (c : Code) → Keeps xs ys → StandsAs xs o c → IsCode ys o
later xs ys o c kept h = in_table ys o c (as_later xs ys o c kept h)

pub later_still : (xs ys zs : List Node) (o : Opt) (c : Code) → Keeps xs ys → Keeps ys zs → StandsAs xs o c → IsCode zs o
later_still xs ys zs o c kept more h = later ys zs o c more (as_later xs ys o c kept h)

-- what numbers stand for, in the table that the second operand has made

-- ---- one operand

module _ (xs ys : List Node) (x o : Opt) (a : Code) (h : StandsAs xs x a) where
  one_stands : (f : Code → Code) → StandsAs ys o (f (code_at xs x)) → StandsAs ys o (f a)
  one_stands f g = subst (λ (c : Code). StandsAs ys o (f c)) (code_is xs x a h) g

  pub path_stands : (s : Declarations) (steps : List HasStep) → StandsAs ys o (path_code s (code_at xs x) steps) → StandsAs ys o (path_code s a steps)
  path_stands s steps = one_stands (λ (c : Code). path_code s c steps)

  pub like_stands : (pattern : List PatternPart) → StandsAs ys o (like_code pattern (code_at xs x)) → StandsAs ys o (like_code pattern a)
  like_stands pattern = one_stands (like_code pattern)

  pub is_stands : (b : Bool) → StandsAs ys o (is_code b (code_at xs x)) → StandsAs ys o (is_code b a)
  is_stands b = one_stands (is_code b)

  pub unary_stands : (operator : UnaryOperator) (e : TypedExpr) → StandsAs ys o (unary_code operator e (code_at xs x)) → StandsAs ys o (unary_code operator e a)
  unary_stands operator e = one_stands (unary_code operator e)

  pub access_stands : (s : Declarations) (type : Ty) (name : List ℕ) → StandsAs ys o (access_code s type name (code_at xs x)) → StandsAs ys o (access_code s type name a)
  access_stands s type name = one_stands (access_code s type name)

-- ---- two operands

module _ (xs ys zs : List Node) (x y o : Opt) (a b : Code) (h : StandsAs xs x a) (kept : Keeps xs ys) (k : StandsAs ys y b) where
  two_stand : (f : Code → Code → Code) → StandsAs zs o (f (code_at ys x) (code_at ys y)) → StandsAs zs o (f a b)
  two_stand f g =
      let at = code_later xs ys x a kept h in
      let to = code_is ys y b k in
      subst (StandsAs zs o) (λ i. f (at i) (to i)) g

  pub branch_stands : StandsAs zs o (branch_code (code_at ys x) (code_at ys y)) → StandsAs zs o (branch_code a b)
  branch_stands = two_stand branch_code

  pub or_stands : StandsAs zs o (or_code (code_at ys x) (code_at ys y)) → StandsAs zs o (or_code a b)
  or_stands = two_stand or_code

  pub and_stands : StandsAs zs o (and_code (code_at ys x) (code_at ys y)) → StandsAs zs o (and_code a b)
  and_stands = two_stand and_code

  pub binary_stands : (s : Declarations) (operator : BinaryOperator) (type : Ty) (d e : TypedExpr) → StandsAs zs o (binary_code s operator type d e (code_at ys x) (code_at ys y))
      → StandsAs zs o (binary_code s operator type d e a b)
  binary_stands s operator type d e = two_stand (binary_code s operator type d e)

  pub among_stands : (s : Declarations) (type : Ty) (d e : TypedExpr) → StandsAs zs o (among_code s type d e (code_at ys x) (code_at ys y)) → StandsAs zs o (among_code s type d e a b)
  among_stands s type d e = two_stand (among_code s type d e)

-- the test and the membership of one subject
pub among_is : (xs ys zs us : List Node) (x y t m o : Opt) (s : Declarations) (type : Ty) (d e : TypedExpr) → Keeps xs ys → Keeps ys zs
    → StandsAs ys t (is_code true (code_at xs x)) → StandsAs zs m (in_code s type d e (code_at ys x) (code_at ys y))
    → code_at ys x ≡ code_at xs x → code_at ys y ≡ code_at xs y
    → StandsAs us o (and_code (code_at zs t) (code_at zs m)) → StandsAs us o (among_code s type d e (code_at xs x) (code_at xs y))
among_is xs ys zs us x y t m o s type d e kept more h k p q g =
    let test = code_later ys zs t (is_code true (code_at xs x)) more h in
    let found = code_is zs m _ k ∙ λ i. in_code s type d e (p i) (q i) in
    subst (StandsAs us o) (λ i. and_code (test i) (found i)) g

-- ---- three operands

pub choice_stands : (xs ys zs us : List Node) (x y z o : Opt) (c a b : Code) → StandsAs xs x c → Keeps xs ys → StandsAs ys y a → Keeps ys zs → StandsAs zs z b
    → StandsAs us o (choice_code (code_at zs x) (code_at zs y) (code_at zs z)) → StandsAs us o (choice_code c a b)
choice_stands xs ys zs us x y z o c a b h kept k more l g =
    let test = code_later ys zs x c more (as_later xs ys x c kept h) in
    let first = code_later ys zs y a more k in
    let second = code_is zs z b l in
    subst (StandsAs us o) (λ i. choice_code (test i) (first i) (second i)) g

-- ---- what holds of a construct's row holds of the expression

module _ {E : Type 0} (r : Result Opt E) (xs : List Node) (s : Declarations) (env : Env) (x : TypedExpr) where
  abbrev Stands : Code → Type 0
  Stands c = IfOk r (λ (o : Opt). StandsAs xs o c)

  abbrev seen : TypedExpr → Part
  seen y = record { expr = y; code = code_of s env y }

  by_rule : (y : TypedExpr) (c : Code) → x ≡ y → code_of s env y ≡ c → Stands c → Stands (code_of s env x)
  by_rule y c at is h = subst (λ (z : TypedExpr). Stands (code_of s env z)) (sym at) (subst Stands (sym is) h)

  pub gives_If : (place : Place) (type : Ty) (c a b u y z : TypedExpr) → x ≡ typed.If place type c a b → u ≡ c → y ≡ a → z ≡ b → Stands (of_choice (seen u) (seen y) (seen z)) → Stands (code_of s env x)
  gives_If place type c a b u y z at n p q h = by_rule (typed.If place type u y z) _ (at ∙ sym (λ i. typed.If place type (n i) (p i) (q i))) (code_If s env place type u y z) h

  pub gives_Or : (place : Place) (type : Ty) (a b y z : TypedExpr) → x ≡ typed.Or place type a b → y ≡ a → z ≡ b → Stands (of_either (seen y) (seen z)) → Stands (code_of s env x)
  gives_Or place type a b y z at p q h = by_rule (typed.Or place type y z) _ (at ∙ sym (λ i. typed.Or place type (p i) (q i))) (code_Or s env place type y z) h

  pub gives_And : (place : Place) (type : Ty) (a b y z : TypedExpr) → x ≡ typed.And place type a b → y ≡ a → z ≡ b → Stands (of_both (seen y) (seen z)) → Stands (code_of s env x)
  gives_And place type a b y z at p q h = by_rule (typed.And place type y z) _ (at ∙ sym (λ i. typed.And place type (p i) (q i))) (code_And s env place type y z) h

  pub gives_Binary : (place : Place) (type : Ty) (operator : BinaryOperator) (a b y z : TypedExpr) → x ≡ typed.Binary place type operator a b → y ≡ a → z ≡ b
      → Stands (binary_code s operator type y z (code_of s env y) (code_of s env z)) → Stands (code_of s env x)
  gives_Binary place type operator a b y z at p q h =
      by_rule (typed.Binary place type operator y z) _ (at ∙ sym (λ i. typed.Binary place type operator (p i) (q i))) (code_Binary s env place type operator y z) h

  pub gives_Has : (place : Place) (type : Ty) (a y : TypedExpr) (steps ss : List HasStep) (skipped : List (List ℕ)) → x ≡ typed.Has place type a steps skipped → y ≡ a → ss ≡ steps
      → Stands (path_code s (code_of s env y) ss) → Stands (code_of s env x)
  gives_Has place type a y steps ss skipped at p q h = by_rule (typed.Has place type y ss skipped) _ (at ∙ sym (λ i. typed.Has place type (p i) (q i) skipped)) (code_Has s env place type y ss skipped) h

  pub gives_Like : (place : Place) (type : Ty) (a y : TypedExpr) (pattern : List PatternPart) → x ≡ typed.Like place type a pattern → y ≡ a → Stands (like_code pattern (code_of s env y)) → Stands (code_of s env x)
  gives_Like place type a y pattern at p h = by_rule (typed.Like place type y pattern) _ (at ∙ sym (λ i. typed.Like place type (p i) pattern)) (code_Like s env place type y pattern) h

  pub gives_Is : (place : Place) (type : Ty) (a y : TypedExpr) (n : TypeName) → x ≡ typed.Is place type a n → y ≡ a → Stands (is_code (is_true type) (code_of s env y)) → Stands (code_of s env x)
  gives_Is place type a y n at p h = by_rule (typed.Is place type y n) _ (at ∙ sym (λ i. typed.Is place type (p i) n)) (code_Is s env place type y n) h

  pub gives_IsIn : (place : Place) (type : Ty) (a : TypedExpr) (n : TypeName) (in_place : Place) (b y z : TypedExpr) → x ≡ typed.IsIn place type a n in_place b → y ≡ a → z ≡ b
      → Stands (is_in_code s type n y z (code_of s env y) (code_of s env z)) → Stands (code_of s env x)
  gives_IsIn place type a n in_place b y z at p q h =
      by_rule (typed.IsIn place type y n in_place z) _ (at ∙ sym (λ i. typed.IsIn place type (p i) n in_place (q i))) (code_IsIn s env place type y n in_place z) h

  pub gives_Unary : (place : Place) (type : Ty) (operator : UnaryOperator) (a y : TypedExpr) → x ≡ typed.Unary place type operator a → y ≡ a → Stands (unary_code operator y (code_of s env y)) → Stands (code_of s env x)
  gives_Unary place type operator a y at p h = by_rule (typed.Unary place type operator y) _ (at ∙ sym (λ i. typed.Unary place type operator (p i))) (code_Unary s env place type operator y) h

  pub gives_Access : (place : Place) (type : Ty) (a y : TypedExpr) (name : List ℕ) → x ≡ typed.Access place type a name → y ≡ a → Stands (access_code s (ty y) name (code_of s env y)) → Stands (code_of s env x)
  gives_Access place type a y name at p h = by_rule (typed.Access place type y name) _ (at ∙ sym (λ i. typed.Access place type (p i) name)) (code_Access s env place type y name) h

  pub gives_Literal : (place : Place) (type : Ty) (l : Literal) → x ≡ typed.Literal place type l → Stands (always (written_term s l)) → Stands (code_of s env x)
  gives_Literal place type l at h = by_rule (typed.Literal place type l) _ at (code_Literal s env place type l) h

  pub gives_Variable : (place : Place) (type : Ty) (v : Variable) → x ≡ typed.Variable place type v → Stands (always (variable_term s env v)) → Stands (code_of s env x)
  gives_Variable place type v at h = by_rule (typed.Variable place type v) _ at (code_Variable s env place type v) h

  pub gives_Set : (place : Place) (type : Ty) (members ms : List TypedExpr) → x ≡ typed.Set place type members → ms ≡ members → Stands (set_code (map (code_of s env) ms)) → Stands (code_of s env x)
  gives_Set place type members ms at p h = by_rule (typed.Set place type ms) _ (at ∙ sym (λ i. typed.Set place type (p i))) (code_Set s env place type ms) h

  pub gives_Record : (place : Place) (type : Ty) (fields fs : List (List ℕ × TypedExpr)) → x ≡ typed.Record place type fields → fs ≡ fields
      → Stands (record_code (map (λ (f : List ℕ × TypedExpr). (f.0, code_of s env f.1)) fs)) → Stands (code_of s env x)
  gives_Record place type fields fs at p h = by_rule (typed.Record place type fs) _ (at ∙ sym (λ i. typed.Record place type (p i))) (code_Record s env place type fs) h

  pub gives_Skipped : (y : Expr) → x ≡ typed.Skipped y → Stands (constant false) → Stands (code_of s env x)
  gives_Skipped y at h = by_rule (typed.Skipped y) _ at (code_Skipped s env y) h

-- the setting's variables stay in the table
pub still_ready : (xs ys : List Node) (c : Setting) → Keeps xs ys → IsReady xs c → IsReady ys c
still_ready xs ys c kept h = ready_later xs ys c.schema.now c.env.now c.variables kept h
