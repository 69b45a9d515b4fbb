-- What typing gives of an expression under capabilities, one row a construct, in the order of the grammar. A row's
-- equations say what the expression is and what is given, so that rows can be told apart at any expression.
use Rattle.std.specs.Prelude.{◌≡◌, ℕ, List, [], ◌∷◌, ◌++◌, Bool, true, false, ◌||◌, if◌then◌else◌, Some, None, Ok}
use Rattle.std.specs.Str.{bytes_eq}
use Rattle.sc_ast.specs.declared.expr.Expr.{Expr}
use Rattle.sc_ast.specs.declared.expr.Expr.TheVariants as expr
use Rattle.sc_ast.specs.declared.expr.TypeName.{TypeName}
use Rattle.sc_ast.specs.declared.expr.Variable.{Variable}
use Rattle.sc_ast.specs.declared.literal.Literal.{Literal}
use Rattle.sc_ast.specs.declared.operator.BinaryOperator.{BinaryOperator}
use Rattle.sc_ast.specs.declared.operator.BinaryOperator.TheVariants.{In}
use Rattle.sc_ast.specs.declared.operator.UnaryOperator.{UnaryOperator}
use Rattle.sc_ast.specs.declared.place.Place.{Place}
use Rattle.sc_pattern.specs.declared.part.Part.{Part}
use Rattle.sc_schema.specs.declared.declarations.Env.{Env}
use Rattle.sc_schema.specs.declared.ty.Ty.{Ty}
use Rattle.sc_schema.specs.declared.ty.Ty.TheVariants as types
use Rattle.sc_schema.specs.Declarations.{Declarations}
use Rattle.sc_typed.specs.declared.outcome.Typed.{Typed}
use Rattle.sc_typed.specs.declared.typed_expr.TypedExpr.{TypedExpr}
use Rattle.sc_typed.specs.declared.typed_expr.TypedExpr.TheVariants as typed
use Rattle.sc_typed.specs.Capabilities.{Capabilities, attribute_of, is_known, common}
use Rattle.sc_typed.specs.Outcomes.{made, ty}
use Rattle.sc_typed.specs.Types.{Field, is_true, is_false, is_boolean, is_string, entity_name, group, truth, join, attributes, attribute, is_required}
use Rattle.sc_typing_rules.specs.declared.path.Path.{Path}
use Rattle.sc_typing_rules.specs.Operators.{given_by, may_be_in, decided}
use Rattle.sc_typing_rules.specs.Paths.{no_names, along}
use Rattle.sc_typing_rules.specs.Rules.{first_branch, second_branch, or_type, or_given, and_type, and_given, literal_typed, leaves, variable_type, subject, member_type, record_type}
use Rattle.sc_typing_laws.specs.Operations.{IsOperation, IsApplication}

-- an entity of a type may be one of the types that a right side of `in` has, and never is where it is false
abbrev pub in_type : Declarations → List ℕ → List ℕ → Ty
in_type s n m = if may_be_in s n m then types.Bool else types.False

mutual
  pub data Derives (s : Declarations) (env : Env) : Expr → Capabilities → Typed → Type 0 where
    -- `if c then a else b`: c is true, and b is skipped; c is false, and a is skipped; c may be true or false
    of_if_true : (z : Expr) (known : Capabilities) (u : Typed) (p : Place) (c a b : Expr) (x y : Typed)
        → z ≡ expr.If p c a b
        → Derives s env c known x → is_true (ty x.expr) ≡ true → Derives s env a (known ++ x.given) y
        → u ≡ first_branch p x y b → Derives s env z known u
    of_if_false : (z : Expr) (known : Capabilities) (u : Typed) (p : Place) (c a b : Expr) (x y : Typed)
        → z ≡ expr.If p c a b
        → Derives s env c known x → is_true (ty x.expr) ≡ false → is_false (ty x.expr) ≡ true → Derives s env b known y
        → u ≡ second_branch p x a y → Derives s env z known u
    of_if : (z : Expr) (known : Capabilities) (u : Typed) (p : Place) (c a b : Expr) (x y v : Typed) (type : Ty)
        → z ≡ expr.If p c a b
        → Derives s env c known x → is_true (ty x.expr) ≡ false → is_false (ty x.expr) ≡ false
        → Derives s env a (known ++ x.given) y → Derives s env b known v → is_boolean (ty x.expr) ≡ true
        → join (ty y.expr) (ty v.expr) ≡ Some type
        → u ≡ made (typed.If p type x.expr y.expr v.expr) (common (x.given ++ y.given) v.given)
        → Derives s env z known u
    -- `a || b`
    of_or_true : (z : Expr) (known : Capabilities) (u : Typed) (p : Place) (a b : Expr) (x : Typed) → z ≡ expr.Or p a b
        → Derives s env a known x → is_true (ty x.expr) ≡ true
        → u ≡ made (typed.Or p types.True x.expr (typed.Skipped b)) [] → Derives s env z known u
    of_or : (z : Expr) (known : Capabilities) (u : Typed) (p : Place) (a b : Expr) (x y : Typed) → z ≡ expr.Or p a b
        → Derives s env a known x → is_true (ty x.expr) ≡ false → Derives s env b known y
        → is_boolean (ty x.expr) ≡ true → is_boolean (ty y.expr) ≡ true
        → u ≡ made (typed.Or p (or_type x.expr y.expr) x.expr y.expr) (or_given x y) → Derives s env z known u
    -- `a && b`
    of_and_false : (z : Expr) (known : Capabilities) (u : Typed) (p : Place) (a b : Expr) (x : Typed)
        → z ≡ expr.And p a b
        → Derives s env a known x → is_false (ty x.expr) ≡ true
        → u ≡ made (typed.And p types.False x.expr (typed.Skipped b)) [] → Derives s env z known u
    of_and : (z : Expr) (known : Capabilities) (u : Typed) (p : Place) (a b : Expr) (x y : Typed) → z ≡ expr.And p a b
        → Derives s env a known x → is_false (ty x.expr) ≡ false → Derives s env b (known ++ x.given) y
        → is_boolean (ty x.expr) ≡ true → is_boolean (ty y.expr) ≡ true
        → u ≡ made (typed.And p (and_type x.expr y.expr) x.expr y.expr) (and_given x y) → Derives s env z known u
    -- operators with two operands but for `in`
    of_binary : (z : Expr) (known : Capabilities) (u : Typed) (p : Place) (o : BinaryOperator) (a b : Expr)
        (x y : Typed) (type : Ty)
        → z ≡ expr.Binary p o a b → Derives s env a known x → Derives s env b known y
        → IsOperation s known a b x.expr y.expr o type
        → u ≡ made (typed.Binary p type o x.expr y.expr) (given_by o a b type) → Derives s env z known u
    -- `a in b` of a declared action and of entities that are written
    of_in_decided : (z : Expr) (known : Capabilities) (u : Typed) (p : Place) (a b : Expr) (x : Typed) (is_in : Bool)
        → z ≡ expr.Binary p In a b → Derives s env a known x → decided s a b ≡ Some is_in
        → u ≡ made (typed.Binary p (truth is_in) In x.expr (leaves s b)) [] → Derives s env z known u
    of_in : (z : Expr) (known : Capabilities) (u : Typed) (p : Place) (a b : Expr) (x y : Typed) (n m : List ℕ)
        → z ≡ expr.Binary p In a b → Derives s env a known x → decided s a b ≡ None → Derives s env b known y
        → entity_name (ty x.expr) ≡ Some n → group (ty y.expr) ≡ Some m
        → u ≡ made (typed.Binary p (in_type s n m) In x.expr y.expr) [] → Derives s env z known u
    of_has : (z : Expr) (known : Capabilities) (u : Typed) (p : Place) (a : Expr) (names : List (List ℕ)) (x : Typed)
        (r : Path)
        → z ≡ expr.Has p a names → Derives s env a known x → along s p known (subject a x.expr) no_names names ≡ Ok r
        → u ≡ made (typed.Has p r.found x.expr r.steps r.skipped) r.given → Derives s env z known u
    of_like : (z : Expr) (known : Capabilities) (u : Typed) (p : Place) (a : Expr) (pattern : List Part) (x : Typed)
        → z ≡ expr.Like p a pattern → Derives s env a known x → is_string (ty x.expr) ≡ true
        → u ≡ made (typed.Like p types.Bool x.expr pattern) [] → Derives s env z known u
    of_is : (z : Expr) (known : Capabilities) (u : Typed) (p : Place) (a : Expr) (t : TypeName) (x : Typed) (n : List ℕ)
        → z ≡ expr.Is p a t → Derives s env a known x → entity_name (ty x.expr) ≡ Some n
        → u ≡ made (typed.Is p (truth (bytes_eq n t.name)) x.expr t) [] → Derives s env z known u
    -- `a is T in b`: b is skipped where a isn't of the type T
    of_is_in_other : (z : Expr) (known : Capabilities) (u : Typed) (p q : Place) (a b : Expr) (t : TypeName)
        (x : Typed) (n : List ℕ)
        → z ≡ expr.IsIn p a t q b → Derives s env a known x → entity_name (ty x.expr) ≡ Some n
        → bytes_eq n t.name ≡ false
        → u ≡ made (typed.IsIn p types.False x.expr t q (typed.Skipped b)) [] → Derives s env z known u
    of_is_in_decided : (z : Expr) (known : Capabilities) (u : Typed) (p q : Place) (a b : Expr) (t : TypeName)
        (x : Typed) (n : List ℕ)
        (is_in : Bool) → z ≡ expr.IsIn p a t q b → Derives s env a known x → entity_name (ty x.expr) ≡ Some n
        → bytes_eq n t.name ≡ true → decided s a b ≡ Some is_in
        → u ≡ made (typed.IsIn p (truth is_in) x.expr t q (leaves s b)) [] → Derives s env z known u
    of_is_in : (z : Expr) (known : Capabilities) (u : Typed) (p q : Place) (a b : Expr) (t : TypeName) (x y : Typed)
        (n m : List ℕ)
        → z ≡ expr.IsIn p a t q b → Derives s env a known x → entity_name (ty x.expr) ≡ Some n
        → bytes_eq n t.name ≡ true
        → decided s a b ≡ None → Derives s env b known y → group (ty y.expr) ≡ Some m
        → u ≡ made (typed.IsIn p (in_type s n m) x.expr t q y.expr) [] → Derives s env z known u
    of_unary : (z : Expr) (known : Capabilities) (u : Typed) (p : Place) (o : UnaryOperator) (a : Expr) (x : Typed)
        (type : Ty)
        → z ≡ expr.Unary p o a → Derives s env a known x → IsApplication a x.expr o type
        → u ≡ made (typed.Unary p type o x.expr) [] → Derives s env z known u
    of_access : (z : Expr) (known : Capabilities) (u : Typed) (p : Place) (a : Expr) (name : List ℕ) (x : Typed)
        (fields : List Field)
        (f : Field) → z ≡ expr.Access p a name → Derives s env a known x → attributes s (ty x.expr) ≡ Some fields
        → attribute name fields ≡ Some f → (is_required f || is_known known (attribute_of a name)) ≡ true
        → u ≡ made (typed.Access p f.2 x.expr name) [] → Derives s env z known u
    of_literal : (z : Expr) (known : Capabilities) (u : Typed) (p : Place) (l : Literal) → z ≡ expr.Literal p l
        → u ≡ made (literal_typed s p l) [] → Derives s env z known u
    of_variable : (z : Expr) (known : Capabilities) (u : Typed) (p : Place) (v : Variable) → z ≡ expr.Variable p v
        → u ≡ made (typed.Variable p (variable_type s env v) v) [] → Derives s env z known u
    of_set : (z : Expr) (known : Capabilities) (u : Typed) (p : Place) (members : List Expr) (xs : List TypedExpr)
        (type : Ty)
        → z ≡ expr.Set p members → DeriveAll s env members known xs → member_type p xs ≡ Ok type
        → u ≡ made (typed.Set p (types.Set type) xs) [] → Derives s env z known u
    of_record : (z : Expr) (known : Capabilities) (u : Typed) (p : Place) (fields : List (List ℕ × Expr))
        (xs : List (List ℕ × TypedExpr)) → z ≡ expr.Record p fields → DeriveFields s env fields known xs
        → u ≡ made (typed.Record p (record_type xs) xs) [] → Derives s env z known u

  -- the members of a set, each under the same capabilities
  pub data DeriveAll (s : Declarations) (env : Env) : List Expr → Capabilities → List TypedExpr → Type 0 where
    no_member : (known : Capabilities) → DeriveAll s env [] known []
    with_member : (known : Capabilities) (z : Expr) (zs : List Expr) (u : Typed) (us : List TypedExpr)
        → Derives s env z known u
        → DeriveAll s env zs known us → DeriveAll s env (z ∷ zs) known (u.expr ∷ us)

  -- the fields of a record, in the order in which they are written
  pub data DeriveFields (s : Declarations) (env : Env) : List (List ℕ × Expr) → Capabilities
      → List (List ℕ × TypedExpr) → Type 0 where
    no_field : (known : Capabilities) → DeriveFields s env [] known []
    with_field : (known : Capabilities) (name : List ℕ) (z : Expr) (zs : List (List ℕ × Expr)) (u : Typed)
        (us : List (List ℕ × TypedExpr)) → Derives s env z known u → DeriveFields s env zs known us
        → DeriveFields s env ((name, z) ∷ zs) known ((name, u.expr) ∷ us)
