-- What is derived is given by typing.
use Rattle.std.proofs.Common.{◌≡◌, ◌&&◌, ℕ, List, map, false, Option, Some, None, Ok, is_some, refl, sym, ap, ◌∙◌}
use Rattle.sc_ast.specs.declared.literal.Literal.{Literal}
use Rattle.sc_ast.specs.declared.expr.Expr.{Expr}
use Rattle.sc_ast.specs.declared.operator.BinaryOperator.{BinaryOperator}
use Rattle.sc_ast.specs.declared.operator.BinaryOperator.TheVariants.{In}
use Rattle.sc_ast.specs.declared.operator.UnaryOperator.{UnaryOperator}
use Rattle.sc_ast.specs.declared.place.Place.{Place}
use Rattle.sc_schema.specs.declared.declarations.Env.{Env}
use Rattle.sc_schema.specs.declared.ty.Ty.{Ty}
use Rattle.sc_schema.specs.Declarations.{Declarations}
use Rattle.sc_typed.specs.declared.outcome.Typed.{Typed}
use Rattle.sc_typed.specs.declared.typed_expr.TypedExpr.{TypedExpr}
use Rattle.sc_typed.specs.Capabilities.{Capabilities}
use Rattle.sc_typing.specs.Typing.{typing, part}
use Rattle.sc_typing.proofs.TypingLaws as construct
use Rattle.sc_typed.specs.Literals.{literal_of}
use Rattle.sc_typed.specs.Outcomes.{ty}
use Rattle.sc_typing_rules.specs.Operators.{compared, equal_by, binary, unary}
use Rattle.sc_typing_rules.specs.Rules.{Operand, operated, computed, all_typed, fields_typed}
use Rattle.sc_typing_laws.specs.Operations.{less, less_or_equal, greater, greater_or_equal, addition, subtraction, multiplication, all, any, decimal_less, decimal_less_or_equal, decimal_greater, decimal_greater_or_equal, IsOperation, of_comparison, of_arithmetic, of_literals, of_equal, of_apart, of_contains, of_sets, of_has_tag, of_get_tag, of_decimals, of_ranges, version_4, version_6, loopback, multicast, IsApplication, of_not, of_negate, of_is_empty, of_address_test, of_decimal, of_ip}
use Rattle.sc_typing_laws.specs.Derivations.{Derives, DeriveAll, DeriveFields, of_if_true, of_if_false, of_if, of_or_true, of_or, of_and_false, of_and, of_binary, of_in_decided, of_in, of_has, of_like, of_is, of_is_in_other, of_is_in_decided, of_is_in, of_unary, of_access, of_literal, of_variable, of_set, of_record, no_member, with_member, no_field, with_field}

-- ---- operators

-- an operator of these rows isn't `in`
computed_is : (s : Declarations) (known : Capabilities) (a b : Expr) (x y : TypedExpr) (o : BinaryOperator) (type : Ty) (p : Place) (c d : Operand) → IsOperation s known a b x y o type
    → operated s p o c d known ≡ computed s p o c d known
computed_is s known a b x y o type p c d (of_comparison _ less f g) = refl
computed_is s known a b x y o type p c d (of_comparison _ less_or_equal f g) = refl
computed_is s known a b x y o type p c d (of_comparison _ greater f g) = refl
computed_is s known a b x y o type p c d (of_comparison _ greater_or_equal f g) = refl
computed_is s known a b x y o type p c d (of_arithmetic _ addition f g) = refl
computed_is s known a b x y o type p c d (of_arithmetic _ subtraction f g) = refl
computed_is s known a b x y o type p c d (of_arithmetic _ multiplication f g) = refl
computed_is s known a b x y o type p c d (of_literals l m f g) = refl
computed_is s known a b x y o type p c d (of_equal both l j) = refl
computed_is s known a b x y o type p c d (of_apart n m l f g h j) = refl
computed_is s known a b x y o type p c d (of_contains element both f j) = refl
computed_is s known a b x y o type p c d (of_sets _ first second both all f g j) = refl
computed_is s known a b x y o type p c d (of_sets _ first second both any f g j) = refl
computed_is s known a b x y o type p c d (of_has_tag n f g) = refl
computed_is s known a b x y o type p c d (of_get_tag n t f g i k) = refl
computed_is s known a b x y o type p c d (of_decimals _ decimal_less f g) = refl
computed_is s known a b x y o type p c d (of_decimals _ decimal_less_or_equal f g) = refl
computed_is s known a b x y o type p c d (of_decimals _ decimal_greater f g) = refl
computed_is s known a b x y o type p c d (of_decimals _ decimal_greater_or_equal f g) = refl
computed_is s known a b x y o type p c d (of_ranges f g) = refl

-- what aren't both literals is compared by type
not_both : (p : Place) (l m : Option Literal) (t u : Ty) → (is_some l && is_some m) ≡ false → equal_by p l m t u ≡ compared p t u
not_both p (Some l) (Some m) t u h = absurd cc
not_both p (Some l) None t u h = refl
not_both p None m t u h = refl

operation_given : (s : Declarations) (known : Capabilities) (a b : Expr) (x y : TypedExpr) (o : BinaryOperator) (type : Ty) (p : Place) → IsOperation s known a b x y o type
    → binary s known p o a b x y ≡ Ok type
operation_given s known a b x y o type p (of_comparison _ less f g) = rw (f, g) refl
operation_given s known a b x y o type p (of_comparison _ less_or_equal f g) = rw (f, g) refl
operation_given s known a b x y o type p (of_comparison _ greater f g) = rw (f, g) refl
operation_given s known a b x y o type p (of_comparison _ greater_or_equal f g) = rw (f, g) refl
operation_given s known a b x y o type p (of_arithmetic _ addition f g) = rw (f, g) refl
operation_given s known a b x y o type p (of_arithmetic _ subtraction f g) = rw (f, g) refl
operation_given s known a b x y o type p (of_arithmetic _ multiplication f g) = rw (f, g) refl
operation_given s known a b x y o type p (of_literals l m f g) = rw (f, g) refl
operation_given s known a b x y o type p (of_equal both l j) = not_both p (literal_of a) (literal_of b) (ty x) (ty y) l ∙ rw j refl
operation_given s known a b x y o type p (of_apart n m l f g h j) = not_both p (literal_of a) (literal_of b) (ty x) (ty y) l ∙ rw (j, f, g, h) refl
operation_given s known a b x y o type p (of_contains element both f j) = rw (f, j) refl
operation_given s known a b x y o type p (of_sets _ first second both all f g j) = rw (f, g, j) refl
operation_given s known a b x y o type p (of_sets _ first second both any f g j) = rw (f, g, j) refl
operation_given s known a b x y o type p (of_has_tag n f g) = rw (f, g) refl
operation_given s known a b x y o type p (of_get_tag n t f g i k) = rw (f, g, i, k) refl
operation_given s known a b x y o type p (of_decimals _ decimal_less f g) = rw (f, g) refl
operation_given s known a b x y o type p (of_decimals _ decimal_less_or_equal f g) = rw (f, g) refl
operation_given s known a b x y o type p (of_decimals _ decimal_greater f g) = rw (f, g) refl
operation_given s known a b x y o type p (of_decimals _ decimal_greater_or_equal f g) = rw (f, g) refl
operation_given s known a b x y o type p (of_ranges f g) = rw (f, g) refl

application_given : (a : Expr) (x : TypedExpr) (o : UnaryOperator) (type : Ty) (p : Place) → IsApplication a x o type → unary p o a x ≡ Ok type
application_given a x o type p (of_not f) = rw f refl
application_given a x o type p (of_negate f) = rw f refl
application_given a x o type p (of_is_empty element f) = rw f refl
application_given a x o type p (of_address_test _ version_4 f) = rw f refl
application_given a x o type p (of_address_test _ version_6 f) = rw f refl
application_given a x o type p (of_address_test _ loopback f) = rw f refl
application_given a x o type p (of_address_test _ multicast f) = rw f refl
application_given a x o type p (of_decimal text n f g) = rw (f, g) refl
application_given a x o type p (of_ip text ip f g) = rw (f, g) refl

-- ---- all expressions

module _ (s : Declarations) (env : Env) where
  -- at an expression that is this one, and what is given is this
  as_row : (z x : Expr) (known : Capabilities) (u t : Typed) → z ≡ x → u ≡ t → typing s env x known ≡ Ok t → typing s env z known ≡ Ok u
  as_row z x known u t at is h = ap (λ (y : Expr). typing s env y known) at ∙ h ∙ ap Ok (sym is)

  mutual
    pub given_in : {z : Expr} {known : Capabilities} {u : Typed} → Derives s env z known u → typing s env z known ≡ Ok u
    given_in (of_if_true z known u p c a b x y at r f q is) = as_row z _ known u _ at is (construct.typing_If s env p c a b known ∙ rw (given_in r, f, given_in q) refl)
    given_in (of_if_false z known u p c a b x y at r f g q is) = as_row z _ known u _ at is (construct.typing_If s env p c a b known ∙ rw (given_in r, f, g, given_in q) refl)
    given_in (of_if z known u p c a b x y v type at r f g q l m j is) =
        as_row z _ known u _ at is (construct.typing_If s env p c a b known ∙ rw (given_in r, f, g, given_in q, given_in l, m, j) refl)
    given_in (of_or_true z known u p a b x at r f is) = as_row z _ known u _ at is (construct.typing_Or s env p a b known ∙ rw (given_in r, f) refl)
    given_in (of_or z known u p a b x y at r f q c d is) = as_row z _ known u _ at is (construct.typing_Or s env p a b known ∙ rw (given_in r, f, given_in q, c, d) refl)
    given_in (of_and_false z known u p a b x at r f is) = as_row z _ known u _ at is (construct.typing_And s env p a b known ∙ rw (given_in r, f) refl)
    given_in (of_and z known u p a b x y at r f q c d is) = as_row z _ known u _ at is (construct.typing_And s env p a b known ∙ rw (given_in r, f, given_in q, c, d) refl)
    given_in (of_binary z known u p o a b x y type at r q i is) =
        as_row z _ known u _ at is
        (construct.typing_Binary s env p o a b known ∙ computed_is s known a b x.expr y.expr o type p (part s env a) (part s env b) i
        ∙ rw (given_in r, given_in q, operation_given s known a b x.expr y.expr o type p i) refl)
    given_in (of_in_decided z known u p a b x is_in at r d is) = as_row z _ known u _ at is (construct.typing_Binary s env p In a b known ∙ rw (given_in r, d) refl)
    given_in (of_in z known u p a b x y n m at r d q f g is) = as_row z _ known u _ at is (construct.typing_Binary s env p In a b known ∙ rw (given_in r, d, given_in q, f, g) refl)
    given_in (of_has z known u p a names x r at d f is) = as_row z _ known u _ at is (construct.typing_Has s env p a names known ∙ rw (given_in d, f) refl)
    given_in (of_like z known u p a pattern x at r c is) = as_row z _ known u _ at is (construct.typing_Like s env p a pattern known ∙ rw (given_in r, c) refl)
    given_in (of_is z known u p a t x n at r f is) = as_row z _ known u _ at is (construct.typing_Is s env p a t known ∙ rw (given_in r, f) refl)
    given_in (of_is_in_other z known u p q a b t x n at r f g is) = as_row z _ known u _ at is (construct.typing_IsIn s env p a t q b known ∙ rw (given_in r, f, g) refl)
    given_in (of_is_in_decided z known u p q a b t x n is_in at r f g d is) = as_row z _ known u _ at is (construct.typing_IsIn s env p a t q b known ∙ rw (given_in r, f, g, d) refl)
    given_in (of_is_in z known u p q a b t x y n m at r f g d i j is) = as_row z _ known u _ at is (construct.typing_IsIn s env p a t q b known ∙ rw (given_in r, f, g, d, given_in i, f, j) refl)
    given_in (of_unary z known u p o a x type at r i is) = as_row z _ known u _ at is (construct.typing_Unary s env p o a known ∙ rw (given_in r, application_given a x.expr o type p i) refl)
    given_in (of_access z known u p a name x fields f at r d g h is) = as_row z _ known u _ at is (construct.typing_Access s env p a name known ∙ rw (given_in r, d, g, h) refl)
    given_in (of_literal z known u p l at is) = as_row z _ known u _ at is (construct.typing_Literal s env p l known)
    given_in (of_variable z known u p v at is) = as_row z _ known u _ at is (construct.typing_Variable s env p v known)
    given_in (of_set z known u p members xs type at r f is) = as_row z _ known u _ at is (construct.typing_Set s env p members known ∙ rw (all_given r, f) refl)
    given_in (of_record z known u p fields xs at r is) = as_row z _ known u _ at is (construct.typing_Record s env p fields known ∙ rw (fields_given r) refl)

    all_given : {zs : List Expr} {known : Capabilities} {us : List TypedExpr} → DeriveAll s env zs known us → all_typed (map (part s env) zs) known ≡ Ok us
    all_given (no_member known) = refl
    all_given (with_member known z zs u us r q) = rw (given_in r, all_given q) refl

    fields_given : {zs : List (List ℕ × Expr)} {known : Capabilities} {us : List (List ℕ × TypedExpr)} → DeriveFields s env zs known us
        → fields_typed (map (λ (f : List ℕ × Expr). (f.0, part s env f.1)) zs) known ≡ Ok us
    fields_given (no_field known) = refl
    fields_given (with_field known name z zs u us r q) = rw (given_in r, fields_given q) refl

pub given : (s : Declarations) (env : Env) (x : Expr) (known : Capabilities) (t : Typed) → Derives s env x known t → typing s env x known ≡ Ok t
given s env x known t d = given_in s env d
