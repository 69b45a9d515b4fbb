-- The condition and the uids of some policies.
use Rattle.std.proofs.Common.{◌≡◌, ℕ, List, [], ◌∷◌, ◌++◌, refl, codes, true, false}
use Rattle.sc_names.specs.declared.uid.Uid.{Uid}
use Rattle.sc_ast.specs.declared.place.Place.{Place}
use Rattle.sc_ast.specs.declared.expr.Expr.{Expr}
use Rattle.sc_ast.specs.declared.expr.Expr.TheVariants as expr
use Rattle.sc_ast.specs.declared.expr.Variable.TheVariants.{Principal, Action, Resource}
use Rattle.sc_ast.specs.declared.literal.EntityLiteral.{EntityLiteral}
use Rattle.sc_ast.specs.declared.literal.Literal.TheVariants as literal
use Rattle.sc_ast.specs.declared.operator.BinaryOperator.TheVariants.{Equal, In}
use Rattle.sc_ast.specs.declared.operator.UnaryOperator.TheVariants.{Not}
use Rattle.sc_ast.specs.declared.policy.ConditionKind.TheVariants.{When, Unless}
use Rattle.sc_ast.specs.declared.policy.Effect.TheVariants.{Permit, Forbid}
use Rattle.sc_ast.specs.declared.policy.Policy.{Policy}
use Rattle.sc_ast.specs.declared.scope.ActionConstraint.{ActionConstraint}
use Rattle.sc_ast.specs.declared.scope.ActionConstraint.TheVariants as action
use Rattle.sc_ast.specs.declared.scope.ActionScope.{ActionScope}
use Rattle.sc_ast.specs.declared.scope.Constraint.{Constraint}
use Rattle.sc_ast.specs.declared.scope.Constraint.TheVariants as constraint
use Rattle.sc_ast.specs.declared.scope.Scope.{Scope}
use Rattle.sc_ast.specs.Conditions.{condition}
use Rattle.sc_ast.specs.Literals.{expr_uids, literals}
use Rattle.sc_ast.proofs.LiteralsLaws.{uids_Binary, uids_Literal, uids_Variable}

abbrev at : ℕ → Place
at n = record { offset = n }

abbrev user : List ℕ → Uid
user id = record { type_name = codes "User"; id = id }

abbrev written : ℕ → List ℕ → EntityLiteral
written n id = record { place = at n; uid = user id }

abbrev scope : ℕ → Constraint → Scope
scope n c = record { place = at n; constraint = c }

abbrev action_scope : ℕ → ActionConstraint → ActionScope
action_scope n c = record { place = at n; constraint = c }

-- `permit(principal, action, resource);`
abbrev bare : Policy
bare = record { place = at 0; effect = Permit; principal = scope 7 constraint.Any; action = action_scope 18 action.Any; resource = scope 26 constraint.Any; conditions = [] }

pub condition-bare : condition bare ≡ expr.Literal (at 0) (literal.Bool true)
condition-bare = refl

-- `permit(principal == User::"a", action, resource) unless { x };`
abbrev unless_x : Expr → Policy
unless_x x = record {
  place = at 0;
  effect = Permit;
  principal = scope 7 (constraint.Equal (at 17) (written 20 (codes "a")));
  action = action_scope 31 action.Any;
  resource = scope 39 constraint.Any;
  conditions = record { place = at 49; kind = Unless; body = x } ∷ [];
}

-- `true && principal == User::"a" && !x`
pub condition-unless : (x : Expr) → condition (unless_x x) ≡
    expr.And (at 49)
    (expr.And (at 7)
    (expr.Literal (at 0) (literal.Bool true))
    (expr.Binary (at 17) Equal (expr.Variable (at 7) Principal) (expr.Literal (at 20) (literal.Entity (user (codes "a"))))))
    (expr.Unary (at 49) Not x)
condition-unless x = refl

-- `forbid(principal, action in [], resource);`
abbrev in_none : Policy
in_none = record { place = at 0; effect = Forbid; principal = scope 7 constraint.Any; action = action_scope 18 (action.InAny (at 25) (at 28) []); resource = scope 32 constraint.Any; conditions = [] }

-- `true && false`
pub condition-in_none : condition in_none ≡ expr.And (at 18) (expr.Literal (at 0) (literal.Bool true)) (expr.Literal (at 25) (literal.Bool false))
condition-in_none = refl

-- `forbid(principal is T in User::"a", action in [User::"b", User::"c"], resource in User::"d") when { x } unless { y };`
abbrev full : List ℕ → Expr → Expr → Policy
full t x y = record {
  place = at 0;
  effect = Forbid;
  principal = scope 7 (constraint.IsIn (at 17) (record { place = at 20; name = t }) (at 22) (written 25 (codes "a")));
  action = action_scope 36 (action.InAny (at 43) (at 46) (written 47 (codes "b") ∷ written 58 (codes "c") ∷ []));
  resource = scope 71 (constraint.In (at 80) (written 83 (codes "d")));
  conditions = record { place = at 94; kind = When; body = x } ∷ record { place = at 105; kind = Unless; body = y } ∷ [];
}

-- `true && principal is T in User::"a" && action in [User::"b", User::"c"] && resource in User::"d" && x && !y`
pub condition-full : (t : List ℕ) (x y : Expr) → condition (full t x y) ≡
    expr.And (at 105)
    (expr.And (at 94)
    (expr.And (at 71)
    (expr.And (at 36)
    (expr.And (at 7)
    (expr.Literal (at 0) (literal.Bool true))
    (expr.IsIn (at 17) (expr.Variable (at 7) Principal) (record { place = at 20; name = t }) (at 22) (expr.Literal (at 25) (literal.Entity (user (codes "a"))))))
    (expr.Binary (at 43) In (expr.Variable (at 36) Action)
    (expr.Set (at 46) (expr.Literal (at 47) (literal.Entity (user (codes "b"))) ∷ expr.Literal (at 58) (literal.Entity (user (codes "c"))) ∷ []))))
    (expr.Binary (at 80) In (expr.Variable (at 71) Resource) (expr.Literal (at 83) (literal.Entity (user (codes "d"))))))
    x)
    (expr.Unary (at 105) Not y)
condition-full t x y = refl

-- those of the scope, and then those of each clause
pub literals-full : (t : List ℕ) (x y : Expr) → literals (full t x y ∷ []) ≡
    (user (codes "a") ∷ user (codes "b") ∷ user (codes "c") ∷ user (codes "d") ∷ (expr_uids x ++ (expr_uids y ++ []))) ++ []
literals-full t x y = refl

-- `resource == User::"e"`
abbrev equals_e : Expr
equals_e = expr.Binary (at 61) Equal (expr.Variable (at 52) Resource) (expr.Literal (at 64) (literal.Entity (user (codes "e"))))

-- two policies, the second one's uids after the first one's
pub literals-two : literals (unless_x equals_e ∷ in_none ∷ []) ≡ user (codes "a") ∷ user (codes "e") ∷ []
literals-two = rw (uids_Binary (at 61) Equal (expr.Variable (at 52) Resource) (expr.Literal (at 64) (literal.Entity (user (codes "e")))), uids_Variable (at 52) Resource, uids_Literal (at 64) (literal.Entity (user (codes "e")))) refl
