-- What can be read.
use Rattle.std.specs.Prelude.{ℕ, List}
use Rattle.sc_pattern.specs.declared.part.Part.{Part}
use Rattle.sc_ast.specs.declared.place.Place.{Place}
use Rattle.sc_ast.specs.declared.expr.Expr.{Expr}
use Rattle.sc_ast.specs.declared.expr.TypeName.{TypeName}
use Rattle.sc_ast.specs.declared.literal.EntityLiteral.{EntityLiteral}
use Rattle.sc_ast.specs.declared.policy.Effect.{Effect}
use Rattle.sc_ast.specs.declared.policy.Condition.{Condition}
use Rattle.sc_ast.specs.declared.policy.Policy.{Policy}
use Rattle.sc_ast.specs.declared.scope.Constraint.{Constraint}
use Rattle.sc_ast.specs.declared.scope.ActionConstraint.{ActionConstraint}
use Rattle.sc_ast.specs.declared.scope.Scope.{Scope}
use Rattle.sc_ast.specs.declared.scope.ActionScope.{ActionScope}
use Rattle.sc_parser.specs.declared.scopes.Scopes.{Scopes}

pub data Sort : Type 0 where
  name string names bytes type_name uid tree trees fields head constraint action_constraint uids scope action_scope scopes conditions policy policies : Sort

abbrev pub Of : Sort → Type 0
Of name = Place × List ℕ
Of string = List ℕ × List Part
Of names = List (List ℕ)
Of bytes = List ℕ
Of type_name = TypeName
Of uid = EntityLiteral
Of tree = Expr
Of trees = List Expr
Of fields = List (List ℕ × Expr)
Of head = Place × Effect
Of constraint = Constraint
Of action_constraint = ActionConstraint
Of uids = List EntityLiteral
Of scope = Scope
Of action_scope = ActionScope
Of scopes = Scopes
Of conditions = List Condition
Of policy = Policy
Of policies = List Policy
