-- The condition of a policy.
use Rattle.std.specs.Prelude.{List, [], ◌∷◌, ◌++◌, map, fold, true, false}
use Rattle.sc_ast.specs.declared.place.Place.{Place}
use Rattle.sc_ast.specs.declared.operator.BinaryOperator.TheVariants.{Equal, In}
use Rattle.sc_ast.specs.declared.operator.UnaryOperator.TheVariants.{Not}
use Rattle.sc_ast.specs.declared.expr.Variable.{Variable}
use Rattle.sc_ast.specs.declared.expr.Variable.TheVariants.{Principal, Action, Resource}
use Rattle.sc_ast.specs.declared.expr.Expr.{Expr}
use Rattle.sc_ast.specs.declared.expr.Expr.TheVariants as expr
use Rattle.sc_ast.specs.declared.literal.Literal.TheVariants as literal
use Rattle.sc_ast.specs.declared.literal.EntityLiteral.{EntityLiteral}
use Rattle.sc_ast.specs.declared.policy.Condition.{Condition}
use Rattle.sc_ast.specs.declared.policy.ConditionKind.{ConditionKind}
use Rattle.sc_ast.specs.declared.policy.ConditionKind.TheVariants.{When, Unless}
use Rattle.sc_ast.specs.declared.policy.Policy.{Policy}
use Rattle.sc_ast.specs.declared.scope.Constraint.{Constraint}
use Rattle.sc_ast.specs.declared.scope.Constraint.TheVariants as constraint
use Rattle.sc_ast.specs.declared.scope.ActionConstraint.{ActionConstraint}
use Rattle.sc_ast.specs.declared.scope.ActionConstraint.TheVariants as action
use Rattle.sc_ast.specs.declared.scope.Scope.{Scope}
use Rattle.sc_ast.specs.declared.scope.ActionScope.{ActionScope}

-- something that has to be true, with the place of the word that asks it
abbrev pub Conjunct : Type 0
Conjunct = Place × Expr

abbrev pub truth : Place → Expr
truth place = expr.Literal place (literal.Bool true)

abbrev pub entity : EntityLiteral → Expr
entity l = expr.Literal l.place (literal.Entity l.uid)

abbrev pub equals : Expr → Place → EntityLiteral → Expr
equals x place l = expr.Binary place Equal x (entity l)

abbrev pub is_in : Expr → Place → EntityLiteral → Expr
is_in x place l = expr.Binary place In x (entity l)

-- what is asked of a variable; nothing where the part is bare
abbrev pub asked : Expr → Constraint → List Expr
asked x constraint.Any = []
asked x (constraint.Equal place l) = equals x place l ∷ []
asked x (constraint.In place l) = is_in x place l ∷ []
asked x (constraint.Is place t) = expr.Is place x t ∷ []
asked x (constraint.IsIn place t in_place l) = expr.IsIn place x t in_place (entity l) ∷ []

-- an action in none of no actions
abbrev pub is_in_any : Expr → Place → Place → List EntityLiteral → Expr
is_in_any x place bracket [] = expr.Literal place (literal.Bool false)
is_in_any x place bracket (l ∷ ls) = expr.Binary place In x (expr.Set bracket (map entity (l ∷ ls)))

abbrev pub asked_of_action : Expr → ActionConstraint → List Expr
asked_of_action x action.Any = []
asked_of_action x (action.Equal place l) = equals x place l ∷ []
asked_of_action x (action.In place l) = is_in x place l ∷ []
asked_of_action x (action.InAny place bracket ls) = is_in_any x place bracket ls ∷ []

abbrev pub at : Place → List Expr → List Conjunct
at place xs = map (λ x. (place, x)) xs

-- the scope's part on the variable
abbrev pub scope_part : Variable → Scope → List Conjunct
scope_part x s = at s.place (asked (expr.Variable s.place x) s.constraint)

abbrev pub action_part : ActionScope → List Conjunct
action_part s = at s.place (asked_of_action (expr.Variable s.place Action) s.constraint)

-- what a clause asks of its expression
abbrev pub required : ConditionKind → Place → Expr → Expr
required When place body = body
required Unless place body = expr.Unary place Not body

abbrev pub clause : Condition → Conjunct
clause c = (c.place, required c.kind c.place c.body)

-- what has to be true: the parts of the scope that aren't bare, then what each clause asks
abbrev pub conjuncts : Policy → List Conjunct
conjuncts p =
    scope_part Principal p.principal
    ++ (action_part p.action ++ (scope_part Resource p.resource ++ map clause p.conditions))

abbrev pub joined : Expr → Conjunct → Expr
joined so_far c = expr.And c.0 so_far c.1

-- `true` and then what has to be true, joined by `&&` from left to right
abbrev pub condition : Policy → Expr
condition p = fold joined (truth p.place) (conjuncts p)
