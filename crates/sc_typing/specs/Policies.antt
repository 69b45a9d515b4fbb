-- The condition of a policy in an environment, with its types.
use Rattle.std.specs.Prelude.{[], Result, Ok}
use Rattle.sc_ast.specs.declared.expr.Expr.{Expr, Expr-F, roll-Expr, fold-Expr}
use Rattle.sc_ast.specs.declared.expr.Expr.TheOpen as e
use Rattle.sc_ast.specs.declared.expr.Expr.TheVariants as expr
use Rattle.sc_ast.specs.declared.expr.Variable.{Variable}
use Rattle.sc_ast.specs.declared.expr.Variable.TheVariants.{Principal, Action, Resource, Context}
use Rattle.sc_ast.specs.declared.literal.Literal.TheVariants.{Entity}
use Rattle.sc_ast.specs.declared.place.Place.{Place}
use Rattle.sc_ast.specs.declared.policy.Policy.{Policy}
use Rattle.sc_ast.specs.Conditions.{condition}
use Rattle.sc_names.specs.declared.uid.Uid.{Uid}
use Rattle.sc_schema.specs.declared.declarations.Env.{Env}
use Rattle.sc_schema.specs.Declarations.{Declarations}
use Rattle.sc_typed.specs.declared.fault.TypeFault.{TypeFault}
use Rattle.sc_typed.specs.declared.typed_expr.TypedExpr.{TypedExpr}
use Rattle.sc_typed.specs.Outcomes.{◌>>=◌, as_boolean}
use Rattle.sc_typing.specs.Typing.{typing}

abbrev pub acting_variable : Uid → Place → Variable → Expr
acting_variable u place Principal = expr.Variable place Principal
acting_variable u place Action = expr.Literal place (Entity u)
acting_variable u place Resource = expr.Variable place Resource
acting_variable u place Context = expr.Variable place Context

abbrev pub acting_step : Uid → Expr-F Expr → Expr
acting_step u (e.Variable place x) = acting_variable u place x
acting_step u layer = roll-Expr layer

-- the expression with the action's uid in place of `action`
unfoldable pub acting : Uid → Expr → Expr
acting u = fold-Expr Expr (acting_step u)

-- what a policy asks of the requests of an environment
abbrev pub asked : Env → Policy → Expr
asked env p = acting env.action (condition p)

-- it is typed without capabilities, and has to be Boolean
abbrev pub typed_policy : Declarations → Env → Policy → Result TypedExpr TypeFault
typed_policy s env p = typing s env (asked env p) [] >>= λ x. as_boolean x.expr >>= λ q. Ok x.expr
