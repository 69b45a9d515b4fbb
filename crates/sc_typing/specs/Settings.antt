-- What private clauses speak of: expressions in a setting, and parts of rules.
use Rattle.std.specs.Prelude.{[], ◌++◌, Result, Ok}
use Rattle.sc_ast.specs.declared.expr.Expr.{Expr}
use Rattle.sc_ast.specs.declared.expr.TypeName.{TypeName}
use Rattle.sc_ast.specs.declared.place.Place.{Place}
use Rattle.sc_schema.specs.Declarations.{Declarations}
use Rattle.sc_typed.specs.declared.fault.TypeFault.{TypeFault}
use Rattle.sc_typed.specs.declared.outcome.Typed.{Typed}
use Rattle.sc_typed.specs.declared.typed_expr.TypedExpr.{TypedExpr}
use Rattle.sc_typed.specs.declared.typed_expr.TypedExpr.TheVariants as typed
use Rattle.sc_typed.specs.Outcomes.{Outcome, ◌>>=◌, gives, as_boolean}
use Rattle.sc_typing_rules.specs.declared.setting.Setting.{Setting}
use Rattle.sc_typing_rules.specs.Rules.{Meaning, Operand, first_branch, second_branch, branches, membership}
use Rattle.sc_typing.specs.Typing.{typing, part}

-- an expression as an operand
abbrev pub seen : Setting → Expr → Operand
seen c x = part c.schema.now c.env.now x

-- what an expression gives in the setting
abbrev pub typed_in : Setting → Expr → Outcome
typed_in c x = typing c.schema.now c.env.now x c.known.now

-- an expression that has to be Boolean
abbrev pub condition_in : Setting → Expr → Result TypedExpr TypeFault
condition_in c x = typed_in c x >>= λ t. as_boolean t.expr >>= λ q. Ok t.expr

-- ---- parts of rules

-- `if c then a else b` where c is true
abbrev pub choice_first : Place → Typed → Operand → Expr → Meaning
choice_first place x a b known = a.typed (known ++ x.given) >>= λ y. Ok (first_branch place x y b)

-- where c is false
abbrev pub choice_second : Place → Typed → Expr → Operand → Meaning
choice_second place x a b known = b.typed known >>= λ z. Ok (second_branch place x a z)

-- where c may be true or false, of c and of a with their types
abbrev pub choice_rest : Place → Typed → Typed → Operand → Meaning
choice_rest place x y b known = b.typed known >>= λ z. branches place x y z

-- `a is T in b` where a is of the type T
abbrev pub tested_among : Declarations → Place → TypeName → Place → Expr → TypedExpr → Operand → Meaning
tested_among s place t in_place a x b known =
    membership s a b known x >>= λ y. gives (typed.IsIn place y.0 x t in_place y.1) []
