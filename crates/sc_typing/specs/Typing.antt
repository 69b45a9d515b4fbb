-- The type of an expression under capabilities, and the capabilities that it gives where it is true, by the rules of
-- its constructs.
use Rattle.std.specs.Prelude.{[]}
use Rattle.sc_ast.specs.declared.expr.Expr.{Expr, Expr-F, roll-Expr, map-Expr, fold-Expr}
use Rattle.sc_ast.specs.declared.expr.Expr.TheOpen as e
use Rattle.sc_ast.specs.declared.expr.Variable.{Variable}
use Rattle.sc_ast.specs.declared.literal.Literal.{Literal}
use Rattle.sc_schema.specs.declared.declarations.Env.{Env}
use Rattle.sc_schema.specs.Declarations.{Declarations}
use Rattle.sc_typed.specs.declared.typed_expr.TypedExpr.TheVariants as typed
use Rattle.sc_typed.specs.Outcomes.{gives}
use Rattle.sc_typing_rules.specs.Rules.{Meaning, Operand, choice, either, both, operated, having, matching, tested, tested_in, applied, accessed, set_literal, record_literal, literal_typed, variable_type}

-- one expression, each expression inside it being seen as an operand
abbrev pub typing_step : Declarations → Env → Expr-F Operand → Meaning
typing_step s env (e.If place c a b) known = choice place c a b known
typing_step s env (e.Or place a b) known = either place a b known
typing_step s env (e.And place a b) known = both place a b known
typing_step s env (e.Binary place operator a b) known = operated s place operator a b known
typing_step s env (e.Has place a names) known = having s place names a known
typing_step s env (e.Like place a pattern) known = matching place pattern a known
typing_step s env (e.Is place a type_name) known = tested place type_name a known
typing_step s env (e.IsIn place a type_name in_place b) known = tested_in s place type_name in_place a b known
typing_step s env (e.Unary place operator a) known = applied place operator a known
typing_step s env (e.Access place a name) known = accessed s place name a known
typing_step s env (e.Literal place l) known = gives (literal_typed s place l) []
typing_step s env (e.Variable place x) known = gives (typed.Variable place (variable_type s env x) x) []
typing_step s env (e.Set place members) known = set_literal place members known
typing_step s env (e.Record place fields) known = record_literal place fields known

-- the expression whose parts are these operands
abbrev pub whole : Expr-F Operand → Expr
whole layer = roll-Expr (map-Expr Operand Expr (λ a. a.expr) layer)

abbrev pub operand_step : Declarations → Env → Expr-F Operand → Operand
operand_step s env layer = record { expr = whole layer; typed = typing_step s env layer }

unfoldable pub operand : Declarations → Env → Expr → Operand
operand s env = fold-Expr Operand (operand_step s env)

-- what an expression gives
abbrev pub typing : Declarations → Env → Expr → Meaning
typing s env x = (operand s env x).typed

-- an expression as an operand
abbrev pub part : Declarations → Env → Expr → Operand
part s env x = record { expr = x; typed = typing s env x }
