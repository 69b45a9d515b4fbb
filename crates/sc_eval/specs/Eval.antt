-- The value of an expression in a world: operands from left to right, the first error stands. The operands of `&&`,
-- `||` and `if` that are evaluated are asked to be Bools as they come; the kinds of other operands are asked for once
-- all are evaluated.
use Rattle.std.specs.Prelude.{ℕ, List, [], ◌∷◌, true, false, if◌then◌else◌, Result, Ok}
use Rattle.sc_ast.specs.declared.expr.Expr.{Expr, Expr-F, fold-Expr}
use Rattle.sc_ast.specs.declared.expr.Expr.TheOpen as e
use Rattle.sc_ast.specs.declared.operator.BinaryOperator.{BinaryOperator}
use Rattle.sc_ast.specs.declared.operator.UnaryOperator.{UnaryOperator}
use Rattle.sc_pattern.specs.declared.part.Part.{Part}
use Rattle.sc_values.specs.declared.value.Value.{Value}
use Rattle.sc_values.specs.Records.{Fields}
use Rattle.sc_world.specs.declared.world.World.{World}
use Rattle.sc_eval.specs.declared.error.EvalError.{EvalError}
use Rattle.sc_eval.specs.Outcomes.{Outcome, ◌>>=◌, decide, of_bool}
use Rattle.sc_eval.specs.Entities.{access, has_path, is_of, is_in}
use Rattle.sc_eval.specs.Collections.{set_value, record_value}
use Rattle.sc_eval.specs.Operators.{binary, unary, is_like, literal_value, variable_value}

-- what an expression is worth in each world
abbrev pub Meaning : Type 0
Meaning = World → Outcome

-- ---- each construct, its parts being seen as their meanings

-- `if c then a else b`
abbrev pub choice : Meaning → Meaning → Meaning → Meaning
choice c a b w = decide (c w) (λ p. if p then a w else b w)

-- `a || b`
abbrev pub either : Meaning → Meaning → Meaning
either a b w = decide (a w) (λ p. if p then of_bool true else decide (b w) of_bool)

-- `a && b`
abbrev pub both : Meaning → Meaning → Meaning
both a b w = decide (a w) (λ p. if p then decide (b w) of_bool else of_bool false)

-- an operator with two operands
abbrev pub operated : BinaryOperator → Meaning → Meaning → Meaning
operated operator a b w = a w >>= λ x. b w >>= λ y. binary operator w x y

-- `a has b.c.d`
abbrev pub having : List (List ℕ) → Meaning → Meaning
having names a w = a w >>= has_path names w >>= of_bool

-- `a like "pattern"`
abbrev pub matching : List Part → Meaning → Meaning
matching pattern a w = a w >>= is_like pattern >>= of_bool

-- `a is T`
abbrev pub typed : List ℕ → Meaning → Meaning
typed name a w = a w >>= is_of name >>= of_bool

-- `a is T in b`
abbrev pub typed_in : List ℕ → Meaning → Meaning → Meaning
typed_in name a b w = a w >>= λ x. is_of name x >>= λ p. if p then (b w >>= is_in w x >>= of_bool) else of_bool false

-- an operator with one operand
abbrev pub applied : UnaryOperator → Meaning → Meaning
applied operator a w = a w >>= unary operator

-- `a.name`
abbrev pub accessed : List ℕ → Meaning → Meaning
accessed name a w = a w >>= access name w

-- the values of members, from left to right
abbrev pub all_values : List Meaning → World → Result (List Value) EvalError
all_values [] w = Ok []
all_values (x ∷ xs) w = x w >>= λ y. all_values xs w >>= λ ys. Ok (y ∷ ys)

-- `[a, b]`
abbrev pub set_literal : List Meaning → Meaning
set_literal members w = all_values members w >>= λ ys. Ok (set_value ys)

-- the values of fields, from left to right
abbrev pub all_fields : List (List ℕ × Meaning) → World → Result Fields EvalError
all_fields [] w = Ok []
all_fields (f ∷ fs) w = f.1 w >>= λ y. all_fields fs w >>= λ gs. Ok ((f.0, y) ∷ gs)

-- `{a: x, b: y}`
abbrev pub record_literal : List (List ℕ × Meaning) → Meaning
record_literal fields w = all_fields fields w >>= λ gs. Ok (record_value gs)

-- ---- all expressions

-- one expression, each expression inside it being seen as its meaning
abbrev pub eval_step : Expr-F Meaning → Meaning
eval_step (e.If place c a b) w = choice c a b w
eval_step (e.Or place a b) w = either a b w
eval_step (e.And place a b) w = both a b w
eval_step (e.Binary place operator a b) w = operated operator a b w
eval_step (e.Has place a names) w = having names a w
eval_step (e.Like place a pattern) w = matching pattern a w
eval_step (e.Is place a type_name) w = typed type_name.name a w
eval_step (e.IsIn place a type_name in_place b) w = typed_in type_name.name a b w
eval_step (e.Unary place operator a) w = applied operator a w
eval_step (e.Access place a name) w = accessed name a w
eval_step (e.Literal place l) w = Ok (literal_value l)
eval_step (e.Variable place x) w = Ok (variable_value x w.request)
eval_step (e.Set place members) w = set_literal members w
eval_step (e.Record place fields) w = record_literal fields w

unfoldable pub eval : Expr → World → Outcome
eval = fold-Expr Meaning eval_step
