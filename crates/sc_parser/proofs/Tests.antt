-- What reading asks of the token at hand, or of what is known already, and what the answer tells.
use Rattle.std.specs.Prelude.{◌≡◌, ℕ, List, slice_get}
use Rattle.std.specs.declared.option.Option.{Option}
use Rattle.std.specs.declared.option.Option.TheVariants.{Some, None}
use Rattle.sc_pattern.specs.declared.part.Part.{Part}
use Rattle.sc_ast.specs.declared.place.Place.{Place}
use Rattle.sc_ast.specs.declared.expr.Expr.{Expr}
use Rattle.sc_ast.specs.declared.expr.Variable.{Variable}
use Rattle.sc_ast.specs.declared.operator.UnaryOperator.{UnaryOperator}
use Rattle.sc_ast.specs.declared.operator.UnaryOperator.TheVariants as unary
use Rattle.sc_ast.specs.declared.policy.Effect.{Effect}
use Rattle.sc_ast.specs.declared.policy.ConditionKind.{ConditionKind}
use Rattle.sc_lexemes.specs.declared.lexeme.Lexeme.{Lexeme}
use Rattle.sc_lexemes.specs.declared.lexeme.Shape.{Shape}
use Rattle.sc_lexemes.specs.declared.lexeme.Shape.TheVariants as shape
use Rattle.sc_lexemes.specs.declared.operator.Level.{Level}
use Rattle.sc_lexemes.specs.declared.operator.Operator.{Operator}
use Rattle.sc_lexemes.specs.Lexemes.{Is, IsIdent, IsOperator, IsPrefix, IsStart, IsEffect, IsClause, IsPolicyStart}
use Rattle.sc_lexemes.specs.Tables.{least_digits, variable_of}

pub data Test : Type 0 where
  shaped : Shape → Test
  word number string ident : Test
  operator : Level → Test
  prefix : Test
  this_prefix least : UnaryOperator → Test
  start effect clause policy_start end : Test
  is_zero : ℕ → Test
  call : Option Expr → Test
  variable : List ℕ → Test

abbrev pub Found : Test → Type 0
Found (shaped c) = Place
Found word = Place × List ℕ
Found number = Place × List ℕ
Found string = Place × List ℕ × List Part
Found ident = Place × List ℕ
Found (operator l) = Place × Operator
Found prefix = Place × UnaryOperator
Found (this_prefix r) = Place
Found (least r) = Unit {0}
Found start = Unit {0}
Found effect = Place × Effect
Found clause = Place × ConditionKind
Found policy_start = Unit {0}
Found end = Unit {0}
Found (is_zero n) = Unit {0}
Found (call x) = Expr
Found (variable w) = Variable

-- the test is met at a place, and tells this
abbrev pub Meets : List Lexeme → ℕ → (q : Test) → Found q → Type 0
Meets ts i (shaped c) p = Is ts i p c
Meets ts i word x = Is ts i x.0 (shape.Word x.1)
Meets ts i number x = Is ts i x.0 (shape.Number x.1)
Meets ts i string x = Is ts i x.0 (shape.String x.1 x.2)
Meets ts i ident x = IsIdent ts i x.0 x.1
Meets ts i (operator l) x = IsOperator ts i x.0 l x.1
Meets ts i prefix x = IsPrefix ts i x.0 x.1
Meets ts i (this_prefix r) p = IsPrefix ts i p r
Meets ts i (least r) x = (r ≡ unary.Negate) × ((p : Place) × Is ts i p (shape.Number least_digits))
Meets ts i start x = IsStart ts i
Meets ts i effect x = IsEffect ts i x.0 x.1
Meets ts i clause x = IsClause ts i x.0 x.1
Meets ts i policy_start x = IsPolicyStart ts i
Meets ts i end x = slice_get ts i ≡ None
Meets ts i (is_zero n) x = n ≡ 0
Meets ts i (call o) x = o ≡ Some x
Meets ts i (variable w) x = variable_of w ≡ Some x
