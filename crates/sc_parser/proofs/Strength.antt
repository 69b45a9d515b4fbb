-- How tightly a token binds what stands behind it to what stands before it, where it can at all.
use Rattle.std.specs.Prelude.{ℕ, ◌<◌, ◌||◌, List, slice_get, codes, if◌then◌else◌}
use Rattle.std.specs.Str.{bytes_eq}
use Rattle.std.specs.declared.option.Option.{Option}
use Rattle.std.specs.declared.option.Option.TheVariants.{Some, None}
use Rattle.sc_lexer.specs.declared.token.Kind.{Kind}
use Rattle.sc_lexer.specs.declared.token.Kind.TheVariants as kind
use Rattle.sc_lexemes.specs.declared.lexeme.Lexeme.{Lexeme}
use Rattle.sc_lexemes.specs.declared.lexeme.Shape.{Shape}
use Rattle.sc_lexemes.specs.declared.lexeme.Shape.TheVariants.{Word, Number, String, Sign}
use Rattle.sc_lexemes.specs.declared.operator.Level.{Level}
use Rattle.sc_lexemes.specs.declared.operator.Level.TheVariants as level
use Rattle.sc_lexemes.specs.declared.operator.Operator.{Operator}
use Rattle.sc_lexemes.specs.Tables.{operator_of, level_of}

abbrev pub rank_of : Level → ℕ
rank_of level.Or = 1
rank_of level.And = 2
rank_of level.Relation = 3
rank_of level.Add = 4
rank_of level.Multiply = 5

abbrev pub strength_of_word : List ℕ → ℕ
strength_of_word w = if bytes_eq w (codes "has") || bytes_eq w (codes "like") || bytes_eq w (codes "is") then 3 else 0

abbrev pub strength_of_sign : Kind → ℕ
strength_of_sign kind.Dot = 6
strength_of_sign kind.OpenBracket = 6
strength_of_sign kind.OpenParenthesis = 6
strength_of_sign kind.DoubleColon = 6
strength_of_sign _ = 0

-- of a token that is no operator
abbrev pub strength_alone : Shape → ℕ
strength_alone (Word w) = strength_of_word w
strength_alone (Number digits) = 0
strength_alone (String text parts) = 0
strength_alone (Sign k) = strength_of_sign k

abbrev pub strength_by : Option Operator → Shape → ℕ
strength_by (Some r) c = rank_of (level_of r)
strength_by None c = strength_alone c

abbrev pub strength_of : Shape → ℕ
strength_of c = strength_by (operator_of c) c

abbrev pub strength_at : Option Lexeme → ℕ
strength_at None = 0
strength_at (Some l) = strength_of l.shape

-- the token at a place binds less tightly than this
pub record Weak (ts : List Lexeme) (i b : ℕ) : Type 0 where
  pub weak : strength_at (slice_get ts i) < b
