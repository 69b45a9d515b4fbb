-- Which of several signs, operators and words there is: each question about one has an answer.
use Rattle.std.proofs.Common.{◌≡◌, ◌⊎◌, inl, inr, ◌==◌, ℕ, List, if◌then◌else◌, eqb-true, refl, sym, ap, ◌∙◌}
use Rattle.std.specs.Str.{bytes_eq}
use Rattle.std.proofs.lemmas.Bool.{cases_Bool}
use Rattle.std.proofs.lemmas.Bool.Decides.{Decides-eqb}
use Rattle.std.proofs.lemmas.Slice.Eq.{bytes_eq-Decides}
use Rattle.sc_laws.proofs.BoolLaws.{never}
use Rattle.sc_ast.specs.declared.operator.UnaryOperator.{UnaryOperator}
use Rattle.sc_ast.specs.declared.operator.UnaryOperator.TheVariants as unary
use Rattle.sc_lexer.specs.declared.token.Kind.{Kind}
use Rattle.sc_lexer.specs.declared.token.Kind.TheVariants as kind
use Rattle.sc_lexemes.specs.declared.operator.Level.{Level}
use Rattle.sc_lexemes.specs.declared.operator.Level.TheVariants as level

-- ---- kinds of tokens

abbrev kind_code : Kind → ℕ
kind_code kind.Word = 0
kind_code kind.Number = 1
kind_code kind.Str = 2
kind_code kind.DoubleColon = 3
kind_code kind.And = 4
kind_code kind.Or = 5
kind_code kind.Equal = 6
kind_code kind.NotEqual = 7
kind_code kind.LessOrEqual = 8
kind_code kind.GreaterOrEqual = 9
kind_code kind.Less = 10
kind_code kind.Greater = 11
kind_code kind.Plus = 12
kind_code kind.Minus = 13
kind_code kind.Star = 14
kind_code kind.Not = 15
kind_code kind.Dot = 16
kind_code kind.Comma = 17
kind_code kind.Semicolon = 18
kind_code kind.Colon = 19
kind_code kind.OpenParenthesis = 20
kind_code kind.CloseParenthesis = 21
kind_code kind.OpenBracket = 22
kind_code kind.CloseBracket = 23
kind_code kind.OpenBrace = 24
kind_code kind.CloseBrace = 25
kind_code kind.At = 26
kind_code kind.Question = 27

abbrev kind_of : ℕ → Kind
kind_of n =
    if n == 0 then kind.Word
    else (if n == 1 then kind.Number
    else (if n == 2 then kind.Str
    else (if n == 3 then kind.DoubleColon
    else (if n == 4 then kind.And
    else (if n == 5 then kind.Or
    else (if n == 6 then kind.Equal
    else (if n == 7 then kind.NotEqual
    else (if n == 8 then kind.LessOrEqual
    else (if n == 9 then kind.GreaterOrEqual
    else (if n == 10 then kind.Less
    else (if n == 11 then kind.Greater
    else (if n == 12 then kind.Plus
    else (if n == 13 then kind.Minus
    else (if n == 14 then kind.Star
    else (if n == 15 then kind.Not
    else (if n == 16 then kind.Dot
    else (if n == 17 then kind.Comma
    else (if n == 18 then kind.Semicolon
    else (if n == 19 then kind.Colon
    else (if n == 20 then kind.OpenParenthesis
    else (if n == 21 then kind.CloseParenthesis
    else (if n == 22 then kind.OpenBracket
    else (if n == 23 then kind.CloseBracket
    else (if n == 24 then kind.OpenBrace
    else (if n == 25 then kind.CloseBrace
    else (if n == 26 then kind.At
    else kind.Question))))))))))))))))))))))))))

kind_told : (k : Kind) → kind_of (kind_code k) ≡ k
kind_told kind.Word = refl
kind_told kind.Number = refl
kind_told kind.Str = refl
kind_told kind.DoubleColon = refl
kind_told kind.And = refl
kind_told kind.Or = refl
kind_told kind.Equal = refl
kind_told kind.NotEqual = refl
kind_told kind.LessOrEqual = refl
kind_told kind.GreaterOrEqual = refl
kind_told kind.Less = refl
kind_told kind.Greater = refl
kind_told kind.Plus = refl
kind_told kind.Minus = refl
kind_told kind.Star = refl
kind_told kind.Not = refl
kind_told kind.Dot = refl
kind_told kind.Comma = refl
kind_told kind.Semicolon = refl
kind_told kind.Colon = refl
kind_told kind.OpenParenthesis = refl
kind_told kind.CloseParenthesis = refl
kind_told kind.OpenBracket = refl
kind_told kind.CloseBracket = refl
kind_told kind.OpenBrace = refl
kind_told kind.CloseBrace = refl
kind_told kind.At = refl
kind_told kind.Question = refl

pub kind_or : (j k : Kind) → (j ≡ k) ⊎ (j ≡ k → ⊥)
kind_or j k = elim (cases_Bool (kind_code j == kind_code k)) [
  | inl same ↦ inl (sym (kind_told j) ∙ ap kind_of (eqb-true (kind_code j) (kind_code k) same) ∙ kind_told k)
  | inr differ ↦ inr (λ e. never ⊥ (sym ((Decides-eqb (kind_code j) (kind_code k)).1 (ap kind_code e)) ∙ differ))
]

-- ---- operators with one operand

abbrev unary_code : UnaryOperator → ℕ
unary_code unary.Not = 0
unary_code unary.Negate = 1
unary_code unary.IsEmpty = 2
unary_code unary.IsIpv4 = 3
unary_code unary.IsIpv6 = 4
unary_code unary.IsLoopback = 5
unary_code unary.IsMulticast = 6
unary_code unary.Decimal = 7
unary_code unary.Ip = 8

abbrev unary_of : ℕ → UnaryOperator
unary_of n =
    if n == 0 then unary.Not
    else (if n == 1 then unary.Negate
    else (if n == 2 then unary.IsEmpty
    else (if n == 3 then unary.IsIpv4
    else (if n == 4 then unary.IsIpv6
    else (if n == 5 then unary.IsLoopback
    else (if n == 6 then unary.IsMulticast
    else (if n == 7 then unary.Decimal
    else unary.Ip)))))))

unary_told : (k : UnaryOperator) → unary_of (unary_code k) ≡ k
unary_told unary.Not = refl
unary_told unary.Negate = refl
unary_told unary.IsEmpty = refl
unary_told unary.IsIpv4 = refl
unary_told unary.IsIpv6 = refl
unary_told unary.IsLoopback = refl
unary_told unary.IsMulticast = refl
unary_told unary.Decimal = refl
unary_told unary.Ip = refl

pub unary_or : (j k : UnaryOperator) → (j ≡ k) ⊎ (j ≡ k → ⊥)
unary_or j k = elim (cases_Bool (unary_code j == unary_code k)) [
  | inl same ↦ inl (sym (unary_told j) ∙ ap unary_of (eqb-true (unary_code j) (unary_code k) same) ∙ unary_told k)
  | inr differ ↦ inr (λ e. never ⊥ (sym ((Decides-eqb (unary_code j) (unary_code k)).1 (ap unary_code e)) ∙ differ))
]

-- ---- levels of operators

abbrev level_code : Level → ℕ
level_code level.Or = 0
level_code level.And = 1
level_code level.Relation = 2
level_code level.Add = 3
level_code level.Multiply = 4

abbrev level_of : ℕ → Level
level_of n =
    if n == 0 then level.Or
    else (if n == 1 then level.And
    else (if n == 2 then level.Relation
    else (if n == 3 then level.Add
    else level.Multiply)))

level_told : (k : Level) → level_of (level_code k) ≡ k
level_told level.Or = refl
level_told level.And = refl
level_told level.Relation = refl
level_told level.Add = refl
level_told level.Multiply = refl

pub level_or : (j k : Level) → (j ≡ k) ⊎ (j ≡ k → ⊥)
level_or j k = elim (cases_Bool (level_code j == level_code k)) [
  | inl same ↦ inl (sym (level_told j) ∙ ap level_of (eqb-true (level_code j) (level_code k) same) ∙ level_told k)
  | inr differ ↦ inr (λ e. never ⊥ (sym ((Decides-eqb (level_code j) (level_code k)).1 (ap level_code e)) ∙ differ))
]

-- ---- texts

pub text_or : (v w : List ℕ) → (v ≡ w) ⊎ (v ≡ w → ⊥)
text_or v w = elim (cases_Bool (bytes_eq v w)) [
  | inl same ↦ inl ((bytes_eq-Decides v w).0 same)
  | inr differ ↦ inr (λ e. never ⊥ (sym ((bytes_eq-Decides v w).1 e) ∙ differ))
]
