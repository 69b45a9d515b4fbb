-- What doesn't stand where a token binds loosely.
use Rattle.std.proofs.Common.{◌≡◌, ℕ, ◌+◌, ◌<◌, ◌≤◌, List, slice_get, codes, refl, ap, ◌∙◌, arith}
use Rattle.std.specs.declared.option.Option.TheVariants.{Some}
use Rattle.sc_ast.specs.declared.place.Place.{Place}
use Rattle.sc_lexer.specs.declared.token.Kind.TheVariants as kind
use Rattle.sc_lexemes.specs.declared.lexeme.Lexeme.{Lexeme}
use Rattle.sc_lexemes.specs.declared.lexeme.Shape.{Shape}
use Rattle.sc_lexemes.specs.declared.lexeme.Shape.TheVariants.{Word, Sign}
use Rattle.sc_lexemes.specs.declared.operator.Close.{Close}
use Rattle.sc_lexemes.specs.declared.operator.Close.TheVariants as close
use Rattle.sc_lexemes.specs.declared.operator.Level.{Level}
use Rattle.sc_lexemes.specs.declared.operator.Operator.{Operator}
use Rattle.sc_lexemes.specs.Lexemes.{Is, Lacks, IsOperator, closing}
use Rattle.sc_lexemes.specs.Tables.{operator_of, level_of}
use Rattle.sc_parser.proofs.Strength.{rank_of, strength_by, strength_of, strength_at, Weak}

-- ---- the strength of tokens

strength_has : strength_of (Word (codes "has")) ≡ 3
unfolding operator_of
strength_has = refl

strength_like : strength_of (Word (codes "like")) ≡ 3
unfolding operator_of
strength_like = refl

strength_is : strength_of (Word (codes "is")) ≡ 3
unfolding operator_of
strength_is = refl

strength_in : strength_of (Word (codes "in")) ≡ 3
unfolding operator_of
strength_in = refl

strength_equal : strength_of (Sign kind.Equal) ≡ 3
unfolding operator_of
strength_equal = refl

strength_dot : strength_of (Sign kind.Dot) ≡ 6
unfolding operator_of
strength_dot = refl

strength_open_bracket : strength_of (Sign kind.OpenBracket) ≡ 6
unfolding operator_of
strength_open_bracket = refl

strength_open_parenthesis : strength_of (Sign kind.OpenParenthesis) ≡ 6
unfolding operator_of
strength_open_parenthesis = refl

strength_double_colon : strength_of (Sign kind.DoubleColon) ≡ 6
unfolding operator_of
strength_double_colon = refl

strength_comma : strength_of (Sign kind.Comma) ≡ 0
unfolding operator_of
strength_comma = refl

strength_close_parenthesis : strength_of (Sign kind.CloseParenthesis) ≡ 0
unfolding operator_of
strength_close_parenthesis = refl

strength_close_bracket : strength_of (Sign kind.CloseBracket) ≡ 0
unfolding operator_of
strength_close_bracket = refl

strength_close_brace : strength_of (Sign kind.CloseBrace) ≡ 0
unfolding operator_of
strength_close_brace = refl

strength_then : strength_of (Word (codes "then")) ≡ 0
unfolding operator_of
strength_then = refl

strength_else : strength_of (Word (codes "else")) ≡ 0
unfolding operator_of
strength_else = refl

strength_closing : (c : Close) → strength_of (closing c) ≡ 0
strength_closing close.Then = strength_then
strength_closing close.Else = strength_else
strength_closing close.Parenthesis = strength_close_parenthesis
strength_closing close.Bracket = strength_close_bracket
strength_closing close.Brace = strength_close_brace

strength_operator : (c : Shape) {r : Operator} → operator_of c ≡ Some r → strength_of c ≡ rank_of (level_of r)
strength_operator c h = ap (λ o. strength_by o c) h

strength_told : (ts : List Lexeme) (i : ℕ) {p : Place} {c : Shape} → Is ts i p c → strength_at (slice_get ts i) ≡ strength_of c
strength_told ts i h = ap strength_at h

strength_there : (ts : List Lexeme) (i : ℕ) {p : Place} {l : Level} {r : Operator} → IsOperator ts i p l r → strength_at (slice_get ts i) ≡ rank_of l
strength_there ts i h = strength_told ts i h.is ∙ strength_operator h.shape h.operator ∙ ap rank_of h.level

-- ---- where a token is weak

pub weaker : {ts : List Lexeme} {i a b : ℕ} → a ≤ b → Weak ts i a → Weak ts i b
weaker l w = record { weak = let v = w.weak in omega (arith, l, v) }

pub weak_told : (ts : List Lexeme) (i b n : ℕ) {p : Place} {c : Shape} → strength_of c ≡ n → n < b → Is ts i p c → Weak ts i b
weak_told ts i b n e l h = record { weak = let f = strength_told ts i h in omega (arith, e, l, f) }

pub weak_closing : (ts : List Lexeme) (i : ℕ) {p : Place} (c : Close) → Is ts i p (closing c) → Weak ts i 1
weak_closing ts i c h = weak_told ts i 1 0 (strength_closing c) (omega arith) h

pub weak_comma : (ts : List Lexeme) (i : ℕ) {p : Place} → Is ts i p (Sign kind.Comma) → Weak ts i 1
weak_comma ts i h = weak_told ts i 1 0 strength_comma (omega arith) h

pub weak_close_parenthesis : (ts : List Lexeme) (i : ℕ) {p : Place} → Is ts i p (Sign kind.CloseParenthesis) → Weak ts i 1
weak_close_parenthesis ts i h = weak_told ts i 1 0 strength_close_parenthesis (omega arith) h

pub weak_close_brace : (ts : List Lexeme) (i : ℕ) {p : Place} → Is ts i p (Sign kind.CloseBrace) → Weak ts i 1
weak_close_brace ts i h = weak_told ts i 1 0 strength_close_brace (omega arith) h

pub weak_has : (ts : List Lexeme) (i : ℕ) {p : Place} → Is ts i p (Word (codes "has")) → Weak ts i 4
weak_has ts i h = weak_told ts i 4 3 strength_has (omega arith) h

pub weak_like : (ts : List Lexeme) (i : ℕ) {p : Place} → Is ts i p (Word (codes "like")) → Weak ts i 4
weak_like ts i h = weak_told ts i 4 3 strength_like (omega arith) h

pub weak_is : (ts : List Lexeme) (i : ℕ) {p : Place} → Is ts i p (Word (codes "is")) → Weak ts i 4
weak_is ts i h = weak_told ts i 4 3 strength_is (omega arith) h

pub weak_operator : (ts : List Lexeme) (i : ℕ) {p : Place} {l : Level} {r : Operator} → IsOperator ts i p l r → Weak ts i (rank_of l + 1)
weak_operator ts i h = record { weak = let e = strength_there ts i h in omega (arith, e) }

-- ---- what doesn't stand there

weak_lacks : (ts : List Lexeme) (i b n : ℕ) {c : Shape} → strength_of c ≡ n → b ≤ n → Weak ts i b → Lacks ts i c
weak_lacks ts i b n e l w p h = let f = strength_told ts i h in let v = w.weak in omega (arith, e, l, f, v)

pub lacks_operator : (ts : List Lexeme) (i : ℕ) (l : Level) → Weak ts i (rank_of l) → (x : Place × Operator) → IsOperator ts i x.0 l x.1 → ⊥
lacks_operator ts i l w x h = let e = strength_there ts i h in let v = w.weak in omega (arith, e, v)

pub lacks_has : (ts : List Lexeme) (i : ℕ) → Weak ts i 3 → Lacks ts i (Word (codes "has"))
lacks_has ts i w = weak_lacks ts i 3 3 strength_has (omega arith) w

pub lacks_like : (ts : List Lexeme) (i : ℕ) → Weak ts i 3 → Lacks ts i (Word (codes "like"))
lacks_like ts i w = weak_lacks ts i 3 3 strength_like (omega arith) w

pub lacks_is : (ts : List Lexeme) (i : ℕ) → Weak ts i 3 → Lacks ts i (Word (codes "is"))
lacks_is ts i w = weak_lacks ts i 3 3 strength_is (omega arith) w

pub lacks_in : (ts : List Lexeme) (i : ℕ) → Weak ts i 3 → Lacks ts i (Word (codes "in"))
lacks_in ts i w = weak_lacks ts i 3 3 strength_in (omega arith) w

pub lacks_equal : (ts : List Lexeme) (i : ℕ) → Weak ts i 3 → Lacks ts i (Sign kind.Equal)
lacks_equal ts i w = weak_lacks ts i 3 3 strength_equal (omega arith) w

pub lacks_dot : (ts : List Lexeme) (i : ℕ) → Weak ts i 6 → Lacks ts i (Sign kind.Dot)
lacks_dot ts i w = weak_lacks ts i 6 6 strength_dot (omega arith) w

pub lacks_bracket : (ts : List Lexeme) (i : ℕ) → Weak ts i 6 → Lacks ts i (Sign kind.OpenBracket)
lacks_bracket ts i w = weak_lacks ts i 6 6 strength_open_bracket (omega arith) w

pub lacks_parenthesis : (ts : List Lexeme) (i : ℕ) → Weak ts i 6 → Lacks ts i (Sign kind.OpenParenthesis)
lacks_parenthesis ts i w = weak_lacks ts i 6 6 strength_open_parenthesis (omega arith) w

pub lacks_colons : (ts : List Lexeme) (i : ℕ) → Weak ts i 6 → Lacks ts i (Sign kind.DoubleColon)
lacks_colons ts i w = weak_lacks ts i 6 6 strength_double_colon (omega arith) w
