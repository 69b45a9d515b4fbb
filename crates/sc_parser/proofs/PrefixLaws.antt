-- Prefixes, and the minus before the digits that are a number of 64 bits with it alone.
use Rattle.std.proofs.Common.{◌≡◌, ℕ, ◌+◌, ◌-◌, ◌<◌, List, true, false, sym, refl}
use Rattle.std.specs.declared.option.Option.TheVariants.{Some}
use Rattle.sc_ast.specs.declared.place.Place.{Place}
use Rattle.sc_ast.specs.declared.expr.Expr.{Expr}
use Rattle.sc_ast.specs.declared.expr.Expr.TheVariants as expr
use Rattle.sc_ast.specs.declared.literal.Literal.TheVariants.{Long}
use Rattle.sc_ast.specs.declared.operator.UnaryOperator.{UnaryOperator}
use Rattle.sc_ast.specs.declared.operator.UnaryOperator.TheVariants.{Negate}
use Rattle.sc_lexer.specs.declared.token.Kind.{Kind}
use Rattle.sc_lexer.specs.declared.token.Kind.TheVariants as kind
use Rattle.sc_lexemes.specs.declared.cursor.Cursor.{Cursor}
use Rattle.sc_lexemes.specs.declared.lexeme.Lexeme.{Lexeme}
use Rattle.sc_lexemes.specs.declared.lexeme.Shape.{Shape}
use Rattle.sc_lexemes.specs.declared.lexeme.Shape.TheVariants.{Word, Number, String, Sign}
use Rattle.sc_lexemes.specs.declared.stop.Stop.{Stop}
use Rattle.sc_lexemes.specs.declared.stop.Stop.TheVariants.{TooDeep}
use Rattle.sc_lexemes.specs.Depth.{fits, next, past}
use Rattle.sc_lexemes.specs.Lexemes.{Is, Lacks, IsPrefix, IsLeast, LacksLeast}
use Rattle.sc_lexemes.specs.Outcomes.{Outcome, read, halt}
use Rattle.sc_parser.specs.Reads.{ReadsPrefixes, ReadsAccesses, least, least_deep, prefix, prefix_halts}
use Rattle.sc_lexemes.specs.Tables.{prefix_of, prefix_of_sign, least_digits, least_long}

minus_sign : (k : Kind) → prefix_of_sign k ≡ Some Negate → k ≡ kind.Minus
minus_sign kind.Minus e = refl
minus_sign _ e = cc

minus_shape : (c : Shape) → prefix_of c ≡ Some Negate → c ≡ Sign kind.Minus
unfolding prefix_of
minus_shape (Word w) e = cc
minus_shape (Number ds) e = cc
minus_shape (String t ps) e = cc
minus_shape (Sign k) e = let m = minus_sign k e in cc

is_minus : (ts : List Lexeme) (i : ℕ) (p : Place) → IsPrefix ts i p Negate → Is ts i p (Sign kind.Minus)
is_minus ts i p x = let m = minus_shape x.shape x.operator in let is = x.is in cc

is_least : (ts : List Lexeme) (i : ℕ) (p q : Place) (r : UnaryOperator) → IsPrefix ts i p r → r ≡ Negate → Is ts (i + 1) q (Number least_digits) → IsLeast ts i p
is_least ts i p q r x e d = let y : IsPrefix ts i p Negate = rw (sym e) x in record { minus = is_minus ts i p y; place = q; digits = d }

-- the number, and the cursor behind each token, are given by equations
pub least_read : {ts : List Lexeme} {r : UnaryOperator} {m : ℕ} {s t u : Cursor} {p q : Place} {a : Expr} {o : Outcome Expr} → 0 < m → IsPrefix ts s.at p r → fits s ≡ true → t ≡ past s → r ≡ Negate → Is ts t.at q (Number least_digits) → fits t ≡ true → u ≡ next t → a ≡ expr.Literal p (Long least_long) → ReadsAccesses ts u a o → ReadsPrefixes ts r m s o
least_read {ts = ts} {r = r} {m = m} {s = s} {p = p} {q = q} {o = o} lt x f past_is e d g next_is is y =
    let d' : Is ts (s.at + 1) q (Number least_digits) = rw past_is at d in
    let g' : fits (past s) ≡ true = rw past_is at g in
    let y' : ReadsAccesses ts (next (past s)) (expr.Literal p (Long least_long)) o = rw (next_is, past_is, is) at y in
    rw e (least lt (is_least ts s.at p q r x e d') f g' y')

pub least_refused : {ts : List Lexeme} {r : UnaryOperator} {m : ℕ} {s t : Cursor} {p q : Place} → 0 < m → IsPrefix ts s.at p r → fits s ≡ true → t ≡ past s → r ≡ Negate → Is ts t.at q (Number least_digits) → fits t ≡ false → ReadsPrefixes ts r m s (halt TooDeep t.at)
least_refused {ts = ts} {r = r} {m = m} {s = s} {p = p} {q = q} lt x f past_is e d g =
    let d' : Is ts (s.at + 1) q (Number least_digits) = rw past_is at d in
    let g' : fits (past s) ≡ false = rw past_is at g in
    rw (e, past_is) (least_deep lt (is_least ts s.at p q r x e d') f g')

pub prefix_read : {ts : List Lexeme} {r : UnaryOperator} {m : ℕ} {s t u : Cursor} {p : Place} {x y : Expr} → 0 < m → IsPrefix ts s.at p r → fits s ≡ true → t ≡ past s → (r ≡ Negate → Lacks ts t.at (Number least_digits)) → ReadsPrefixes ts r (m - 1) t (read x u) → y ≡ expr.Unary p r x → ReadsPrefixes ts r m s (read y u)
prefix_read {ts = ts} {r = r} {m = m} {s = s} {u = u} {x = x} lt h f past_is l k is =
    let l' : LacksLeast ts s.at r = rw past_is at l in
    let k' : ReadsPrefixes ts r (m - 1) (past s) (read x u) = rw past_is at k in
    rw is (prefix lt h f l' k')

pub prefix_refused : {ts : List Lexeme} {r : UnaryOperator} {m n : ℕ} {s t : Cursor} {p : Place} {f : Stop} → 0 < m → IsPrefix ts s.at p r → fits s ≡ true → t ≡ past s → (r ≡ Negate → Lacks ts t.at (Number least_digits)) → ReadsPrefixes ts r (m - 1) t (halt f n) → ReadsPrefixes ts r m s (halt f n)
prefix_refused {ts = ts} {r = r} {m = m} {n = n} {s = s} {f = f} lt h fit past_is l k =
    let l' : LacksLeast ts s.at r = rw past_is at l in
    let k' : ReadsPrefixes ts r (m - 1) (past s) (halt f n) = rw past_is at k in
    prefix_halts lt h fit l' k'
