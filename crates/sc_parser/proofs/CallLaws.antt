-- The call of a function, where the cursor behind each token is given by an equation.
use Rattle.std.proofs.Common.{◌≡◌, ◌∙◌, ℕ, List, [], None, true, sym}
use Rattle.std.specs.declared.option.Option.{Option}
use Rattle.sc_ast.specs.declared.place.Place.{Place}
use Rattle.sc_ast.specs.declared.expr.Expr.{Expr}
use Rattle.sc_lexer.specs.declared.token.Kind.TheVariants as kind
use Rattle.sc_lexemes.specs.declared.cursor.Cursor.{Cursor}
use Rattle.sc_lexemes.specs.declared.lexeme.Lexeme.{Lexeme}
use Rattle.sc_lexemes.specs.declared.lexeme.Shape.TheVariants.{Sign}
use Rattle.sc_lexemes.specs.declared.operator.Close.TheVariants.{Parenthesis}
use Rattle.sc_lexemes.specs.declared.stop.Stop.{Stop}
use Rattle.sc_lexemes.specs.declared.stop.Stop.TheVariants.{BadCall}
use Rattle.sc_lexemes.specs.Depth.{fits, next}
use Rattle.sc_lexemes.specs.Lexemes.{Is, IsIdent}
use Rattle.sc_lexemes.specs.Outcomes.{read, halt}
use Rattle.sc_parser.specs.Reads.{ReadsItems, ReadsPrimary, function_halts, no_function}
use Rattle.sc_lexemes.specs.Tables.{variable_of, applied}

pub arguments_refused : {ts : List Lexeme} {s t u : Cursor} {p q : Place} {w : List ℕ} {f : Stop} {n : ℕ} → IsIdent ts s.at p w → variable_of w ≡ None → fits s ≡ true → t ≡ next s → Is ts t.at q (Sign kind.OpenParenthesis) → u ≡ next t → ReadsItems ts Parenthesis u [] (halt f n) → ReadsPrimary ts s (halt f n)
arguments_refused {ts = ts} {s = s} {q = q} {f = f} {n = n} h v fit a is b k =
    let is' : Is ts (next s).at q (Sign kind.OpenParenthesis) = rw a at is in
    let k' : ReadsItems ts Parenthesis (next (next s)) [] (halt f n) = rw (b, a) at k in
    function_halts h v fit is' k'

-- there is no function of this name with so many arguments
pub call_refused : {ts : List Lexeme} {s t u v : Cursor} {p q : Place} {w : List ℕ} {xs : List Expr} {o : Option Expr} → IsIdent ts s.at p w → variable_of w ≡ None → fits s ≡ true → t ≡ next s → Is ts t.at q (Sign kind.OpenParenthesis) → u ≡ next t → ReadsItems ts Parenthesis u [] (read xs v) → o ≡ applied p w xs → o ≡ None → ReadsPrimary ts s (halt BadCall v.at)
call_refused {ts = ts} {s = s} {v = v} {q = q} {xs = xs} h free fit a is b k made none =
    let is' : Is ts (next s).at q (Sign kind.OpenParenthesis) = rw a at is in
    let k' : ReadsItems ts Parenthesis (next (next s)) [] (read xs v) = rw (b, a) at k in
    no_function h free fit is' k' (sym made ∙ none)
