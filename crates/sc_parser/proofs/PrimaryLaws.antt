-- How the program of primary expressions goes on at each first token.
use Rattle.std.proofs.Common.{◌≡◌, ℕ, List, [], codes, true, false, refl, pos}
use Rattle.sc_pattern.specs.declared.part.Part.{Part}
use Rattle.sc_ast.specs.declared.place.Place.{Place}
use Rattle.sc_ast.specs.declared.expr.Expr.{Expr}
use Rattle.sc_ast.specs.declared.expr.Expr.TheVariants as expr
use Rattle.sc_ast.specs.declared.literal.Literal.TheVariants as literal
use Rattle.std.specs.Str.Parse.{digits_value}
use Rattle.sc_lexer.specs.declared.token.Kind.TheVariants as kind
use Rattle.sc_lexemes.specs.declared.cursor.Cursor.{Cursor}
use Rattle.sc_lexemes.specs.declared.lexeme.Lexeme.{Lexeme}
use Rattle.sc_lexemes.specs.declared.lexeme.Shape.{Shape}
use Rattle.sc_lexemes.specs.declared.lexeme.Shape.TheVariants.{Word, Number, String, Sign}
use Rattle.sc_lexemes.specs.declared.operator.Close.TheVariants as close
use Rattle.sc_lexemes.specs.declared.stop.Stop.TheVariants as stop
use Rattle.sc_lexemes.specs.Depth.{next}
use Rattle.sc_lexemes.specs.Lexemes.{Is, IsIdent, IsStart}
use Rattle.sc_parser.specs.Limits.{Limits, Fits}
use Rattle.sc_lexemes.specs.Outcomes.{Outcome}
use Rattle.sc_lexemes.specs.Tables.{is_long}
use Rattle.sc_parser.proofs.Sorts as sort
use Rattle.sc_parser.proofs.Nonterminals as n
use Rattle.sc_parser.proofs.Programs.{done, go, guard, call, to_next, here}
use Rattle.sc_parser.proofs.Productions.{production, by_true, by_number, by_string, by_parenthesis, after_ident}
use Rattle.sc_parser.proofs.Runs.{Runs, finds, lacks, goes, keeps}
use Rattle.sc_parser.proofs.TestLaws.{other, other_word, ident_other, reserved, start_token, start_ident, starts_true, starts_false, starts_number, starts_string, starts_parenthesis, starts_bracket, starts_brace}

begins : {K : Limits} {ts : List Lexeme} {s : Cursor} {o : Outcome Expr} → IsStart ts s.at → Fits K s → Runs K ts sort.tree by_true s o → Runs K ts sort.tree (production n.primary) s o
begins h f a = finds tt h (keeps f a)

pub at_true : {K : Limits} {ts : List Lexeme} {s : Cursor} {p : Place} {o : Outcome Expr} → Is ts s.at p (Word (codes "true")) → Fits K s → Runs K ts sort.tree (go to_next (done (expr.Literal p (literal.Bool true)))) s o → Runs K ts sort.tree (production n.primary) s o
at_true {p = p} h f a = begins (start_token h starts_true) f (finds p h a)

pub at_false : {K : Limits} {ts : List Lexeme} {s : Cursor} {p : Place} {o : Outcome Expr} → Is ts s.at p (Word (codes "false")) → Fits K s → Runs K ts sort.tree (go to_next (done (expr.Literal p (literal.Bool false)))) s o → Runs K ts sort.tree (production n.primary) s o
at_false {ts = ts} {s = s} {p = p} h f a = begins (start_token h starts_false) f (lacks (other ts s.at h (other_word _ _ refl refl)) (finds p h a))

-- neither `true` nor `false`
no_truth : {K : Limits} {ts : List Lexeme} {s : Cursor} {p : Place} {c : Shape} {o : Outcome Expr} → Is ts s.at p c → ((w : List ℕ) → c ≡ Word w → ⊥) → Runs K ts sort.tree by_number s o → Runs K ts sort.tree by_true s o
no_truth {ts = ts} {s = s} h n a = lacks (other ts s.at h (λ e. n _ e)) (lacks (other ts s.at h (λ e. n _ e)) a)

pub at_number : {K : Limits} {ts : List Lexeme} {s : Cursor} {p : Place} {ds : List ℕ} {o : Outcome Expr} → Is ts s.at p (Number ds) → Fits K s
    → Runs K ts sort.tree (guard stop.IntRange (λ s. is_long (digits_value 10 ds)) (go to_next (done (expr.Literal p (literal.Long (pos (digits_value 10 ds))))))) s o → Runs K ts sort.tree (production n.primary) s o
at_number {p = p} {ds = ds} h f a = begins (start_token h (starts_number ds)) f (no_truth h (λ w e. cc) (finds (p, ds) h a))

-- no word and no number
no_number : {K : Limits} {ts : List Lexeme} {s : Cursor} {p : Place} {c : Shape} {o : Outcome Expr} → Is ts s.at p c → ((w : List ℕ) → c ≡ Word w → ⊥) → ((w : List ℕ) → c ≡ Number w → ⊥) → Runs K ts sort.tree by_string s o → Runs K ts sort.tree by_true s o
no_number {ts = ts} {s = s} h n m a = no_truth h n (lacks (λ x g. other ts s.at h (m x.1) x.0 g) a)

pub at_string : {K : Limits} {ts : List Lexeme} {s : Cursor} {p : Place} {w : List ℕ} {parts : List Part} {o : Outcome Expr} → Is ts s.at p (String w parts) → Fits K s → Runs K ts sort.tree (go to_next (done (expr.Literal p (literal.String w)))) s o → Runs K ts sort.tree (production n.primary) s o
at_string {p = p} {w = w} {parts = parts} h f a = begins (start_token h (starts_string w parts)) f (no_number h (λ v e. cc) (λ v e. cc) (finds (p, w, parts) h a))

-- a sign
no_string : {K : Limits} {ts : List Lexeme} {s : Cursor} {p : Place} {c : Shape} {o : Outcome Expr} → Is ts s.at p c → ((w : List ℕ) → c ≡ Word w → ⊥) → ((w : List ℕ) → c ≡ Number w → ⊥) → ((w : List ℕ) (parts : List Part) → c ≡ String w parts → ⊥) → Runs K ts sort.tree by_parenthesis s o → Runs K ts sort.tree by_true s o
no_string {ts = ts} {s = s} h n m l a = no_number h n m (lacks (λ x g. other ts s.at h (l x.1 x.2) x.0 g) a)

pub at_parenthesis : {K : Limits} {ts : List Lexeme} {s : Cursor} {p : Place} {o : Outcome Expr} → Is ts s.at p (Sign kind.OpenParenthesis) → Fits K s → Runs K ts sort.tree (go to_next (call here (n.enclosed close.Parenthesis) done)) s o → Runs K ts sort.tree (production n.primary) s o
at_parenthesis {p = p} h f a = begins (start_token h starts_parenthesis) f (no_string h (λ v e. cc) (λ v e. cc) (λ v q e. cc) (finds p h a))

pub at_bracket : {K : Limits} {ts : List Lexeme} {s : Cursor} {p : Place} {o : Outcome Expr} → Is ts s.at p (Sign kind.OpenBracket) → Fits K s → Runs K ts sort.tree (go to_next (call here (n.items close.Bracket []) (λ xs. go to_next (done (expr.Set p xs))))) s o → Runs K ts sort.tree (production n.primary) s o
at_bracket {ts = ts} {s = s} {p = p} h f a = begins (start_token h starts_bracket) f (no_string h (λ v e. cc) (λ v e. cc) (λ v q e. cc) (lacks (other ts s.at h (λ e. cc)) (finds p h a)))

pub at_brace : {K : Limits} {ts : List Lexeme} {s : Cursor} {p : Place} {o : Outcome Expr} → Is ts s.at p (Sign kind.OpenBrace) → Fits K s → Runs K ts sort.tree (go to_next (call here (n.fields []) (λ fs. go to_next (done (expr.Record p fs))))) s o → Runs K ts sort.tree (production n.primary) s o
at_brace {ts = ts} {s = s} {p = p} h f a = begins (start_token h starts_brace) f (no_string h (λ v e. cc) (λ v e. cc) (λ v q e. cc) (lacks (other ts s.at h (λ e. cc)) (lacks (other ts s.at h (λ e. cc)) (finds p h a))))

pub at_ident : {K : Limits} {ts : List Lexeme} {s : Cursor} {p : Place} {w : List ℕ} {o : Outcome Expr} → IsIdent ts s.at p w → Fits K s → Runs K ts sort.tree (after_ident p w) (next s) o → Runs K ts sort.tree (production n.primary) s o
at_ident {ts = ts} {s = s} {p = p} {w = w} h f a =
    begins (start_ident h) f
    (lacks (ident_other ts s.at h (reserved (codes "true") refl))
    (lacks (ident_other ts s.at h (reserved (codes "false") refl))
    (lacks (λ x g. ident_other ts s.at h (λ v e i. cc) x.0 g)
    (lacks (λ x g. ident_other ts s.at h (λ v e i. cc) x.0 g)
    (lacks (ident_other ts s.at h (λ v e i. cc))
    (lacks (ident_other ts s.at h (λ v e i. cc))
    (lacks (ident_other ts s.at h (λ v e i. cc))
    (finds (p, w) h (goes h.0 a)))))))))
