-- What is put behind the tokens where reading of an expression stops.
use Rattle.std.proofs.Common.{◌≡◌, ℕ, ◌+◌, ◌≤◌, ◌||◌, List, [], ◌∷◌, Some, None, Option, Bool, true, false, refl, arith, length, le_refl, codes, subst}
use Rattle.std.specs.Str.{bytes_eq}
use Rattle.std.proofs.lemmas.Slice.Eq.{bytes_eq-Decides}
use Rattle.sc_ast.specs.declared.place.Place.{Place}
use Rattle.sc_ast.specs.declared.expr.Expr.{Expr}
use Rattle.sc_ast.specs.declared.expr.Expr.TheVariants as expr
use Rattle.sc_ast.specs.declared.literal.Literal.TheVariants as literal
use Rattle.sc_ast.specs.declared.operator.UnaryOperator.{UnaryOperator}
use Rattle.sc_lexer.specs.declared.token.Kind.{Kind}
use Rattle.sc_lexer.specs.declared.token.Kind.TheVariants as kind
use Rattle.sc_names.specs.Names.{is_ident}
use Rattle.sc_lexemes.specs.declared.cursor.Cursor.{Cursor}
use Rattle.sc_lexemes.specs.declared.lexeme.Lexeme.{Lexeme}
use Rattle.sc_lexemes.specs.declared.lexeme.Shape.{Shape}
use Rattle.sc_lexemes.specs.declared.lexeme.Shape.TheVariants.{Word, Number, String, Sign}
use Rattle.sc_lexemes.specs.declared.operator.Close.{Close}
use Rattle.sc_lexemes.specs.declared.operator.Close.TheVariants as close
use Rattle.sc_lexemes.specs.declared.stop.Stop.TheVariants as stop
use Rattle.sc_lexemes.specs.Depth.{next, past, inside}
use Rattle.sc_parser.specs.Grammar.{Ident, Expression, Inner, Enclosed, Unary, Prefixes, Accesses, Primary, Items, chain_or, inner, enclosed, chain, operands_end, operand_or, operand_and, operand_add, operand_multiply, sum, no_prefix, prefixes, prefixes_end, least, prefix, member, no_access, method, no_method, truth, falsehood, number, text, uid, function, no_function, parenthesis, set, fields, items_end, fields_end, ident}
use Rattle.sc_lexemes.specs.Lexemes.{Is, IsIdent, closing, starts}
use Rattle.sc_parser.specs.Limits.{Limits, Fits}
use Rattle.sc_lexemes.specs.Tables.{called, applied, variable_of, prefix_of}
use Rattle.sc_parser.proofs.PlainTokensLaws.{moved}
use Rattle.sc_parser.proofs.ViableTokensLaws.{Frees, Free, loose, Done, Ahead, head_of, rest_of, leaf, nowhere, token, sign, Stays, stays}
use Rattle.sc_parser.proofs.ViableNamesLaws.{quotes, whole_entity, short_rest}

-- the word `true`, and what it spells
abbrev pub yes : Lexeme
yes = token (Word (codes "true"))

abbrev pub yes_expr : Expr
yes_expr = expr.Literal nowhere (literal.Bool true)

abbrev pub close_token : Close → Lexeme
close_token c = token (closing c)

pub true_primary : {K : Limits} {us rest : List Lexeme} {c : ℕ} (s : Cursor) → Free K c → c ≤ s.at → Ahead us s.at (yes ∷ rest) → Primary K us s yes_expr (next s)
true_primary s f h d = truth (head_of d) (loose (f stop.TooDeep s.at h))

pub expr_of : {K : Limits} {us : List Lexeme} {s t : Cursor} {x : Expr} → Primary K us s x t → Expression K us s x t
expr_of p = chain_or (chain (operand_or (chain (operand_and (sum (chain (operand_add (chain (operand_multiply (no_prefix (member p no_access))) operands_end)) operands_end))) operands_end)) operands_end)

pub true_inner : {K : Limits} {us rest : List Lexeme} {c : ℕ} (s : Cursor) → Free K c → c ≤ s.at → Ahead us s.at (yes ∷ rest) → Inner K us s yes_expr (next s)
true_inner s f h d = inner (expr_of (true_primary (inside s) f h d))

pub true_enclosed : {K : Limits} {us rest : List Lexeme} {c : ℕ} (e : Close) (s : Cursor) → Free K c → c ≤ s.at → Ahead us s.at (yes ∷ close_token e ∷ rest) → Enclosed K us e s yes_expr (next (next s))
true_enclosed e s f h d = enclosed (true_inner s f h d) (head_of (rest_of d))

-- prefixes, or what has none
pub unary_of : {K : Limits} {us : List Lexeme} {q : UnaryOperator} {m : ℕ} {s t : Cursor} {x : Expr} → Prefixes K us q m s x t → (Prefixes K us q m s x t → Prefixes K us q 4 s x t) → Unary K us s x t
unfolding prefix_of
unary_of (prefixes_end p) f = no_prefix p
unary_of (least z h k l p) f = prefixes (record { shape = Sign kind.Minus; is = h.minus; operator = refl }) (f (least z h k l p))
unary_of (prefix z h k l p) f = prefixes h (f (prefix z h k l p))

-- a call of a method, whether there is one or not
pub method_call : {K : Limits} {us : List Lexeme} {s t u : Cursor} {a : Expr} {p q l : Place} {w : List ℕ} {xs : List Expr} → Is us s.at p (Sign kind.Dot) → Ident K us (past s) q w t → Is us t.at l (Sign kind.OpenParenthesis) → Items K us close.Parenthesis (next t) [] xs u → K stop.BadCall u.at ≡ false → (o : Option Expr) → called p a w xs ≡ o → (x : Expr) × Accesses K us s a x (next u)
method_call {a = a} h i l m f None e = (a, no_method h i l m e (loose f) no_access)
method_call h i l m f (Some x) e = (x, method h i l m e no_access)

-- a call of a function, whether there is one or not
pub function_call : {K : Limits} {us : List Lexeme} {s t : Cursor} {p q : Place} {w : List ℕ} {xs : List Expr} → IsIdent us s.at p w → variable_of w ≡ None → Fits K s → Is us (s.at + 1) q (Sign kind.OpenParenthesis) → Items K us close.Parenthesis (next (next s)) [] xs t → K stop.BadCall t.at ≡ false → (o : Option Expr) → applied p w xs ≡ o → (x : Expr) × Primary K us s x (next t)
function_call {p = p} {xs = xs} h n f l m k None e = (expr.Set p xs, no_function h n f l m e (loose k))
function_call h n f l m k (Some x) e = (x, function h n f l m e)

-- a primary expression, at whose beginning no number was put
abbrev pub SomePrimary : Limits → List Lexeme → Cursor → List Lexeme → Cursor → Type 0
SomePrimary K ts s us t = (x : Expr) × Primary K us s x t × Stays ts us s.at

deep_word : {K : Limits} {ts : List Lexeme} {s : Cursor} {p : Place} {v : List ℕ} → Frees K stop.TooDeep s.at → (rest : List Lexeme) → s.at + 1 ≤ length ts → Is ts s.at p (Word v) → (i t f : Bool) → is_ident v ≡ i → bytes_eq v (codes "true") ≡ t → bytes_eq v (codes "false") ≡ f → i || t || f ≡ true → Done (SomePrimary K ts s) ts (s.at + 1) rest
deep_word {K = K} {ts = ts} {s = s} {p = p} {v = v} g rest w h true t f k l m n = leaf (SomePrimary K ts s) (next s) (next (next (next s))) (sign kind.DoubleColon ∷ quotes ∷ rest) w (omega arith) (λ us d. rest_of (rest_of d)) (λ us b d. (_, uid (whole_entity (ident (moved b (omega arith) h, k) (loose (g.here stop.TooDeep refl))) (short_rest p v d)), stays b (omega arith)))
deep_word {K = K} {ts = ts} {s = s} {p = p} {v = v} g rest w h false true f k l m n = leaf (SomePrimary K ts s) (next s) (next s) rest w (le_refl (s.at + 1)) (λ us d. d) (λ us b d. (expr.Literal p (literal.Bool true), truth (let e = (bytes_eq-Decides v (codes "true")).0 l in moved b (omega arith) (subst (λ c. Is ts s.at p (Word c)) e h)) (loose (g.here stop.TooDeep refl)), stays b (omega arith)))
deep_word {K = K} {ts = ts} {s = s} {p = p} {v = v} g rest w h false false true k l m n = leaf (SomePrimary K ts s) (next s) (next s) rest w (le_refl (s.at + 1)) (λ us d. d) (λ us b d. (expr.Literal p (literal.Bool false), falsehood (let e = (bytes_eq-Decides v (codes "false")).0 m in moved b (omega arith) (subst (λ c. Is ts s.at p (Word c)) e h)) (loose (g.here stop.TooDeep refl)), stays b (omega arith)))
deep_word g rest w h false false false k l m n = absurd cc

deep_sign : {K : Limits} {ts : List Lexeme} {s : Cursor} {p : Place} → Frees K stop.TooDeep s.at → (rest : List Lexeme) → s.at + 1 ≤ length ts → (k : Kind) → Is ts s.at p (Sign k) → starts (Sign k) ≡ true → Done (SomePrimary K ts s) ts (s.at + 1) rest
unfolding starts
deep_sign {K = K} {ts = ts} {s = s} {p = p} g rest w kind.OpenParenthesis h n = leaf (SomePrimary K ts s) (next s) (next (next (next s))) (yes ∷ close_token close.Parenthesis ∷ rest) w (omega arith) (λ us d. rest_of (rest_of d)) (λ us b d. (yes_expr, parenthesis (moved b (omega arith) h) (loose (g.here stop.TooDeep refl)) (true_enclosed close.Parenthesis (next s) g.later (le_refl (s.at + 1)) d), stays b (omega arith)))
deep_sign {K = K} {ts = ts} {s = s} {p = p} g rest w kind.OpenBracket h n = leaf (SomePrimary K ts s) (next s) (next (next s)) (sign kind.CloseBracket ∷ rest) w (omega arith) (λ us d. rest_of d) (λ us b d. (expr.Set p [], set (moved b (omega arith) h) (loose (g.here stop.TooDeep refl)) (items_end (head_of d)), stays b (omega arith)))
deep_sign {K = K} {ts = ts} {s = s} {p = p} g rest w kind.OpenBrace h n = leaf (SomePrimary K ts s) (next s) (next (next s)) (sign kind.CloseBrace ∷ rest) w (omega arith) (λ us d. rest_of d) (λ us b d. (expr.Record p [], fields (moved b (omega arith) h) (loose (g.here stop.TooDeep refl)) (fields_end (head_of d)), stays b (omega arith)))
deep_sign g rest w k h n = absurd cc

-- a token that a primary expression begins with, and that lies too deep
pub deep_primary : {K : Limits} {ts : List Lexeme} {s : Cursor} {p : Place} → Frees K stop.TooDeep s.at → (rest : List Lexeme) → s.at + 1 ≤ length ts → (c : Shape) → Is ts s.at p c → starts c ≡ true → Done (SomePrimary K ts s) ts (s.at + 1) rest
unfolding starts
deep_primary g rest w (Word v) h n = deep_word g rest w h (is_ident v) (bytes_eq v (codes "true")) (bytes_eq v (codes "false")) refl refl refl n
deep_primary {K = K} {ts = ts} {s = s} {p = p} g rest w (Number ds) h n = leaf (SomePrimary K ts s) (next s) (next s) rest w (le_refl (s.at + 1)) (λ us d. d) (λ us b d. (_, number (moved b (omega arith) h) (loose (g.here stop.TooDeep refl)) (loose (g.here stop.IntRange refl)), stays b (omega arith)))
deep_primary {K = K} {ts = ts} {s = s} {p = p} g rest w (String v parts) h n = leaf (SomePrimary K ts s) (next s) (next s) rest w (le_refl (s.at + 1)) (λ us d. d) (λ us b d. (_, text (moved b (omega arith) h) (loose (g.here stop.TooDeep refl)), stays b (omega arith)))
deep_primary g rest w (Sign k) h n = deep_sign g rest w k h n
