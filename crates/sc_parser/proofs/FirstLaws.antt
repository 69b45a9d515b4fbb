-- The first token of what is spelled.
use Rattle.std.proofs.Common.{◌≡◌, ℕ, List, codes, true, false, refl, ap, ◌∙◌}
use Rattle.std.specs.declared.option.Option.TheVariants.{Some, None}
use Rattle.sc_ast.specs.declared.place.Place.{Place}
use Rattle.sc_ast.specs.declared.expr.Expr.{Expr}
use Rattle.sc_ast.specs.declared.literal.EntityLiteral.{EntityLiteral}
use Rattle.sc_ast.specs.declared.operator.UnaryOperator.{UnaryOperator}
use Rattle.sc_lexer.specs.declared.token.Kind.TheVariants as kind
use Rattle.sc_lexemes.specs.declared.cursor.Cursor.{Cursor}
use Rattle.sc_lexemes.specs.declared.lexeme.Lexeme.{Lexeme}
use Rattle.sc_lexemes.specs.declared.lexeme.Shape.{Shape}
use Rattle.sc_lexemes.specs.declared.lexeme.Shape.TheVariants.{Word, Number, String, Sign}
use Rattle.sc_lexemes.specs.declared.operator.Close.{Close}
use Rattle.sc_lexemes.specs.declared.operator.Close.TheVariants as close
use Rattle.sc_lexemes.specs.declared.operator.Level.{Level}
use Rattle.sc_parser.specs.Grammar.{Entity, Key, Inner, Chain, Operand, Relation, Unary, Prefixes, Member, Primary}
use Rattle.sc_parser.specs.Grammar as g
use Rattle.sc_lexemes.specs.Lexemes.{Is, Lacks, IsPrefix, IsStart, closing, starts}
use Rattle.sc_parser.specs.Limits.{Limits}
use Rattle.sc_lexemes.specs.Tables.{prefix_of}
use Rattle.sc_parser.proofs.TestLaws.{one_shape, other, other_word, ident_other, minus_prefix, variable_ident, start_token, start_ident, starts_true, starts_false, starts_number, starts_string, starts_parenthesis, starts_bracket, starts_brace}

-- a chain begins with a prefix or with what begins a primary expression
pub data Opens (ts : List Lexeme) (i : ℕ) : Type 0 where
  opens : IsStart ts i → Opens ts i
  prefixed : {p : Place} {r : UnaryOperator} → IsPrefix ts i p r → Opens ts i

pub first_primary : {K : Limits} {ts : List Lexeme} {s t : Cursor} {x : Expr} → Primary K ts s x t → IsStart ts s.at
first_primary (g.truth h f) = start_token h starts_true
first_primary (g.falsehood h f) = start_token h starts_false
first_primary (g.number {ds = ds} h f k) = start_token h (starts_number ds)
first_primary (g.text {w = w} {parts = parts} h f) = start_token h (starts_string w parts)
first_primary (g.variable {w = w} {x = x} h e f l) = start_ident (h, variable_ident w x e)
first_primary (g.uid (g.entity (g.ident h f) b k l)) = start_ident h
first_primary (g.function h e f k a d) = start_ident h
first_primary (g.no_function h e f k a d l) = start_ident h
first_primary (g.parenthesis h f a) = start_token h starts_parenthesis
first_primary (g.set h f a) = start_token h starts_bracket
first_primary (g.fields h f a) = start_token h starts_brace

pub first_member : {K : Limits} {ts : List Lexeme} {s t : Cursor} {x : Expr} → Member K ts s x t → IsStart ts s.at
first_member (g.member a b) = first_primary a

first_prefixes : {K : Limits} {ts : List Lexeme} {r : UnaryOperator} {m : ℕ} {s t : Cursor} {x : Expr} → Prefixes K ts r m s x t → Opens ts s.at
first_prefixes (g.prefixes_end a) = opens (first_member a)
first_prefixes (g.least l h f k a) = prefixed (minus_prefix h.minus)
first_prefixes (g.prefix l h f n a) = prefixed h

first_unary : {K : Limits} {ts : List Lexeme} {s t : Cursor} {x : Expr} → Unary K ts s x t → Opens ts s.at
first_unary (g.no_prefix a) = opens (first_member a)
first_unary (g.prefixes h a) = prefixed h

mutual
  pub first_chain : {K : Limits} {ts : List Lexeme} {l : Level} {s t : Cursor} {x : Expr} → Chain K ts l s x t → Opens ts s.at
  first_chain (g.chain a b) = first_operand a

  first_operand : {K : Limits} {ts : List Lexeme} {l : Level} {s t : Cursor} {x : Expr} → Operand K ts l s x t → Opens ts s.at
  first_operand (g.operand_or a) = first_chain a
  first_operand (g.operand_and a) = first_relation a
  first_operand (g.operand_add a) = first_chain a
  first_operand (g.operand_multiply a) = first_unary a

  first_relation : {K : Limits} {ts : List Lexeme} {s t : Cursor} {x : Expr} → Relation K ts s x t → Opens ts s.at
  first_relation (g.sum a) = first_chain a
  first_relation (g.comparison a h b) = first_chain a
  first_relation (g.has a h b) = first_chain a
  first_relation (g.like a h b) = first_chain a
  first_relation (g.is_type a h b) = first_chain a
  first_relation (g.is_in a h b k c) = first_chain a

-- no prefix begins a primary expression
start_no_prefix : (c : Shape) (r : UnaryOperator) → starts c ≡ true → prefix_of c ≡ Some r → ⊥
unfolding starts prefix_of
start_no_prefix (Word w) r h k = absurd cc
start_no_prefix (Number ds) r h k = absurd cc
start_no_prefix (String w parts) r h k = absurd cc
start_no_prefix (Sign kind.Not) r h k = absurd cc
start_no_prefix (Sign kind.Minus) r h k = absurd cc
start_no_prefix (Sign _) r h k = absurd cc

pub member_no_prefix : {ts : List Lexeme} {i : ℕ} {p : Place} {r : UnaryOperator} → IsStart ts i → IsPrefix ts i p r → ⊥
member_no_prefix {ts = ts} {i = i} {r = r} h k = start_no_prefix h.shape r h.starts (ap prefix_of (one_shape ts i h.is k.is) ∙ k.operator)

-- what begins no chain
not_opened : {ts : List Lexeme} {i : ℕ} (c : Shape) → starts c ≡ false → prefix_of c ≡ None → Opens ts i → Lacks ts i c
not_opened {ts = ts} {i = i} c n m (opens h) q k = let e = ap starts (one_shape ts i h.is k) in let f = h.starts in absurd cc
not_opened {ts = ts} {i = i} c n m (prefixed h) q k = let e = ap prefix_of (one_shape ts i h.is k) in let f = h.operator in absurd cc

starts_if : starts (Word (codes "if")) ≡ false
unfolding starts
starts_if = refl

prefix_if : prefix_of (Word (codes "if")) ≡ None
unfolding prefix_of
prefix_if = refl

starts_closing : (c : Close) → starts (closing c) ≡ false
unfolding starts
starts_closing close.Then = refl
starts_closing close.Else = refl
starts_closing close.Parenthesis = refl
starts_closing close.Bracket = refl
starts_closing close.Brace = refl

prefix_closing : (c : Close) → prefix_of (closing c) ≡ None
unfolding prefix_of
prefix_closing close.Then = refl
prefix_closing close.Else = refl
prefix_closing close.Parenthesis = refl
prefix_closing close.Bracket = refl
prefix_closing close.Brace = refl

closing_no_if : (c : Close) → Word (codes "if") ≡ closing c → ⊥
closing_no_if close.Then e = other_word _ _ refl refl e
closing_no_if close.Else e = other_word _ _ refl refl e
closing_no_if close.Parenthesis e = cc
closing_no_if close.Bracket e = cc
closing_no_if close.Brace e = cc

pub chain_no_if : {K : Limits} {ts : List Lexeme} {l : Level} {s t : Cursor} {x : Expr} → Chain K ts l s x t → Lacks ts s.at (Word (codes "if"))
chain_no_if a = not_opened (Word (codes "if")) starts_if prefix_if (first_chain a)

-- what ends a list is no item of it
pub inner_no_closing : {K : Limits} {ts : List Lexeme} (c : Close) {s t : Cursor} {x : Expr} → Inner K ts s x t → Lacks ts s.at (closing c)
inner_no_closing c (g.inner (g.chain_or a)) = not_opened (closing c) (starts_closing c) (prefix_closing c) (first_chain a)
inner_no_closing {ts = ts} c {s = s} (g.inner (g.if_then_else h f a b d)) = other ts s.at h (closing_no_if c)

pub key_no_brace : {K : Limits} {ts : List Lexeme} {s t : Cursor} {fs : List (List ℕ × Expr)} {w : List ℕ} → Key K ts s fs w t → Lacks ts s.at (Sign kind.CloseBrace)
key_no_brace {ts = ts} {s = s} (g.key_ident (g.ident h f) k) = ident_other ts s.at h (λ v e i. cc)
key_no_brace {ts = ts} {s = s} (g.key_string (g.string h f) k) = other ts s.at h (λ e. cc)

pub entity_ident : {K : Limits} {ts : List Lexeme} {s t : Cursor} {y : EntityLiteral} → Entity K ts s y t → (p : Place) × (w : List ℕ) × Is ts s.at p (Word w)
entity_ident (g.entity (g.ident {p = p} {w = w} h f) b k l) = (p, w, h.0)
