-- What is read of an expression is spelled, whichever limits are to be kept.
use Rattle.std.proofs.Common.{ℕ, List, ap, not}
use Rattle.sc_ast.specs.declared.place.Place.{Place}
use Rattle.sc_ast.specs.declared.expr.Expr.{Expr}
use Rattle.sc_ast.specs.declared.expr.TypeName.{TypeName}
use Rattle.sc_ast.specs.declared.literal.EntityLiteral.{EntityLiteral}
use Rattle.sc_ast.specs.declared.operator.UnaryOperator.{UnaryOperator}
use Rattle.sc_pattern.specs.declared.part.Part.{Part}
use Rattle.sc_lexemes.specs.declared.cursor.Cursor.{Cursor}
use Rattle.sc_lexemes.specs.declared.lexeme.Lexeme.{Lexeme}
use Rattle.sc_lexemes.specs.declared.operator.Close.{Close}
use Rattle.sc_lexemes.specs.declared.operator.Level.{Level}
use Rattle.sc_lexemes.specs.declared.operator.Level.TheVariants as level
use Rattle.sc_parser.specs.Grammar.{Ident, Str, MoreNames, Names, MorePath, Path, Entity, Key, Expression, Inner, Enclosed, Chain, MoreOperands, Operand, Relation, Unary, Prefixes, Member, Accesses, Primary, Items, Fields, ident, string, names_end, names_more, names_string, names_idents, path_end, path_more, path, entity, key_ident, key_string, chain_or, if_then_else, inner, enclosed, chain, operands_end, operands_more, operand_or, operand_and, operand_add, operand_multiply, sum, comparison, has, like, is_type, is_in, no_prefix, prefixes, prefixes_end, least, prefix, member, no_access, index, access, method, truth, falsehood, number, text, variable, uid, function, parenthesis, set, fields, items_end, last_item, more_items, fields_end, last_field, more_fields}
use Rattle.sc_parser.specs.Limits.{Limits}
use Rattle.sc_lexemes.specs.Outcomes.{read}
use Rattle.sc_lexemes.specs.ReadsWords.{ReadsIdent, ReadsString, ReadsMoreNames, ReadsNames, ReadsMorePath, ReadsPath, ReadsMoreEntity, ReadsEntity, ReadsKey}
use Rattle.sc_parser.specs.Reads.{ReadsExpr, ReadsInner, ReadsEnclosed, ReadsChain, ReadsMore, ReadsOperand, ReadsRelation, ReadsTail, ReadsUnary, ReadsPrefixes, ReadsMember, ReadsAccesses, ReadsPrimary, ReadsItems, ReadsFields}
use Rattle.sc_parser.specs.Reads as r
use Rattle.sc_lexemes.specs.ReadsWords as words

pub from_ident : (K : Limits) {ts : List Lexeme} {s t : Cursor} {p : Place} {w : List ℕ} → ReadsIdent ts s (read (p, w) t) → Ident K ts s p w t
from_ident K (words.ident h f) = ident h (λ k. f)

pub from_string : (K : Limits) {ts : List Lexeme} {s t : Cursor} {w : List ℕ} {parts : List Part} → ReadsString ts s (read (w, parts) t) → Str K ts s w parts t
from_string K (words.string h f) = string h (λ k. f)

pub from_more_names : (K : Limits) {ts : List Lexeme} {s t : Cursor} {ns ms : List (List ℕ)} → ReadsMoreNames ts s ns (read ms t) → MoreNames K ts s ns ms t
from_more_names K (words.names_end n) = names_end
from_more_names K (words.names_more h p q) = names_more h (from_ident K p) (from_more_names K q)

pub from_names : (K : Limits) {ts : List Lexeme} {s t : Cursor} {ns : List (List ℕ)} → ReadsNames ts s (read ns t) → Names K ts s ns t
from_names K (words.names_string h f) = names_string (string h (λ k. f))
from_names K (words.names_ident p q) = names_idents (from_ident K p) (from_more_names K q)

pub from_more_path : (K : Limits) {ts : List Lexeme} {s t : Cursor} {n m : List ℕ} → ReadsMorePath ts s n (read m t) → MorePath K ts s n m t
from_more_path K (words.path_end n) = path_end
from_more_path K (words.path_more h p q) = path_more h (from_ident K p) (from_more_path K q)

pub from_path : (K : Limits) {ts : List Lexeme} {s t : Cursor} {y : TypeName} → ReadsPath ts s (read y t) → Path K ts s y t
from_path K (words.path p q) = path (from_ident K p) (from_more_path K q)

-- an identifier, and what is read behind it and a path, are an entity's uid
pub from_more_entity : (K : Limits) {ts : List Lexeme} {s t u v : Cursor} {p : Place} {w n : List ℕ} {y : EntityLiteral} → Ident K ts s p w t → ((m : List ℕ) (o : Cursor) → MorePath K ts u n m o → MorePath K ts t w m o) → ReadsMoreEntity ts u p n (read y v) → Entity K ts s y v
from_more_entity K i f (words.entity_id h l) = entity i (f _ _ path_end) h l
from_more_entity K i f (words.entity_more h p q) = from_more_entity K i (λ m o l. f m o (path_more h (from_ident K p) l)) q

pub from_entity : (K : Limits) {ts : List Lexeme} {s t : Cursor} {y : EntityLiteral} → ReadsEntity ts s (read y t) → Entity K ts s y t
from_entity K (words.entity p q) = from_more_entity K (from_ident K p) (λ m o l. l) q

pub from_key : (K : Limits) {ts : List Lexeme} {s t : Cursor} {fs : List (List ℕ × Expr)} {w : List ℕ} → ReadsKey ts s fs (read w t) → Key K ts s fs w t
from_key K (words.key_ident p n) = key_ident (from_ident K p) (λ k. ap not n)
from_key K (words.key_string p n) = key_string (from_string K p) (λ k. ap not n)

mutual
  pub from_expr : (K : Limits) {ts : List Lexeme} {s t : Cursor} {x : Expr} → ReadsExpr ts s (read x t) → Expression K ts s x t
  from_expr K (r.chain_or n p) = chain_or (from_chain K p)
  from_expr K (r.if_then_else h f p q u) = if_then_else h (λ k. f) (from_enclosed K p) (from_enclosed K q) (from_inner K u)

  pub from_inner : (K : Limits) {ts : List Lexeme} {s t : Cursor} {x : Expr} → ReadsInner ts s (read x t) → Inner K ts s x t
  from_inner K (r.inner p) = inner (from_expr K p)

  pub from_enclosed : (K : Limits) {ts : List Lexeme} {c : Close} {s t : Cursor} {x : Expr} → ReadsEnclosed ts c s (read x t) → Enclosed K ts c s x t
  from_enclosed K (r.enclosed p h) = enclosed (from_inner K p) h

  pub from_chain : (K : Limits) {ts : List Lexeme} {l : Level} {s t : Cursor} {x : Expr} → ReadsChain ts l s (read x t) → Chain K ts l s x t
  from_chain K (r.chain p q) = chain (from_operand K p) (from_more K q)

  pub from_more : (K : Limits) {ts : List Lexeme} {l : Level} {s t : Cursor} {a x : Expr} → ReadsMore ts l s a (read x t) → MoreOperands K ts l s a x t
  from_more K (r.more_ends n) = operands_end
  from_more K (r.more h p q) = operands_more h (from_operand K p) (from_more K q)

  pub from_operand : (K : Limits) {ts : List Lexeme} {l : Level} {s t : Cursor} {x : Expr} → ReadsOperand ts l s (read x t) → Operand K ts l s x t
  from_operand K (r.operand_or p) = operand_or (from_chain K p)
  from_operand K (r.operand_and p) = operand_and (from_relation K p)
  from_operand K (r.operand_add p) = operand_add (from_chain K p)
  from_operand K (r.operand_multiply p) = operand_multiply (from_unary K p)

  pub from_relation : (K : Limits) {ts : List Lexeme} {s t : Cursor} {x : Expr} → ReadsRelation ts s (read x t) → Relation K ts s x t
  from_relation K (r.relation p q) = from_tail K (from_chain K p) q

  pub from_tail : (K : Limits) {ts : List Lexeme} {s t u : Cursor} {a x : Expr} → Chain K ts level.Add s a t → ReadsTail ts t a (read x u) → Relation K ts s x u
  from_tail K c (r.no_tail n) = sum c
  from_tail K c (r.compare h p) = comparison c h (from_chain K p)
  from_tail K c (r.has h p) = has c h (from_names K p)
  from_tail K c (r.like h p) = like c h (from_string K p)
  from_tail K c (r.is_type h p n) = is_type c h (from_path K p)
  from_tail K c (r.is_in h p l q) = is_in c h (from_path K p) l (from_chain K q)

  pub from_unary : (K : Limits) {ts : List Lexeme} {s t : Cursor} {x : Expr} → ReadsUnary ts s (read x t) → Unary K ts s x t
  from_unary K (r.no_prefix n p) = no_prefix (from_member K p)
  from_unary K (r.prefixes h p) = prefixes h (from_prefixes K p)

  pub from_prefixes : (K : Limits) {ts : List Lexeme} {q : UnaryOperator} {m : ℕ} {s t : Cursor} {x : Expr} → ReadsPrefixes ts q m s (read x t) → Prefixes K ts q m s x t
  from_prefixes K (r.prefixes_spent z p) = prefixes_end (from_member K p)
  from_prefixes K (r.prefixes_end z n p) = prefixes_end (from_member K p)
  from_prefixes K (r.least z h f g p) = least z h (λ k. f) (λ k. g) (from_accesses K p)
  from_prefixes K (r.prefix z h f n p) = prefix z h (λ k. f) n (from_prefixes K p)

  pub from_member : (K : Limits) {ts : List Lexeme} {s t : Cursor} {x : Expr} → ReadsMember ts s (read x t) → Member K ts s x t
  from_member K (r.member p q) = member (from_primary K p) (from_accesses K q)

  pub from_accesses : (K : Limits) {ts : List Lexeme} {s t : Cursor} {a x : Expr} → ReadsAccesses ts s a (read x t) → Accesses K ts s a x t
  from_accesses K (r.no_access n) = no_access
  from_accesses K (r.index h p l q) = index h (from_string K p) l (from_accesses K q)
  from_accesses K (r.access h p n q) = access h (from_ident K p) (from_accesses K q)
  from_accesses K (r.method h p l q e u) = method h (from_ident K p) l (from_items K q) e (from_accesses K u)

  pub from_primary : (K : Limits) {ts : List Lexeme} {s t : Cursor} {x : Expr} → ReadsPrimary ts s (read x t) → Primary K ts s x t
  from_primary K (r.truth h f) = truth h (λ k. f)
  from_primary K (r.falsehood h f) = falsehood h (λ k. f)
  from_primary K (r.number h f l) = number h (λ k. f) (λ k. l)
  from_primary K (r.text h f) = text h (λ k. f)
  from_primary K (r.variable h e f n) = variable h e (λ k. f) n
  from_primary K (r.entity_primary h f l p) = uid (from_more_entity K (ident h (λ k. f)) (λ m o q. q) p)
  from_primary K (r.function h n f l p e) = function h n (λ k. f) l (from_items K p) e
  from_primary K (r.parenthesis h f p) = parenthesis h (λ k. f) (from_enclosed K p)
  from_primary K (r.set h f p) = set h (λ k. f) (from_items K p)
  from_primary K (r.fields h f p) = fields h (λ k. f) (from_fields K p)

  pub from_items : (K : Limits) {ts : List Lexeme} {c : Close} {s t : Cursor} {xs ys : List Expr} → ReadsItems ts c s xs (read ys t) → Items K ts c s xs ys t
  from_items K (r.items_end h) = items_end h
  from_items K (r.last_item n p h) = last_item (from_inner K p) h
  from_items K (r.more_items n p h q) = more_items (from_inner K p) h (from_items K q)

  pub from_fields : (K : Limits) {ts : List Lexeme} {s t : Cursor} {fs gs : List (List ℕ × Expr)} → ReadsFields ts s fs (read gs t) → Fields K ts s fs gs t
  from_fields K (r.fields_end h) = fields_end h
  from_fields K (r.last_field n p h q l) = last_field (from_key K p) h (from_inner K q) l
  from_fields K (r.more_fields n p h q l u) = more_fields (from_key K p) h (from_inner K q) l (from_fields K u)
