-- What is read of an expression is spelled by any tokens that are the same so far.
use Rattle.std.proofs.Common.{ℕ, ◌+◌, List}
use Rattle.sc_ast.specs.declared.place.Place.{Place}
use Rattle.sc_ast.specs.declared.expr.Expr.{Expr}
use Rattle.sc_ast.specs.declared.expr.TypeName.{TypeName}
use Rattle.sc_ast.specs.declared.literal.EntityLiteral.{EntityLiteral}
use Rattle.sc_pattern.specs.declared.part.Part.{Part}
use Rattle.sc_lexemes.specs.declared.cursor.Cursor.{Cursor}
use Rattle.sc_lexemes.specs.declared.lexeme.Lexeme.{Lexeme}
use Rattle.sc_lexemes.specs.declared.operator.Close.{Close}
use Rattle.sc_lexemes.specs.declared.operator.Level.{Level}
use Rattle.sc_parser.specs.Grammar.{Ident, Str, Path, Entity, Key, Inner, Enclosed, Chain, Operand, Primary, Items}
use Rattle.sc_parser.specs.Limits.{Limits}
use Rattle.sc_lexemes.specs.Outcomes.{read}
use Rattle.sc_parser.specs.Faults.{Shares}
use Rattle.sc_parser.proofs.PlainTokensLaws.{Same}
use Rattle.sc_parser.proofs.ViableTokensLaws.{stay}
use Rattle.sc_lexemes.specs.ReadsWords.{ReadsIdent, ReadsString, ReadsPath, ReadsEntity, ReadsKey}
use Rattle.sc_parser.specs.Reads.{ReadsInner, ReadsEnclosed, ReadsChain, ReadsOperand, ReadsPrimary, ReadsItems}
use Rattle.sc_parser.proofs.PlainReadsLaws.{from_ident, from_string, from_path, from_entity, from_key, from_inner, from_enclosed, from_chain, from_operand, from_primary, from_items}
use Rattle.sc_parser.proofs.PlainMovedLaws.{move_ident, move_string, move_path, move_entity, move_key, move_inner, move_enclosed, move_chain, move_operand, move_primary, move_items}

pub kept_ident : {K : Limits} {ts us : List Lexeme} {s t : Cursor} {p : Place} {w : List ℕ} → Shares ts us t.at → ReadsIdent ts s (read (p, w) t) → Ident K us s p w t
kept_ident {K = K} b p = move_ident (stay K) b (from_ident K p)

pub kept_string : {K : Limits} {ts us : List Lexeme} {s t : Cursor} {w : List ℕ} {parts : List Part} → Shares ts us t.at → ReadsString ts s (read (w, parts) t) → Str K us s w parts t
kept_string {K = K} b p = move_string (stay K) b (from_string K p)

pub kept_path : {K : Limits} {ts us : List Lexeme} {s t : Cursor} {y : TypeName} → Shares ts us t.at → ReadsPath ts s (read y t) → Path K us s y t
kept_path {K = K} b p = move_path (stay K) b (from_path K p)

pub kept_entity : {K : Limits} {ts us : List Lexeme} {s t : Cursor} {y : EntityLiteral} → Shares ts us t.at → ReadsEntity ts s (read y t) → Entity K us s y t
kept_entity {K = K} b p = move_entity (stay K) b (from_entity K p)

pub kept_key : {K : Limits} {ts us : List Lexeme} {s t : Cursor} {fs : List (List ℕ × Expr)} {w : List ℕ} → Shares ts us t.at → ReadsKey ts s fs (read w t) → Key K us s fs w t
kept_key {K = K} b p = move_key (stay K) b (from_key K p)

pub kept_inner : {K : Limits} {ts us : List Lexeme} {s t : Cursor} {x : Expr} → Same ts us t.at → ReadsInner ts s (read x t) → Inner K us s x t
kept_inner {K = K} b p = move_inner (stay K) b (from_inner K p)

pub kept_enclosed : {K : Limits} {ts us : List Lexeme} {c : Close} {s t : Cursor} {x : Expr} → Shares ts us t.at → ReadsEnclosed ts c s (read x t) → Enclosed K us c s x t
kept_enclosed {K = K} b p = move_enclosed (stay K) b (from_enclosed K p)

pub kept_chain : {K : Limits} {ts us : List Lexeme} {l : Level} {s t : Cursor} {x : Expr} → Same ts us t.at → ReadsChain ts l s (read x t) → Chain K us l s x t
kept_chain {K = K} b p = move_chain (stay K) b (from_chain K p)

pub kept_operand : {K : Limits} {ts us : List Lexeme} {l : Level} {s t : Cursor} {x : Expr} → Same ts us t.at → ReadsOperand ts l s (read x t) → Operand K us l s x t
kept_operand {K = K} b p = move_operand (stay K) b (from_operand K p)

pub kept_primary : {K : Limits} {ts us : List Lexeme} {s t : Cursor} {x : Expr} → Same ts us t.at → ReadsPrimary ts s (read x t) → Primary K us s x t
kept_primary {K = K} b p = move_primary (stay K) b (from_primary K p)

pub kept_items : {K : Limits} {ts us : List Lexeme} {c : Close} {s t : Cursor} {xs ys : List Expr} → Shares ts us (t.at + 1) → ReadsItems ts c s xs (read ys t) → Items K us c s xs ys t
kept_items {K = K} b p = move_items (stay K) b (from_items K p)
