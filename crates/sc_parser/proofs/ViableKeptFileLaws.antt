-- What is read of a file is spelled by any tokens that are the same so far.
use Rattle.std.proofs.Common.{ℕ, List, arith}
use Rattle.sc_ast.specs.declared.place.Place.{Place}
use Rattle.sc_lexemes.specs.declared.cursor.Cursor.{Cursor}
use Rattle.sc_lexemes.specs.declared.lexeme.Lexeme.{Lexeme}
use Rattle.sc_ast.specs.declared.policy.Effect.{Effect}
use Rattle.sc_ast.specs.declared.policy.Condition.{Condition}
use Rattle.sc_ast.specs.declared.policy.Policy.{Policy}
use Rattle.sc_ast.specs.declared.scope.ActionConstraint.{ActionConstraint}
use Rattle.sc_ast.specs.declared.scope.Scope.{Scope}
use Rattle.sc_parser.specs.declared.scopes.Scopes.{Scopes}
use Rattle.sc_parser.specs.GrammarFiles.{Head, AskedOfAction, ScopePart, WholeScope, Clauses, OnePolicy, bare_annotation, annotation}
use Rattle.sc_parser.specs.Limits.{Limits}
use Rattle.sc_lexemes.specs.Outcomes.{read}
use Rattle.sc_parser.specs.Faults.{Shares}
use Rattle.sc_parser.proofs.PlainTokensLaws.{moved}
use Rattle.sc_parser.proofs.ViableTokensLaws.{stay}
use Rattle.sc_parser.specs.ReadsFiles.{SkipsAnnotation, ReadsHead, ReadsActionConstraint, ReadsScope, ReadsScopes, ReadsClauses, ReadsPolicy}
use Rattle.sc_parser.specs.ReadsFiles as r
use Rattle.sc_parser.proofs.PlainReadsFileLaws.{from_head, from_action_constraint, from_scope, from_scopes, from_clauses, from_policy}
use Rattle.sc_parser.proofs.PlainMovedFileLaws.{move_head, move_action_asked, move_part, move_whole_scope, move_clauses, move_policy}

pub kept_head : {K : Limits} {ts us : List Lexeme} {s t : Cursor} {p : Place} {e : Effect} → Shares ts us t.at → ReadsHead ts s (read (p, e) t) → Head K us s p e t
kept_head {K = K} b p = move_head (stay K) b (from_head K p)

pub kept_action_constraint : {K : Limits} {ts us : List Lexeme} {s t : Cursor} {c : ActionConstraint} → Shares ts us t.at → ReadsActionConstraint ts s (read c t) → AskedOfAction K us s c t
kept_action_constraint {K = K} b p = move_action_asked (stay K) b (from_action_constraint K p)

pub kept_scope : {K : Limits} {ts us : List Lexeme} {w : List ℕ} {s t : Cursor} {x : Scope} → Shares ts us t.at → ReadsScope ts w s (read x t) → ScopePart K us w s x t
kept_scope {K = K} b p = move_part (stay K) b (from_scope K p)

pub kept_scopes : {K : Limits} {ts us : List Lexeme} {s t : Cursor} {x : Scopes} → Shares ts us t.at → ReadsScopes ts s (read x t) → WholeScope K us s x t
kept_scopes {K = K} b p = move_whole_scope (stay K) b (from_scopes K p)

pub kept_clauses : {K : Limits} {ts us : List Lexeme} {s t : Cursor} {cs ds : List Condition} → Shares ts us t.at → ReadsClauses ts s cs (read ds t) → Clauses K us s cs ds t
kept_clauses {K = K} b p = move_clauses (stay K) b (from_clauses K p)

pub kept_policy : {K : Limits} {ts us : List Lexeme} {s t : Cursor} {x : Policy} → Shares ts us t.at → ReadsPolicy ts s (read x t) → OnePolicy K us s x t
kept_policy {K = K} b p = move_policy (stay K) b (from_policy K p)

pub kept_annotation : {K : Limits} {ts us : List Lexeme} {s t u : Cursor} {p : Place} {e : Effect} → Shares ts us t.at → SkipsAnnotation ts s t → Head K us t p e u → Head K us s p e u
kept_annotation b (r.bare_annotation h l n) q = bare_annotation (moved b (omega arith) h) (moved b (omega arith) l) q
kept_annotation b (r.annotation h l n o m) q = annotation (moved b (omega arith) h) (moved b (omega arith) l) (moved b (omega arith) n) (moved b (omega arith) o) (moved b (omega arith) m) q
