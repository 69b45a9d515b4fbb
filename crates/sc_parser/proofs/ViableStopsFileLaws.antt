-- Reading a file stops where it began, or later.
use Rattle.std.proofs.Common.{ℕ, ◌≤◌, ◌<◌, List, arith}
use Rattle.sc_ast.specs.declared.literal.EntityLiteral.{EntityLiteral}
use Rattle.sc_lexemes.specs.declared.cursor.Cursor.{Cursor}
use Rattle.sc_lexemes.specs.declared.lexeme.Lexeme.{Lexeme}
use Rattle.sc_ast.specs.declared.policy.Condition.{Condition}
use Rattle.sc_ast.specs.declared.policy.Policy.{Policy}
use Rattle.sc_ast.specs.declared.scope.Scope.{Scope}
use Rattle.sc_ast.specs.declared.scope.ActionScope.{ActionScope}
use Rattle.sc_lexemes.specs.declared.stop.Stop.{Stop}
use Rattle.sc_parser.specs.Limits.{all_limits}
use Rattle.sc_lexemes.specs.Outcomes.{read, halt}
use Rattle.sc_parser.specs.ReadsFiles.{SkipsAnnotation, HaltsAnnotation, ReadsHead, ReadsSlot, ReadsConstraint, ReadsEntities, ReadsActionConstraint, ReadsScope, ReadsPrincipal, ReadsAction, ReadsResource, ReadsScopes, ReadsClauses, ReadsPolicy, ReadsPolicies}
use Rattle.sc_parser.specs.ReadsFiles as r
use Rattle.sc_parser.proofs.PlainReadsLaws.{from_path, from_entity, from_enclosed}
use Rattle.sc_parser.proofs.PlainReadsFileLaws.{from_head, from_action_constraint, from_scope, from_scopes, from_clauses, from_policy}
use Rattle.sc_parser.proofs.PlainForwardLaws.{fwd_path, fwd_entity, fwd_enclosed}
use Rattle.sc_parser.proofs.PlainForwardFileLaws.{fwd_head, fwd_action_asked, fwd_part, fwd_whole_scope, fwd_clauses, fwd_policy}
use Rattle.sc_parser.proofs.ViableStopsLaws.{stop_path, stop_entity, stop_enclosed}

pub fwd_annotation : {ts : List Lexeme} {s t : Cursor} → SkipsAnnotation ts s t → s.at < t.at
fwd_annotation (r.bare_annotation h l n) = omega arith
fwd_annotation (r.annotation h l n o e) = omega arith

pub fwd_principal : {ts : List Lexeme} {s t : Cursor} {x : Scope} → ReadsPrincipal ts s (read x t) → s.at < t.at
fwd_principal (r.principal p h) = omega (arith, fwd_part (from_scope all_limits p))

pub fwd_action : {ts : List Lexeme} {s t : Cursor} {x : ActionScope} → ReadsAction ts s (read x t) → s.at < t.at
fwd_action (r.action_scope h p l) = omega (arith, fwd_action_asked (from_action_constraint all_limits p))

pub stop_annotation : {ts : List Lexeme} {s : Cursor} {f : Stop} {n : ℕ} → HaltsAnnotation ts s f n → s.at < n
stop_annotation (r.no_annotation_word h l) = omega arith
stop_annotation (r.no_annotation_string h l n o) = omega arith
stop_annotation (r.annotation_unclosed h l n o e) = omega arith

pub stop_head : {ts : List Lexeme} {s : Cursor} {f : Stop} {n : ℕ} → ReadsHead ts s (halt f n) → s.at ≤ n
stop_head (r.no_effect h l) = omega arith
stop_head (r.annotation_halts p) = omega (arith, stop_annotation p)
stop_head (r.annotated p q) = omega (arith, fwd_annotation p, stop_head q)

pub stop_slot : {ts : List Lexeme} {s : Cursor} {f : Stop} {n : ℕ} → ReadsSlot ts s (halt f n) → s.at ≤ n
stop_slot (r.slot h) = omega arith
stop_slot (r.no_slot h p) = omega (arith, stop_entity p)

pub stop_constraint : {ts : List Lexeme} {s : Cursor} {f : Stop} {n : ℕ} → ReadsConstraint ts s (halt f n) → s.at < n
stop_constraint (r.equal_halts h p) = omega (arith, stop_slot p)
stop_constraint (r.within_halts h p) = omega (arith, stop_slot p)
stop_constraint (r.type_halts h p) = omega (arith, stop_path p)
stop_constraint (r.of_type_within_halts h p l q) = omega (arith, fwd_path (from_path all_limits p), stop_slot q)

pub stop_entities : {ts : List Lexeme} {s : Cursor} {es : List EntityLiteral} {f : Stop} {n : ℕ} → ReadsEntities ts s es (halt f n) → s.at ≤ n
stop_entities (r.entities_halt h p) = omega (arith, stop_entity p)
stop_entities (r.no_entity_comma h p l n) = omega (arith, fwd_entity (from_entity all_limits p))
stop_entities (r.more_entities h p l q) = omega (arith, fwd_entity (from_entity all_limits p), stop_entities q)

pub stop_action_constraint : {ts : List Lexeme} {s : Cursor} {f : Stop} {n : ℕ} → ReadsActionConstraint ts s (halt f n) → s.at < n
stop_action_constraint (r.equal_action_halts h p) = omega (arith, stop_entity p)
stop_action_constraint (r.within_action_halts h l p) = omega (arith, stop_entity p)
stop_action_constraint (r.within_actions_halt h l p) = omega (arith, stop_entities p)

pub stop_scope : {ts : List Lexeme} {w : List ℕ} {s : Cursor} {f : Stop} {n : ℕ} → ReadsScope ts w s (halt f n) → s.at ≤ n
stop_scope (r.no_scope h) = omega arith
stop_scope (r.constraint_halts h p) = omega (arith, stop_constraint p)

pub stop_principal : {ts : List Lexeme} {s : Cursor} {f : Stop} {n : ℕ} → ReadsPrincipal ts s (halt f n) → s.at ≤ n
stop_principal (r.principal_halts p) = omega (arith, stop_scope p)
stop_principal (r.no_principal_comma p h) = omega (arith, fwd_part (from_scope all_limits p))

pub stop_action : {ts : List Lexeme} {s : Cursor} {f : Stop} {n : ℕ} → ReadsAction ts s (halt f n) → s.at ≤ n
stop_action (r.no_action h) = omega arith
stop_action (r.action_halts h p) = omega (arith, stop_action_constraint p)
stop_action (r.no_action_comma h p l) = omega (arith, fwd_action_asked (from_action_constraint all_limits p))

pub stop_resource : {ts : List Lexeme} {s : Cursor} {f : Stop} {n : ℕ} → ReadsResource ts s (halt f n) → s.at ≤ n
stop_resource (r.resource_halts p) = omega (arith, stop_scope p)
stop_resource (r.scope_unclosed p h l) = omega (arith, fwd_part (from_scope all_limits p))
stop_resource (r.scope_comma_unclosed p h l) = omega (arith, fwd_part (from_scope all_limits p))

pub stop_scopes : {ts : List Lexeme} {s : Cursor} {f : Stop} {n : ℕ} → ReadsScopes ts s (halt f n) → s.at ≤ n
stop_scopes (r.no_parenthesis h) = omega arith
stop_scopes (r.scopes_principal_halts h p) = omega (arith, stop_principal p)
stop_scopes (r.scopes_action_halts h p q) = omega (arith, fwd_principal p, stop_action q)
stop_scopes (r.scopes_resource_halts h p q u) = omega (arith, fwd_principal p, fwd_action q, stop_resource u)

pub stop_clauses : {ts : List Lexeme} {s : Cursor} {cs : List Condition} {f : Stop} {n : ℕ} → ReadsClauses ts s cs (halt f n) → s.at < n
stop_clauses (r.no_brace h l) = omega arith
stop_clauses (r.clause_halts h l p) = omega (arith, stop_enclosed p)
stop_clauses (r.clause h l p q) = omega (arith, fwd_enclosed (from_enclosed all_limits p), stop_clauses q)

pub stop_policy : {ts : List Lexeme} {s : Cursor} {f : Stop} {n : ℕ} → ReadsPolicy ts s (halt f n) → s.at ≤ n
stop_policy (r.head_halts p) = omega (arith, stop_head p)
stop_policy (r.scopes_halt p q) = omega (arith, fwd_head (from_head all_limits p), stop_scopes q)
stop_policy (r.clauses_halt p q u) = omega (arith, fwd_head (from_head all_limits p), fwd_whole_scope (from_scopes all_limits q), stop_clauses u)
stop_policy (r.no_semicolon p q u h) = omega (arith, fwd_head (from_head all_limits p), fwd_whole_scope (from_scopes all_limits q), fwd_clauses (from_clauses all_limits u))

pub stop_policies : {ts : List Lexeme} {i : ℕ} {ps : List Policy} {f : Stop} {n : ℕ} → ReadsPolicies ts i ps (halt f n) → i ≤ n
stop_policies (r.too_many h l) = omega arith
stop_policies (r.no_policy h l) = omega arith
stop_policies (r.policy_halts h l p) = omega (arith, stop_policy p)
stop_policies (r.more_policies h l p q) = omega (arith, fwd_policy (from_policy all_limits p), stop_policies q)
