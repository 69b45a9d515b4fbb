-- What is spelled of a file takes tokens.
use Rattle.std.proofs.Common.{ℕ, ◌≤◌, ◌<◌, List, arith}
use Rattle.sc_ast.specs.declared.place.Place.{Place}
use Rattle.sc_ast.specs.declared.literal.EntityLiteral.{EntityLiteral}
use Rattle.sc_lexemes.specs.declared.cursor.Cursor.{Cursor}
use Rattle.sc_lexemes.specs.declared.lexeme.Lexeme.{Lexeme}
use Rattle.sc_ast.specs.declared.policy.Effect.{Effect}
use Rattle.sc_ast.specs.declared.policy.Condition.{Condition}
use Rattle.sc_ast.specs.declared.policy.Policy.{Policy}
use Rattle.sc_ast.specs.declared.scope.Constraint.{Constraint}
use Rattle.sc_ast.specs.declared.scope.ActionConstraint.{ActionConstraint}
use Rattle.sc_ast.specs.declared.scope.Scope.{Scope}
use Rattle.sc_ast.specs.declared.scope.ActionScope.{ActionScope}
use Rattle.sc_parser.specs.declared.scopes.Scopes.{Scopes}
use Rattle.sc_parser.specs.GrammarFiles.{Head, Slot, Asked, Entities, AskedOfAction, ScopePart, ActionPart, ScopeEnd, WholeScope, Clauses, OnePolicy, Policies, effect, bare_annotation, annotation, no_slot, slot, any, equal, within, of_type, of_type_within, entities_end, last_entity, more_entities, any_action, equal_action, within_action, within_actions, part, action_part, scope_end, scope_comma_end, whole_scope, clauses_end, clauses_more, policy, policies_end, policies_more}
use Rattle.sc_parser.specs.Limits.{Limits}
use Rattle.sc_parser.proofs.PlainForwardLaws.{fwd_path, fwd_entity, fwd_enclosed}

pub fwd_head : {K : Limits} {ts : List Lexeme} {s : Cursor} {p : Place} {e : Effect} {t : Cursor} → Head K ts s p e t → s.at < t.at
fwd_head (effect h) = omega arith
fwd_head (bare_annotation h l p) = omega (arith, fwd_head p)
fwd_head (annotation h l n o e p) = omega (arith, fwd_head p)

pub fwd_slot : {K : Limits} {ts : List Lexeme} {s : Cursor} {e : EntityLiteral} {t : Cursor} → Slot K ts s e t → s.at < t.at
fwd_slot (no_slot p) = omega (arith, fwd_entity p)
fwd_slot (slot h l) = omega arith

pub fwd_asked : {K : Limits} {ts : List Lexeme} {s : Cursor} {c : Constraint} {t : Cursor} → Asked K ts s c t → s.at ≤ t.at
fwd_asked any = omega arith
fwd_asked (equal h p) = omega (arith, fwd_slot p)
fwd_asked (within h p) = omega (arith, fwd_slot p)
fwd_asked (of_type h p) = omega (arith, fwd_path p)
fwd_asked (of_type_within h p l q) = omega (arith, fwd_path p, fwd_slot q)

pub fwd_entities : {K : Limits} {ts : List Lexeme} {s : Cursor} {es fs : List EntityLiteral} {t : Cursor} → Entities K ts s es fs t → s.at ≤ t.at
fwd_entities (entities_end h) = omega arith
fwd_entities (last_entity p h) = omega (arith, fwd_entity p)
fwd_entities (more_entities p h q) = omega (arith, fwd_entity p, fwd_entities q)

pub fwd_action_asked : {K : Limits} {ts : List Lexeme} {s : Cursor} {c : ActionConstraint} {t : Cursor} → AskedOfAction K ts s c t → s.at ≤ t.at
fwd_action_asked any_action = omega arith
fwd_action_asked (equal_action h p) = omega (arith, fwd_entity p)
fwd_action_asked (within_action h p) = omega (arith, fwd_entity p)
fwd_action_asked (within_actions h l p) = omega (arith, fwd_entities p)

pub fwd_part : {K : Limits} {ts : List Lexeme} {n : List ℕ} {s : Cursor} {x : Scope} {t : Cursor} → ScopePart K ts n s x t → s.at < t.at
fwd_part (part h p) = omega (arith, fwd_asked p)

pub fwd_action_part : {K : Limits} {ts : List Lexeme} {s : Cursor} {x : ActionScope} {t : Cursor} → ActionPart K ts s x t → s.at < t.at
fwd_action_part (action_part h p) = omega (arith, fwd_action_asked p)

pub fwd_scope_end : {K : Limits} {ts : List Lexeme} {s t : Cursor} → ScopeEnd K ts s t → s.at < t.at
fwd_scope_end (scope_end h) = omega arith
fwd_scope_end (scope_comma_end h l) = omega arith

pub fwd_whole_scope : {K : Limits} {ts : List Lexeme} {s : Cursor} {x : Scopes} {t : Cursor} → WholeScope K ts s x t → s.at < t.at
fwd_whole_scope (whole_scope h p l q n u v) = omega (arith, fwd_part p, fwd_action_part q, fwd_part u, fwd_scope_end v)

pub fwd_clauses : {K : Limits} {ts : List Lexeme} {s : Cursor} {cs ds : List Condition} {t : Cursor} → Clauses K ts s cs ds t → s.at ≤ t.at
fwd_clauses clauses_end = omega arith
fwd_clauses (clauses_more h l p q) = omega (arith, fwd_enclosed p, fwd_clauses q)

pub fwd_policy : {K : Limits} {ts : List Lexeme} {s : Cursor} {x : Policy} {t : Cursor} → OnePolicy K ts s x t → s.at < t.at
fwd_policy (policy p q u h) = omega (arith, fwd_head p, fwd_whole_scope q, fwd_clauses u)

pub fwd_policies : {K : Limits} {ts : List Lexeme} {i : ℕ} {ps qs : List Policy} {j : ℕ} → Policies K ts i ps qs j → i ≤ j
fwd_policies policies_end = omega arith
fwd_policies (policies_more h p q) = omega (arith, fwd_policy p, fwd_policies q)
