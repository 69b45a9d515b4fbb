-- What is spelled of a file by tokens is spelled by any others that are the same so far, also where fewer limits are kept.
use Rattle.std.proofs.Common.{ℕ, ◌+◌, List, arith}
use Rattle.sc_ast.specs.declared.place.Place.{Place}
use Rattle.sc_ast.specs.declared.literal.EntityLiteral.{EntityLiteral}
use Rattle.sc_lexemes.specs.declared.cursor.Cursor.{Cursor}
use Rattle.sc_lexemes.specs.declared.lexeme.Lexeme.{Lexeme}
use Rattle.sc_ast.specs.declared.policy.Effect.{Effect}
use Rattle.sc_ast.specs.declared.policy.Condition.{Condition}
use Rattle.sc_ast.specs.declared.policy.Policy.{Policy}
use Rattle.sc_ast.specs.declared.scope.Constraint.{Constraint}
use Rattle.sc_ast.specs.declared.scope.ActionConstraint.{ActionConstraint}
use Rattle.sc_ast.specs.declared.scope.Scope.{Scope}
use Rattle.sc_ast.specs.declared.scope.ActionScope.{ActionScope}
use Rattle.sc_parser.specs.declared.scopes.Scopes.{Scopes}
use Rattle.sc_parser.specs.GrammarFiles.{Head, Slot, Asked, Entities, AskedOfAction, ScopePart, ActionPart, ScopeEnd, WholeScope, Clauses, OnePolicy, Policies, effect, bare_annotation, annotation, no_slot, slot, any, equal, within, of_type, of_type_within, entities_end, last_entity, more_entities, any_action, equal_action, within_action, within_actions, part, action_part, scope_end, scope_comma_end, whole_scope, clauses_end, clauses_more, policy, policies_end, policies_more}
use Rattle.sc_parser.specs.Faults.{Shares}
use Rattle.sc_parser.specs.Limits.{Limits}
use Rattle.sc_parser.proofs.PlainTokensLaws.{Weaker, fewer, moved, moved_effect, moved_clause}
use Rattle.sc_parser.proofs.PlainForwardLaws.{fwd_path, fwd_entity, fwd_enclosed}
use Rattle.sc_parser.proofs.PlainForwardFileLaws.{fwd_head, fwd_slot, fwd_asked, fwd_entities, fwd_action_asked, fwd_part, fwd_action_part, fwd_scope_end, fwd_whole_scope, fwd_clauses, fwd_policy, fwd_policies}
use Rattle.sc_parser.proofs.PlainMovedLaws.{move_path, move_entity, move_enclosed}

pub move_head : {K L : Limits} {ts us : List Lexeme} {s : Cursor} {p : Place} {e : Effect} {t : Cursor} → Weaker K L → Shares ts us t.at → Head K ts s p e t → Head L us s p e t
move_head w g (effect h) = effect (moved_effect g (omega arith) h)
move_head w g (bare_annotation h l p) = bare_annotation (moved g (omega (arith, fwd_head p)) h) (moved g (omega (arith, fwd_head p)) l) (move_head w g p)
move_head w g (annotation h l n o e p) = annotation (moved g (omega (arith, fwd_head p)) h) (moved g (omega (arith, fwd_head p)) l) (moved g (omega (arith, fwd_head p)) n) (moved g (omega (arith, fwd_head p)) o) (moved g (omega (arith, fwd_head p)) e) (move_head w g p)

pub move_slot : {K L : Limits} {ts us : List Lexeme} {s : Cursor} {e : EntityLiteral} {t : Cursor} → Weaker K L → Shares ts us t.at → Slot K ts s e t → Slot L us s e t
move_slot w g (no_slot p) = no_slot (move_entity w g p)
move_slot w g (slot h l) = slot (moved g (omega arith) h) (λ x. l (w _ _ x))

pub move_asked : {K L : Limits} {ts us : List Lexeme} {s : Cursor} {c : Constraint} {t : Cursor} → Weaker K L → Shares ts us t.at → Asked K ts s c t → Asked L us s c t
move_asked w g any = any
move_asked w g (equal h p) = equal (moved g (omega (arith, fwd_slot p)) h) (move_slot w g p)
move_asked w g (within h p) = within (moved g (omega (arith, fwd_slot p)) h) (move_slot w g p)
move_asked w g (of_type h p) = of_type (moved g (omega (arith, fwd_path p)) h) (move_path w g p)
move_asked w g (of_type_within h p l q) = let i = fwd_path p in let j = fwd_slot q in of_type_within (moved g (omega (arith, i, j)) h) (move_path w (fewer g (omega (arith, i, j))) p) (moved g (omega (arith, i, j)) l) (move_slot w g q)

pub move_entities : {K L : Limits} {ts us : List Lexeme} {s : Cursor} {es fs : List EntityLiteral} {t : Cursor} → Weaker K L → Shares ts us (t.at + 1) → Entities K ts s es fs t → Entities L us s es fs t
move_entities w g (entities_end h) = entities_end (moved g (omega arith) h)
move_entities w g (last_entity p h) = last_entity (move_entity w (fewer g (omega (arith, fwd_entity p))) p) (moved g (omega (arith, fwd_entity p)) h)
move_entities w g (more_entities p h q) = let i = fwd_entity p in let j = fwd_entities q in more_entities (move_entity w (fewer g (omega (arith, i, j))) p) (moved g (omega (arith, i, j)) h) (move_entities w g q)

pub move_action_asked : {K L : Limits} {ts us : List Lexeme} {s : Cursor} {c : ActionConstraint} {t : Cursor} → Weaker K L → Shares ts us t.at → AskedOfAction K ts s c t → AskedOfAction L us s c t
move_action_asked w g any_action = any_action
move_action_asked w g (equal_action h p) = equal_action (moved g (omega (arith, fwd_entity p)) h) (move_entity w g p)
move_action_asked w g (within_action h p) = within_action (moved g (omega (arith, fwd_entity p)) h) (move_entity w g p)
move_action_asked w g (within_actions h l p) = within_actions (moved g (omega (arith, fwd_entities p)) h) (moved g (omega (arith, fwd_entities p)) l) (move_entities w g p)

pub move_part : {K L : Limits} {ts us : List Lexeme} {n : List ℕ} {s : Cursor} {x : Scope} {t : Cursor} → Weaker K L → Shares ts us t.at → ScopePart K ts n s x t → ScopePart L us n s x t
move_part w g (part h p) = part (moved g (omega (arith, fwd_asked p)) h) (move_asked w g p)

pub move_action_part : {K L : Limits} {ts us : List Lexeme} {s : Cursor} {x : ActionScope} {t : Cursor} → Weaker K L → Shares ts us t.at → ActionPart K ts s x t → ActionPart L us s x t
move_action_part w g (action_part h p) = action_part (moved g (omega (arith, fwd_action_asked p)) h) (move_action_asked w g p)

pub move_scope_end : {K L : Limits} {ts us : List Lexeme} {s t : Cursor} → Weaker K L → Shares ts us t.at → ScopeEnd K ts s t → ScopeEnd L us s t
move_scope_end w g (scope_end h) = scope_end (moved g (omega arith) h)
move_scope_end w g (scope_comma_end h l) = scope_comma_end (moved g (omega arith) h) (moved g (omega arith) l)

pub move_whole_scope : {K L : Limits} {ts us : List Lexeme} {s : Cursor} {x : Scopes} {t : Cursor} → Weaker K L → Shares ts us t.at → WholeScope K ts s x t → WholeScope L us s x t
move_whole_scope w g (whole_scope h p l q n u v) = let i = fwd_part p in let j = fwd_action_part q in let k = fwd_part u in let m = fwd_scope_end v in whole_scope (moved g (omega (arith, i, j, k, m)) h) (move_part w (fewer g (omega (arith, i, j, k, m))) p) (moved g (omega (arith, i, j, k, m)) l) (move_action_part w (fewer g (omega (arith, i, j, k, m))) q) (moved g (omega (arith, i, j, k, m)) n) (move_part w (fewer g (omega (arith, i, j, k, m))) u) (move_scope_end w g v)

pub move_clauses : {K L : Limits} {ts us : List Lexeme} {s : Cursor} {cs ds : List Condition} {t : Cursor} → Weaker K L → Shares ts us t.at → Clauses K ts s cs ds t → Clauses L us s cs ds t
move_clauses w g clauses_end = clauses_end
move_clauses w g (clauses_more h l p q) = let i = fwd_enclosed p in let j = fwd_clauses q in clauses_more (moved_clause g (omega (arith, i, j)) h) (moved g (omega (arith, i, j)) l) (move_enclosed w (fewer g (omega (arith, i, j))) p) (move_clauses w g q)

pub move_policy : {K L : Limits} {ts us : List Lexeme} {s : Cursor} {x : Policy} {t : Cursor} → Weaker K L → Shares ts us t.at → OnePolicy K ts s x t → OnePolicy L us s x t
move_policy w g (policy p q u h) = let i = fwd_head p in let j = fwd_whole_scope q in let k = fwd_clauses u in policy (move_head w (fewer g (omega (arith, i, j, k))) p) (move_whole_scope w (fewer g (omega (arith, i, j, k))) q) (move_clauses w (fewer g (omega (arith, i, j, k))) u) (moved g (omega (arith, i, j, k)) h)

pub move_policies : {K L : Limits} {ts us : List Lexeme} {i : ℕ} {ps qs : List Policy} {j : ℕ} → Weaker K L → Shares ts us j → Policies K ts i ps qs j → Policies L us i ps qs j
move_policies w g policies_end = policies_end
move_policies w g (policies_more h p q) = let i = fwd_policy p in let j = fwd_policies q in policies_more (λ x. h (w _ _ x)) (move_policy w (fewer g (omega (arith, i, j))) p) (move_policies w g q)
