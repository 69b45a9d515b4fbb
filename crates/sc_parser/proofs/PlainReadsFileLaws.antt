-- What is read of a file is spelled, whichever limits are to be kept.
use Rattle.std.proofs.Common.{◌≡◌, ℕ, List, codes, refl, sym, subst}
use Rattle.sc_ast.specs.declared.place.Place.{Place}
use Rattle.sc_ast.specs.declared.literal.EntityLiteral.{EntityLiteral}
use Rattle.sc_ast.specs.declared.policy.Effect.{Effect}
use Rattle.sc_ast.specs.declared.policy.Condition.{Condition}
use Rattle.sc_ast.specs.declared.policy.Policy.{Policy}
use Rattle.sc_ast.specs.declared.scope.Constraint.{Constraint}
use Rattle.sc_ast.specs.declared.scope.ActionConstraint.{ActionConstraint}
use Rattle.sc_ast.specs.declared.scope.Scope.{Scope}
use Rattle.sc_ast.specs.declared.scope.ActionScope.{ActionScope}
use Rattle.sc_lexer.specs.declared.token.Kind.TheVariants as kind
use Rattle.sc_lexemes.specs.declared.cursor.Cursor.{Cursor}
use Rattle.sc_lexemes.specs.declared.lexeme.Lexeme.{Lexeme}
use Rattle.sc_lexemes.specs.declared.lexeme.Shape.TheVariants.{Sign}
use Rattle.sc_parser.specs.declared.scopes.Scopes.{Scopes}
use Rattle.sc_lexemes.specs.Depth.{next}
use Rattle.sc_parser.specs.GrammarFiles.{Head, Slot, Asked, Entities, AskedOfAction, ScopePart, ActionPart, ScopeEnd, WholeScope, Clauses, OnePolicy, Policies, effect, bare_annotation, annotation, no_slot, any, equal, within, of_type, of_type_within, entities_end, last_entity, more_entities, any_action, equal_action, within_action, within_actions, part, action_part, scope_end, scope_comma_end, whole_scope, clauses_end, clauses_more, policy, policies_end, policies_more}
use Rattle.sc_lexemes.specs.Lexemes.{Is}
use Rattle.sc_parser.specs.Limits.{Limits}
use Rattle.sc_lexemes.specs.Outcomes.{read}
use Rattle.sc_parser.specs.ReadsFiles.{SkipsAnnotation, ReadsHead, ReadsSlot, ReadsConstraint, ReadsEntities, ReadsActionConstraint, ReadsScope, ReadsPrincipal, ReadsAction, ReadsResource, ReadsScopes, ReadsClauses, ReadsPolicy, ReadsPolicies}
use Rattle.sc_parser.specs.ReadsFiles as r
use Rattle.sc_parser.proofs.PlainReadsLaws.{from_path, from_entity, from_enclosed}

pub from_annotation : (K : Limits) {ts : List Lexeme} {s t u : Cursor} {p : Place} {e : Effect} → SkipsAnnotation ts s t → Head K ts t p e u → Head K ts s p e u
from_annotation K (r.bare_annotation h l n) q = bare_annotation h l q
from_annotation K (r.annotation h l n o m) q = annotation h l n o m q

pub from_head : (K : Limits) {ts : List Lexeme} {s t : Cursor} {p : Place} {e : Effect} → ReadsHead ts s (read (p, e) t) → Head K ts s p e t
from_head K (r.effect h) = effect h
from_head K (r.annotated p q) = from_annotation K p (from_head K q)

pub from_slot : (K : Limits) {ts : List Lexeme} {s t : Cursor} {e : EntityLiteral} → ReadsSlot ts s (read e t) → Slot K ts s e t
from_slot K (r.no_slot n p) = no_slot (from_entity K p)

pub from_constraint : (K : Limits) {ts : List Lexeme} {s t : Cursor} {c : Constraint} → ReadsConstraint ts s (read c t) → Asked K ts s c t
from_constraint K (r.any n m o) = any
from_constraint K (r.equal h p) = equal h (from_slot K p)
from_constraint K (r.within h p) = within h (from_slot K p)
from_constraint K (r.of_type h p n) = of_type h (from_path K p)
from_constraint K (r.of_type_within h p l q) = of_type_within h (from_path K p) l (from_slot K q)

pub from_entities : (K : Limits) {ts : List Lexeme} {s t : Cursor} {es fs : List EntityLiteral} → ReadsEntities ts s es (read fs t) → Entities K ts s es fs t
from_entities K (r.entities_end h) = entities_end h
from_entities K (r.last_entity n p h) = last_entity (from_entity K p) h
from_entities K (r.more_entities n p h q) = more_entities (from_entity K p) h (from_entities K q)

pub from_action_constraint : (K : Limits) {ts : List Lexeme} {s t : Cursor} {c : ActionConstraint} → ReadsActionConstraint ts s (read c t) → AskedOfAction K ts s c t
from_action_constraint K (r.any_action n m) = any_action
from_action_constraint K (r.equal_action h p) = equal_action h (from_entity K p)
from_action_constraint K (r.within_action h n p) = within_action h (from_entity K p)
from_action_constraint K (r.within_actions h l p) = within_actions h l (from_entities K p)

pub from_scope : (K : Limits) {ts : List Lexeme} {w : List ℕ} {s t : Cursor} {x : Scope} → ReadsScope ts w s (read x t) → ScopePart K ts w s x t
from_scope K (r.scope h p) = part h (from_constraint K p)

-- the part on the principal, and the comma behind it
pub record PrincipalPart (K : Limits) (ts : List Lexeme) (s : Cursor) (x : Scope) (t : Cursor) : Type 0 where
  pub till : Cursor
  pub place : Place
  pub spelled : ScopePart K ts (codes "principal") s x till
  pub comma : Is ts till.at place (Sign kind.Comma)
  pub ends : next till ≡ t

-- the part on the action, and the comma behind it
pub record ActionPartComma (K : Limits) (ts : List Lexeme) (s : Cursor) (x : ActionScope) (t : Cursor) : Type 0 where
  pub till : Cursor
  pub place : Place
  pub spelled : ActionPart K ts s x till
  pub comma : Is ts till.at place (Sign kind.Comma)
  pub ends : next till ≡ t

-- the part on the resource, and the end of the scope
pub record ResourcePart (K : Limits) (ts : List Lexeme) (s : Cursor) (x : Scope) (t : Cursor) : Type 0 where
  pub till : Cursor
  pub spelled : ScopePart K ts (codes "resource") s x till
  pub ends : ScopeEnd K ts till t

pub from_principal : (K : Limits) {ts : List Lexeme} {s t : Cursor} {x : Scope} → ReadsPrincipal ts s (read x t) → PrincipalPart K ts s x t
from_principal K (r.principal p h) = record { till = _; place = _; spelled = from_scope K p; comma = h; ends = refl }

pub from_action : (K : Limits) {ts : List Lexeme} {s t : Cursor} {x : ActionScope} → ReadsAction ts s (read x t) → ActionPartComma K ts s x t
from_action K (r.action_scope h p l) = record { till = _; place = _; spelled = action_part h (from_action_constraint K p); comma = l; ends = refl }

pub from_resource : (K : Limits) {ts : List Lexeme} {s t : Cursor} {x : Scope} → ReadsResource ts s (read x t) → ResourcePart K ts s x t
from_resource K (r.resource p h) = record { till = _; spelled = from_scope K p; ends = scope_end h }
from_resource K (r.resource_comma p h l) = record { till = _; spelled = from_scope K p; ends = scope_comma_end h l }

-- the parts are a whole scope
pub whole_scope_of : (K : Limits) {ts : List Lexeme} {s t u v : Cursor} {p : Place} {x z : Scope} {y : ActionScope} → Is ts s.at p (Sign kind.OpenParenthesis) → PrincipalPart K ts (next s) x t → ActionPartComma K ts t y u → ResourcePart K ts u z v → WholeScope K ts s (record { principal = x; action = y; resource = z }) v
whole_scope_of K {ts = ts} {z = z} {y = y} h a b c = whole_scope h a.spelled a.comma (subst (λ i. ActionPart K ts i y b.till) (sym a.ends) b.spelled) b.comma (subst (λ i. ScopePart K ts (codes "resource") i z c.till) (sym b.ends) c.spelled) c.ends

pub from_scopes : (K : Limits) {ts : List Lexeme} {s t : Cursor} {x : Scopes} → ReadsScopes ts s (read x t) → WholeScope K ts s x t
from_scopes K (r.scopes h p q u) = whole_scope_of K h (from_principal K p) (from_action K q) (from_resource K u)

pub from_clauses : (K : Limits) {ts : List Lexeme} {s t : Cursor} {cs ds : List Condition} → ReadsClauses ts s cs (read ds t) → Clauses K ts s cs ds t
from_clauses K (r.clauses_end n) = clauses_end
from_clauses K (r.clause h l p q) = clauses_more h l (from_enclosed K p) (from_clauses K q)

pub from_policy : (K : Limits) {ts : List Lexeme} {s t : Cursor} {x : Policy} → ReadsPolicy ts s (read x t) → OnePolicy K ts s x t
from_policy K (r.policy p q u h) = policy (from_head K p) (from_scopes K q) (from_clauses K u) h

pub from_policies : (K : Limits) {ts : List Lexeme} {i : ℕ} {t : Cursor} {ps qs : List Policy} → ReadsPolicies ts i ps (read qs t) → Policies K ts i ps qs t.at
from_policies K (r.file_ends e) = policies_end
from_policies K (r.more_policies h l p q) = policies_more (λ k. l) (from_policy K p) (from_policies K q)
