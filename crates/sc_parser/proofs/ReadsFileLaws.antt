-- Reading policies runs their programs.
use Rattle.std.proofs.Common.{◌≡◌, ℕ, List, refl, sym, subst}
use Rattle.sc_ast.specs.declared.place.Place.{Place}
use Rattle.sc_ast.specs.declared.literal.EntityLiteral.{EntityLiteral}
use Rattle.sc_ast.specs.declared.policy.Effect.{Effect}
use Rattle.sc_ast.specs.declared.policy.Condition.{Condition}
use Rattle.sc_ast.specs.declared.policy.Policy.{Policy}
use Rattle.sc_ast.specs.declared.scope.Constraint.{Constraint}
use Rattle.sc_ast.specs.declared.scope.ActionConstraint.{ActionConstraint}
use Rattle.sc_ast.specs.declared.scope.Scope.{Scope}
use Rattle.sc_ast.specs.declared.scope.ActionScope.{ActionScope}
use Rattle.sc_lexer.specs.declared.token.Kind.TheVariants as kind
use Rattle.sc_lexemes.specs.declared.cursor.Cursor.{Cursor}
use Rattle.sc_lexemes.specs.declared.lexeme.Lexeme.{Lexeme}
use Rattle.sc_lexemes.specs.declared.lexeme.Shape.TheVariants as shape
use Rattle.sc_parser.specs.declared.scopes.Scopes.{Scopes}
use Rattle.sc_lexemes.specs.declared.stop.Stop.{Stop}
use Rattle.sc_lexemes.specs.declared.stop.Stop.TheVariants as stop
use Rattle.sc_lexemes.specs.Depth.{outside}
use Rattle.sc_lexemes.specs.Lexemes.{Is}
use Rattle.sc_parser.specs.Limits.{all_limits}
use Rattle.sc_lexemes.specs.Outcomes.{Outcome, read, halt}
use Rattle.sc_parser.specs.ReadsFiles.{SkipsAnnotation, HaltsAnnotation, ReadsHead, ReadsSlot, ReadsConstraint, ReadsEntities, ReadsActionConstraint, ReadsScope, ReadsPrincipal, ReadsAction, ReadsResource, ReadsScopes, ReadsClauses, ReadsPolicy, ReadsPolicies}
use Rattle.sc_parser.specs.ReadsFiles as r
use Rattle.sc_parser.proofs.Sorts as sort
use Rattle.sc_parser.proofs.Nonterminals as n
use Rattle.sc_parser.proofs.Productions.{production}
use Rattle.sc_parser.proofs.Runs.{Runs, does, fails, finds, lacks, goes, keeps, breaks, calls, halts}
use Rattle.sc_parser.proofs.TestLaws.{other, other_word}
use Rattle.sc_parser.proofs.HeadLaws.{effect_no_sign, plus_two, plus_three, plus_four, there, annotation_alone, annotation_told, start_is, start_no_end, some_none}
use Rattle.sc_parser.proofs.RunLaws.{tail}
use Rattle.sc_parser.proofs.ReadsWordLaws.{into_path, into_entity}
use Rattle.sc_parser.proofs.ReadsLaws.{into_enclosed}

skips : {ts : List Lexeme} {s t : Cursor} {o : Outcome (Place × Effect)} → SkipsAnnotation ts s t → Runs all_limits ts sort.head (production n.head) t o → Runs all_limits ts sort.head (production n.head) s o
skips (r.bare_annotation h g l) a = annotation_alone h g l a
skips (r.annotation h g i j k) a = annotation_told h g i j k a

stops_at : {ts : List Lexeme} {s : Cursor} {i j : ℕ} → i ≡ j → Runs all_limits ts sort.head (production n.head) s (halt stop.Unexpected j) → Runs all_limits ts sort.head (production n.head) s (halt stop.Unexpected i)
stops_at {ts = ts} {s = s} e a = subst (λ k. Runs all_limits ts sort.head (production n.head) s (halt stop.Unexpected k)) (sym e) a

halts_there : {ts : List Lexeme} {s : Cursor} {f : Stop} {m : ℕ} → HaltsAnnotation ts s f m → Runs all_limits ts sort.head (production n.head) s (halt f m)
halts_there (r.no_annotation_word {p = p} h l) = finds p h (goes h (lacks (λ x g. l x.0 x.1 g) fails))
halts_there {ts = ts} {s = s} (r.no_annotation_string {p = p} {q = q} {r = r} {w = w} h g i l) =
    let i' = there ts (plus_two s.at) i in
    stops_at (plus_three s.at) (finds p h (goes h (finds (q, w) g (goes g (finds r i' (goes i' (lacks (λ x j. l x.0 x.1 x.2 (there ts (sym (plus_three s.at)) j)) fails)))))))
halts_there {ts = ts} {s = s} (r.annotation_unclosed {p = p} {q = q} {r = r} {v = v} {w = w} {t = t} {parts = parts} h g i j l) =
    let i' = there ts (plus_two s.at) i in let j' = there ts (plus_three s.at) j in
    stops_at (plus_four s.at) (finds p h (goes h (finds (q, w) g (goes g (finds r i' (goes i' (finds (v, t, parts) j' (goes j' (lacks (λ x k. l x (there ts (sym (plus_four s.at)) k)) fails)))))))))

pub into_head : {ts : List Lexeme} {s : Cursor} {o : Outcome (Place × Effect)} → ReadsHead ts s o → Runs all_limits ts sort.head (production n.head) s o
into_head {ts = ts} {s = s} (r.effect {p = p} {e = e} h) = lacks (effect_no_sign ts s.at h) (finds (p, e) h (goes h.is does))
into_head (r.no_effect n m) = lacks n (lacks (λ x h. m x.0 x.1 h) fails)
into_head (r.annotation_halts a) = halts_there a
into_head (r.annotated a b) = skips a (into_head b)

pub into_slot : {ts : List Lexeme} {s : Cursor} {o : Outcome EntityLiteral} → ReadsSlot ts s o → Runs all_limits ts sort.uid (production n.slot) s o
into_slot (r.slot {p = p} h) = finds p h (breaks refl h refl refl)
into_slot (r.no_slot n a) = lacks n (tail (into_entity a))

pub into_asked : {ts : List Lexeme} {s : Cursor} {o : Outcome Constraint} → ReadsConstraint ts s o → Runs all_limits ts sort.constraint (production n.asked) s o
into_asked (r.any n m l) = lacks n (lacks m (lacks l does))
into_asked (r.equal {p = p} h a) = finds p h (goes h (calls (into_slot a) does))
into_asked (r.equal_halts {p = p} h a) = finds p h (goes h (halts (into_slot a)))
into_asked {ts = ts} {s = s} (r.within {p = p} h a) = lacks (other ts s.at h (λ e. cc)) (finds p h (goes h (calls (into_slot a) does)))
into_asked {ts = ts} {s = s} (r.within_halts {p = p} h a) = lacks (other ts s.at h (λ e. cc)) (finds p h (goes h (halts (into_slot a))))
into_asked {ts = ts} {s = s} (r.type_halts {p = p} h a) = lacks (other ts s.at h (λ e. cc)) (lacks (other ts s.at h (other_word _ _ refl refl)) (finds p h (goes h (halts (into_path a)))))
into_asked {ts = ts} {s = s} (r.of_type {p = p} h a n) = lacks (other ts s.at h (λ e. cc)) (lacks (other ts s.at h (other_word _ _ refl refl)) (finds p h (goes h (calls (into_path a) (lacks n does)))))
into_asked {ts = ts} {s = s} (r.of_type_within_halts {p = p} {q = q} h a g b) = lacks (other ts s.at h (λ e. cc)) (lacks (other ts s.at h (other_word _ _ refl refl)) (finds p h (goes h (calls (into_path a) (finds q g (goes g (halts (into_slot b))))))))
into_asked {ts = ts} {s = s} (r.of_type_within {p = p} {q = q} h a g b) = lacks (other ts s.at h (λ e. cc)) (lacks (other ts s.at h (other_word _ _ refl refl)) (finds p h (goes h (calls (into_path a) (finds q g (goes g (calls (into_slot b) does)))))))

-- the bracket stands behind the list
entities_closed : {ts : List Lexeme} {s t : Cursor} {es fs : List EntityLiteral} → ReadsEntities ts s es (read fs t) → (p : Place) × Is ts t.at p (shape.Sign kind.CloseBracket)
entities_closed (r.entities_end {p = p} h) = (p, h)
entities_closed (r.last_entity {p = p} n a h) = (p, h)
entities_closed (r.more_entities n a h b) = entities_closed b

pub into_entities : {ts : List Lexeme} {s : Cursor} {es : List EntityLiteral} {o : Outcome (List EntityLiteral)} → ReadsEntities ts s es o → Runs all_limits ts sort.uids (production (n.entities es)) s o
into_entities (r.entities_end {p = p} h) = finds p h does
into_entities (r.entities_halt n a) = lacks n (halts (into_entity a))
into_entities (r.last_entity {p = p} n a h) = lacks n (calls (into_entity a) (finds p h does))
into_entities (r.no_entity_comma n a m l) = lacks n (calls (into_entity a) (lacks m (lacks l fails)))
into_entities {ts = ts} (r.more_entities {t = t} {p = p} n a h b) = lacks n (calls (into_entity a) (lacks (other ts t.at h (λ e. cc)) (finds p h (goes h (tail (into_entities b))))))

pub into_asked_of_action : {ts : List Lexeme} {s : Cursor} {o : Outcome ActionConstraint} → ReadsActionConstraint ts s o → Runs all_limits ts sort.action_constraint (production n.asked_of_action) s o
into_asked_of_action (r.any_action n m) = lacks n (lacks m does)
into_asked_of_action (r.equal_action {p = p} h a) = finds p h (goes h (calls (into_entity a) does))
into_asked_of_action (r.equal_action_halts {p = p} h a) = finds p h (goes h (halts (into_entity a)))
into_asked_of_action {ts = ts} {s = s} (r.within_action {p = p} h n a) = lacks (other ts s.at h (λ e. cc)) (finds p h (goes h (lacks n (calls (into_entity a) does))))
into_asked_of_action {ts = ts} {s = s} (r.within_action_halts {p = p} h n a) = lacks (other ts s.at h (λ e. cc)) (finds p h (goes h (lacks n (halts (into_entity a)))))
into_asked_of_action {ts = ts} {s = s} (r.within_actions {p = p} {q = q} h g a) = lacks (other ts s.at h (λ e. cc)) (finds p h (goes h (finds q g (goes g (calls (into_entities a) (goes (entities_closed a).1 does))))))
into_asked_of_action {ts = ts} {s = s} (r.within_actions_halt {p = p} {q = q} h g a) = lacks (other ts s.at h (λ e. cc)) (finds p h (goes h (finds q g (goes g (halts (into_entities a))))))

pub into_scope_part : {ts : List Lexeme} {w : List ℕ} {s : Cursor} {o : Outcome Scope} → ReadsScope ts w s o → Runs all_limits ts sort.scope (production (n.scope_part w)) s o
into_scope_part (r.no_scope n) = lacks n fails
into_scope_part (r.constraint_halts {p = p} h a) = finds p h (goes h (halts (into_asked a)))
into_scope_part (r.scope {p = p} h a) = finds p h (goes h (calls (into_asked a) does))

pub into_principal_part : {ts : List Lexeme} {s : Cursor} {o : Outcome Scope} → ReadsPrincipal ts s o → Runs all_limits ts sort.scope (production n.principal_part) s o
into_principal_part (r.principal_halts a) = halts (into_scope_part a)
into_principal_part (r.no_principal_comma a n) = calls (into_scope_part a) (lacks n fails)
into_principal_part (r.principal {p = p} a h) = calls (into_scope_part a) (finds p h (goes h does))

pub into_action_part : {ts : List Lexeme} {s : Cursor} {o : Outcome ActionScope} → ReadsAction ts s o → Runs all_limits ts sort.action_scope (production n.action_part) s o
into_action_part (r.no_action n) = lacks n fails
into_action_part (r.action_halts {p = p} h a) = finds p h (goes h (halts (into_asked_of_action a)))
into_action_part (r.no_action_comma {p = p} h a n) = finds p h (goes h (calls (into_asked_of_action a) (lacks n fails)))
into_action_part (r.action_scope {p = p} {q = q} h a g) = finds p h (goes h (calls (into_asked_of_action a) (finds q g (goes g does))))

pub into_resource_part : {ts : List Lexeme} {s : Cursor} {o : Outcome Scope} → ReadsResource ts s o → Runs all_limits ts sort.scope (production n.resource_part) s o
into_resource_part (r.resource_halts a) = halts (into_scope_part a)
into_resource_part (r.resource {p = p} a h) = calls (into_scope_part a) (finds p h (goes h does))
into_resource_part (r.scope_unclosed a n m) = calls (into_scope_part a) (lacks n (lacks m fails))
into_resource_part {ts = ts} (r.resource_comma {t = t} {p = p} {q = q} a h g) = calls (into_scope_part a) (lacks (other ts t.at h (λ e. cc)) (finds p h (goes h (finds q g (goes g does)))))
into_resource_part {ts = ts} (r.scope_comma_unclosed {t = t} {p = p} a h n) = calls (into_scope_part a) (lacks (other ts t.at h (λ e. cc)) (finds p h (goes h (lacks n fails))))

pub into_whole_scope : {ts : List Lexeme} {s : Cursor} {o : Outcome Scopes} → ReadsScopes ts s o → Runs all_limits ts sort.scopes (production n.whole_scope) s o
into_whole_scope (r.no_parenthesis n) = lacks n fails
into_whole_scope (r.scopes_principal_halts {p = p} h a) = finds p h (goes h (halts (into_principal_part a)))
into_whole_scope (r.scopes_action_halts {p = p} h a b) = finds p h (goes h (calls (into_principal_part a) (halts (into_action_part b))))
into_whole_scope (r.scopes_resource_halts {p = p} h a b c) = finds p h (goes h (calls (into_principal_part a) (calls (into_action_part b) (halts (into_resource_part c)))))
into_whole_scope (r.scopes {p = p} h a b c) = finds p h (goes h (calls (into_principal_part a) (calls (into_action_part b) (calls (into_resource_part c) does))))

pub into_clauses : {ts : List Lexeme} {s : Cursor} {cs : List Condition} {o : Outcome (List Condition)} → ReadsClauses ts s cs o → Runs all_limits ts sort.conditions (production (n.clauses cs)) s o
into_clauses (r.clauses_end n) = lacks (λ x h. n x.0 x.1 h) does
into_clauses (r.no_brace {p = p} {k = k} h n) = finds (p, k) h (goes h.is (lacks n fails))
into_clauses (r.clause_halts {p = p} {q = q} {k = k} h g a) = finds (p, k) h (goes h.is (finds q g (goes g (halts (into_enclosed a)))))
into_clauses (r.clause {p = p} {q = q} {k = k} h g a b) = finds (p, k) h (goes h.is (finds q g (goes g (calls (into_enclosed a) (tail (into_clauses b))))))

pub into_policy : {ts : List Lexeme} {s : Cursor} {o : Outcome Policy} → ReadsPolicy ts s o → Runs all_limits ts sort.policy (production n.policy) s o
into_policy (r.head_halts a) = halts (into_head a)
into_policy (r.scopes_halt a b) = calls (into_head a) (halts (into_whole_scope b))
into_policy (r.clauses_halt a b c) = calls (into_head a) (calls (into_whole_scope b) (halts (into_clauses c)))
into_policy (r.no_semicolon a b c n) = calls (into_head a) (calls (into_whole_scope b) (calls (into_clauses c) (lacks n fails)))
into_policy (r.policy {q = q} a b c h) = calls (into_head a) (calls (into_whole_scope b) (calls (into_clauses c) (finds q h (goes h does))))

pub into_policies : {ts : List Lexeme} {i : ℕ} {ps : List Policy} {o : Outcome (List Policy)} → ReadsPolicies ts i ps o → Runs all_limits ts sort.policies (production (n.policies ps)) (outside i) o
into_policies (r.file_ends e) = finds tt e does
into_policies (r.too_many h e) = lacks (λ x g. start_no_end h g) (finds tt h (breaks refl (start_is h).1 refl e))
into_policies (r.no_policy h n) = lacks (λ x g. some_none h g) (lacks (λ x g. n g) fails)
into_policies (r.policy_halts h e a) = lacks (λ x g. start_no_end h g) (finds tt h (keeps (λ k. e) (halts (into_policy a))))
into_policies (r.more_policies h e a b) = lacks (λ x g. start_no_end h g) (finds tt h (keeps (λ k. e) (calls (into_policy a) (tail (into_policies b)))))
