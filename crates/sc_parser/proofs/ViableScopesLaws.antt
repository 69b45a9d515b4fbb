-- The head of a policy, and its scope, at which reading stops can be completed.
use Rattle.std.proofs.Common.{ℕ, ◌+◌, ◌≤◌, ◌++◌, List, [], ◌∷◌, refl, arith, length, le_refl, codes}
use Rattle.sc_ast.specs.declared.place.Place.{Place}
use Rattle.sc_ast.specs.declared.literal.EntityLiteral.{EntityLiteral}
use Rattle.sc_ast.specs.declared.policy.Effect.{Effect}
use Rattle.sc_ast.specs.declared.policy.Effect.TheVariants.{Permit}
use Rattle.sc_ast.specs.declared.scope.Constraint.{Constraint}
use Rattle.sc_ast.specs.declared.scope.Constraint.TheVariants as constraint
use Rattle.sc_ast.specs.declared.scope.ActionConstraint.{ActionConstraint}
use Rattle.sc_ast.specs.declared.scope.ActionConstraint.TheVariants as action
use Rattle.sc_ast.specs.declared.scope.Scope.{Scope}
use Rattle.sc_ast.specs.declared.scope.ActionScope.{ActionScope}
use Rattle.sc_lexer.specs.declared.token.Kind.TheVariants as kind
use Rattle.sc_lexemes.specs.declared.cursor.Cursor.{Cursor}
use Rattle.sc_lexemes.specs.declared.lexeme.Lexeme.{Lexeme}
use Rattle.sc_lexemes.specs.declared.lexeme.Shape.TheVariants.{Word}
use Rattle.sc_parser.specs.declared.scopes.Scopes.{Scopes}
use Rattle.sc_lexemes.specs.declared.stop.Stop.{Stop}
use Rattle.sc_lexemes.specs.declared.stop.Stop.TheVariants as stop
use Rattle.sc_lexemes.specs.Depth.{next}
use Rattle.sc_parser.specs.Faults.{Shares}
use Rattle.sc_parser.specs.GrammarFiles.{Head, Slot, Asked, Entities, AskedOfAction, ScopePart, WholeScope, effect, bare_annotation, annotation, no_slot, slot, any, equal, within, of_type, of_type_within, last_entity, any_action, equal_action, within_action, within_actions, part, action_part, scope_end, scope_comma_end}
use Rattle.sc_parser.specs.GrammarFiles as plain
use Rattle.sc_parser.specs.Limits.{Limits, all_limits}
use Rattle.sc_lexemes.specs.Outcomes.{read, halt}
use Rattle.sc_parser.specs.ReadsFiles.{HaltsAnnotation, ReadsHead, ReadsSlot, ReadsConstraint, ReadsEntities, ReadsActionConstraint, ReadsScope, ReadsPrincipal, ReadsAction, ReadsResource, ReadsScopes}
use Rattle.sc_parser.specs.ReadsFiles as r
use Rattle.sc_parser.proofs.PlainForwardLaws.{fwd_path}
use Rattle.sc_parser.proofs.PlainForwardFileLaws.{fwd_action_asked}
use Rattle.sc_parser.proofs.PlainReadsLaws.{from_path}
use Rattle.sc_parser.proofs.PlainReadsFileLaws.{PrincipalPart, ActionPartComma, ResourcePart, from_action_constraint, whole_scope_of}
use Rattle.sc_parser.proofs.PlainTokensLaws.{fewer, moved}
use Rattle.sc_parser.proofs.ViableKeptLaws.{kept_path, kept_entity}
use Rattle.sc_parser.proofs.ViableKeptFileLaws.{kept_annotation, kept_scope, kept_action_constraint}
use Rattle.sc_parser.proofs.ViableNamesLaws.{quotes, SomePath, SomeEntity, more_path, more_entity}
use Rattle.sc_parser.proofs.ViableStopsLaws.{stop_path, stop_entity}
use Rattle.sc_parser.proofs.ViableStopsFileLaws.{fwd_principal, fwd_action, stop_head, stop_slot, stop_entities, stop_action_constraint, stop_constraint, stop_action, stop_principal, stop_resource}
use Rattle.sc_parser.proofs.ViableTokensLaws.{cut, Frees, far, loose, Done, Ahead, head_of, rest_of, from_there, leaf, onward, carry, nowhere, token, sign}

abbrev pub word : List ℕ → Lexeme
word w = token (Word w)

abbrev pub SomeHead : Limits → Cursor → List Lexeme → Cursor → Type 0
SomeHead K s us t = (p : Place) × (e : Effect) × Head K us s p e t

-- so many tokens further
abbrev onto : Cursor → ℕ → Cursor
onto s i = record { at = s.at + i; enclosing = s.enclosing; depth = s.depth }

more_annotation : {K : Limits} {ts : List Lexeme} {s : Cursor} {f : Stop} {n : ℕ} → Frees K f n → (rest : List Lexeme) → cut f n ≤ length ts → HaltsAnnotation ts s f n → Done (SomeHead K s) ts (cut f n) rest
more_annotation {K = K} {s = s} g rest w (r.no_annotation_word h l) = leaf (SomeHead K s) (next s) (next (next (next s))) (word (codes "a") ∷ word (codes "permit") ∷ rest) w (omega arith) (λ us d. rest_of (rest_of d)) (λ us b d. (nowhere, Permit, bare_annotation (moved b (omega arith) h) (head_of d) (effect (record { is = head_of (rest_of d) }))))
more_annotation {K = K} {s = s} g rest w (r.no_annotation_string h l m o) = leaf (SomeHead K s) (onto s 3) (next (next (next (next (next (next s)))))) (quotes ∷ sign kind.CloseParenthesis ∷ word (codes "permit") ∷ rest) w (omega arith) (λ us d. from_there (omega arith) (rest_of (rest_of (rest_of d)))) (λ us b d. (nowhere, Permit, annotation (moved b (omega arith) h) (moved b (omega arith) l) (moved b (omega arith) m) (head_of d) (head_of (from_there {n = s.at + 4} (omega arith) (rest_of d))) (effect (record { is = head_of (from_there {n = s.at + 1 + 1 + 1 + 1 + 1} (omega arith) (rest_of (rest_of d))) }))))
more_annotation {K = K} {s = s} g rest w (r.annotation_unclosed h l m o e) = leaf (SomeHead K s) (onto s 4) (next (next (next (next (next (next s)))))) (sign kind.CloseParenthesis ∷ word (codes "permit") ∷ rest) w (omega arith) (λ us d. from_there (omega arith) (rest_of (rest_of d))) (λ us b d. (nowhere, Permit, annotation (moved b (omega arith) h) (moved b (omega arith) l) (moved b (omega arith) m) (moved b (omega arith) o) (head_of d) (effect (record { is = head_of (from_there {n = s.at + 1 + 1 + 1 + 1 + 1} (omega arith) (rest_of d)) }))))

pub more_head : {K : Limits} {ts : List Lexeme} {s : Cursor} {f : Stop} {n : ℕ} → Frees K f n → (rest : List Lexeme) → cut f n ≤ length ts → ReadsHead ts s (halt f n) → Done (SomeHead K s) ts (cut f n) rest
more_head {K = K} {s = s} g rest w (r.no_effect h l) = leaf (SomeHead K s) s (next s) (word (codes "permit") ∷ rest) w (omega arith) (λ us d. rest_of d) (λ us b d. (nowhere, Permit, effect (record { is = head_of d })))
more_head g rest w (r.annotation_halts p) = more_annotation g rest w p
more_head {K = K} {s = s} g rest w (r.annotated {t = t} p q) =
    let i = far g in
    let j = stop_head q in
    carry (SomeHead K t) (SomeHead K s) (more_head g rest w q) (λ us u b x. (x.0, x.1, kept_annotation (fewer b (omega (arith, i, j))) p x.2))

abbrev SomeSlot : Limits → Cursor → List Lexeme → Cursor → Type 0
SomeSlot K s us t = (e : EntityLiteral) × Slot K us s e t

abbrev someone : EntityLiteral
someone = record { place = nowhere; uid = record { type_name = []; id = [] } }

more_slot : {K : Limits} {ts : List Lexeme} {s : Cursor} {f : Stop} {n : ℕ} → Frees K f n → (rest : List Lexeme) → cut f n ≤ length ts → ReadsSlot ts s (halt f n) → Done (SomeSlot K s) ts (cut f n) rest
more_slot {K = K} {s = s} g rest w (r.slot h) = leaf (SomeSlot K s) (next s) (next s) rest w (le_refl (s.at + 1)) (λ us d. d) (λ us b d. (someone, slot (moved b (omega arith) h) (loose (g.here stop.Template refl))))
more_slot {K = K} {s = s} g rest w (r.no_slot h p) = carry (SomeEntity K s) (SomeSlot K s) (more_entity g rest w p) (λ us t b x. (x.0, no_slot x.1))

abbrev SomeAsked : Limits → Cursor → List Lexeme → Cursor → Type 0
SomeAsked K s us t = (c : Constraint) × Asked K us s c t

more_constraint : {K : Limits} {ts : List Lexeme} {s : Cursor} {f : Stop} {n : ℕ} → Frees K f n → (rest : List Lexeme) → cut f n ≤ length ts → ReadsConstraint ts s (halt f n) → Done (SomeAsked K s) ts (cut f n) rest
more_constraint {K = K} {s = s} g rest w (r.equal_halts {p = o} h p) =
    let i = far g in
    let j = stop_slot p in
    carry (SomeSlot K (next s)) (SomeAsked K s) (more_slot g rest w p) (λ us t b x. (constraint.Equal o x.0, equal (moved b (omega (arith, i, j)) h) x.1))
more_constraint {K = K} {s = s} g rest w (r.within_halts {p = o} h p) =
    let i = far g in
    let j = stop_slot p in
    carry (SomeSlot K (next s)) (SomeAsked K s) (more_slot g rest w p) (λ us t b x. (constraint.In o x.0, within (moved b (omega (arith, i, j)) h) x.1))
more_constraint {K = K} {s = s} g rest w (r.type_halts {p = o} h p) =
    let i = far g in
    let j = stop_path p in
    carry (SomePath K (next s)) (SomeAsked K s) (more_path g rest w p) (λ us t b x. (constraint.Is o x.0, of_type (moved b (omega (arith, i, j)) h) x.1))
more_constraint {K = K} {s = s} g rest w (r.of_type_within_halts {t = t} {p = o} {q = e} {y = y} h p l q) =
    let i = far g in
    let j = stop_slot q in
    let k = fwd_path (from_path all_limits p) in
    carry (SomeSlot K (next t)) (SomeAsked K s) (more_slot g rest w q) (λ us u b x. (constraint.IsIn o y e x.0, of_type_within (moved b (omega (arith, i, j, k)) h) (kept_path (fewer b (omega (arith, i, j))) p) (moved b (omega (arith, i, j)) l) x.1))

abbrev SomeEntities : Limits → Cursor → List EntityLiteral → List Lexeme → Cursor → Type 0
SomeEntities K s es us t = (fs : List EntityLiteral) × Entities K us s es fs t

more_entities : {K : Limits} {ts : List Lexeme} {s : Cursor} {es : List EntityLiteral} {f : Stop} {n : ℕ} → Frees K f n → (rest : List Lexeme) → cut f n ≤ length ts → ReadsEntities ts s es (halt f n) → Done (SomeEntities K s es) ts (cut f n) (sign kind.CloseBracket ∷ rest)
more_entities {K = K} {s = s} {es = es} g rest w (r.entities_halt h p) = onward (SomeEntity K s) (SomeEntities K s es) (λ t. t) (more_entity g (sign kind.CloseBracket ∷ rest) w p) (λ t. le_refl t.at) (λ us t d. d) (λ us t b a d x. (es ++ x.0 ∷ [], last_entity x.1 (head_of d)))
more_entities {K = K} {s = s} {es = es} g rest w (r.no_entity_comma {t = t} {e = y} h p l m) = leaf (SomeEntities K s es) t t (sign kind.CloseBracket ∷ rest) w (le_refl t.at) (λ us d. d) (λ us b d. (es ++ y ∷ [], last_entity (kept_entity b p) (head_of d)))
more_entities {K = K} {s = s} {es = es} g rest w (r.more_entities {t = t} {e = y} h p l q) =
    let i = far g in
    let j = stop_entities q in
    carry (SomeEntities K (next t) (es ++ y ∷ [])) (SomeEntities K s es) (more_entities g rest w q) (λ us u b x. (x.0, plain.more_entities (kept_entity (fewer b (omega (arith, i, j))) p) (moved b (omega (arith, i, j)) l) x.1))

abbrev SomeAskedOfAction : Limits → Cursor → List Lexeme → Cursor → Type 0
SomeAskedOfAction K s us t = (c : ActionConstraint) × AskedOfAction K us s c t

more_action_constraint : {K : Limits} {ts : List Lexeme} {s : Cursor} {f : Stop} {n : ℕ} → Frees K f n → (rest : List Lexeme) → cut f n ≤ length ts → ReadsActionConstraint ts s (halt f n) → Done (SomeAskedOfAction K s) ts (cut f n) rest
more_action_constraint {K = K} {s = s} g rest w (r.equal_action_halts {p = o} h p) =
    let i = far g in
    let j = stop_entity p in
    carry (SomeEntity K (next s)) (SomeAskedOfAction K s) (more_entity g rest w p) (λ us t b x. (action.Equal o x.0, equal_action (moved b (omega (arith, i, j)) h) x.1))
more_action_constraint {K = K} {s = s} g rest w (r.within_action_halts {p = o} h l p) =
    let i = far g in
    let j = stop_entity p in
    carry (SomeEntity K (next s)) (SomeAskedOfAction K s) (more_entity g rest w p) (λ us t b x. (action.In o x.0, within_action (moved b (omega (arith, i, j)) h) x.1))
more_action_constraint {K = K} {s = s} g rest w (r.within_actions_halt {p = o} {q = e} h l p) =
    let i = far g in
    let j = stop_entities p in
    onward (SomeEntities K (next (next s)) []) (SomeAskedOfAction K s) (λ t. next t) (more_entities g rest w p) (λ t. omega arith) (λ us t d. rest_of d) (λ us t b a d x. (action.InAny o e x.0, within_actions (moved b (omega (arith, i, j)) h) (moved b (omega (arith, i, j)) l) x.1))

abbrev SomePart : Limits → List ℕ → Cursor → List Lexeme → Cursor → Type 0
SomePart K v s us t = (x : Scope) × ScopePart K us v s x t

-- the word alone
bare_part : {K : Limits} {us rest : List Lexeme} (v : List ℕ) (s : Cursor) → Ahead us s.at (word v ∷ rest) → ScopePart K us v s (record { place = nowhere; constraint = constraint.Any }) (next s)
bare_part v s d = part (head_of d) any

more_scope : {K : Limits} {ts : List Lexeme} {v : List ℕ} {s : Cursor} {f : Stop} {n : ℕ} → Frees K f n → (rest : List Lexeme) → cut f n ≤ length ts → ReadsScope ts v s (halt f n) → Done (SomePart K v s) ts (cut f n) rest
more_scope {K = K} {v = v} {s = s} g rest w (r.no_scope h) = leaf (SomePart K v s) s (next s) (word v ∷ rest) w (omega arith) (λ us d. rest_of d) (λ us b d. (_, bare_part v s d))
more_scope {K = K} {v = v} {s = s} g rest w (r.constraint_halts {p = o} h p) =
    let i = far g in
    let j = stop_constraint p in
    carry (SomeAsked K (next s)) (SomePart K v s) (more_constraint g rest w p) (λ us t b x. (record { place = o; constraint = x.0 }, part (moved b (omega (arith, i, j)) h) x.1))

abbrev SomePrincipal : Limits → Cursor → List Lexeme → Cursor → Type 0
SomePrincipal K s us t = (x : Scope) × PrincipalPart K us s x t

kept_principal : {K : Limits} {ts us : List Lexeme} {s t : Cursor} {x : Scope} → Shares ts us t.at → ReadsPrincipal ts s (read x t) → PrincipalPart K us s x t
kept_principal b (r.principal {t = t} {p = o} p h) = record { till = t; place = o; spelled = kept_scope (fewer b (omega arith)) p; comma = moved b (omega arith) h; ends = refl }

more_principal : {K : Limits} {ts : List Lexeme} {s : Cursor} {f : Stop} {n : ℕ} → Frees K f n → (rest : List Lexeme) → cut f n ≤ length ts → ReadsPrincipal ts s (halt f n) → Done (SomePrincipal K s) ts (cut f n) rest
more_principal {K = K} {s = s} g rest w (r.principal_halts p) = onward (SomePart K (codes "principal") s) (SomePrincipal K s) (λ t. next t) (more_scope g (sign kind.Comma ∷ rest) w p) (λ t. omega arith) (λ us t d. rest_of d) (λ us t b a d x. (x.0, record { till = t; place = nowhere; spelled = x.1; comma = head_of d; ends = refl }))
more_principal {K = K} {s = s} g rest w (r.no_principal_comma {t = t} {x = y} p h) = leaf (SomePrincipal K s) t (next t) (sign kind.Comma ∷ rest) w (omega arith) (λ us d. rest_of d) (λ us b d. (y, record { till = t; place = nowhere; spelled = kept_scope b p; comma = head_of d; ends = refl }))

abbrev SomeAction : Limits → Cursor → List Lexeme → Cursor → Type 0
SomeAction K s us t = (x : ActionScope) × ActionPartComma K us s x t

kept_action : {K : Limits} {ts us : List Lexeme} {s t : Cursor} {x : ActionScope} → Shares ts us t.at → ReadsAction ts s (read x t) → ActionPartComma K us s x t
kept_action b (r.action_scope {t = t} {q = o} h p l) =
    let k = fwd_action_asked (from_action_constraint all_limits p) in
    record { till = t; place = o; spelled = action_part (moved b (omega (arith, k)) h) (kept_action_constraint (fewer b (omega arith)) p); comma = moved b (omega arith) l; ends = refl }

-- `action`, and a comma
bare_action : {K : Limits} {us rest : List Lexeme} (s : Cursor) → Ahead us s.at (word (codes "action") ∷ sign kind.Comma ∷ rest) → ActionPartComma K us s (record { place = nowhere; constraint = action.Any }) (next (next s))
bare_action s d = record { till = next s; place = nowhere; spelled = action_part (head_of d) any_action; comma = head_of (rest_of d); ends = refl }

more_action : {K : Limits} {ts : List Lexeme} {s : Cursor} {f : Stop} {n : ℕ} → Frees K f n → (rest : List Lexeme) → cut f n ≤ length ts → ReadsAction ts s (halt f n) → Done (SomeAction K s) ts (cut f n) rest
more_action {K = K} {s = s} g rest w (r.no_action h) = leaf (SomeAction K s) s (next (next s)) (word (codes "action") ∷ sign kind.Comma ∷ rest) w (omega arith) (λ us d. rest_of (rest_of d)) (λ us b d. (_, bare_action s d))
more_action {K = K} {s = s} g rest w (r.action_halts {p = o} h p) =
    let i = far g in
    let j = stop_action_constraint p in
    onward (SomeAskedOfAction K (next s)) (SomeAction K s) (λ t. next t) (more_action_constraint g (sign kind.Comma ∷ rest) w p) (λ t. omega arith) (λ us t d. rest_of d) (λ us t b a d x. (record { place = o; constraint = x.0 }, record { till = t; place = nowhere; spelled = action_part (moved b (omega (arith, i, j)) h) x.1; comma = head_of d; ends = refl }))
more_action {K = K} {s = s} g rest w (r.no_action_comma {t = t} {p = o} {c = y} h p l) =
    let k = fwd_action_asked (from_action_constraint all_limits p) in
    leaf (SomeAction K s) t (next t) (sign kind.Comma ∷ rest) w (omega arith) (λ us d. rest_of d) (λ us b d. (record { place = o; constraint = y }, record { till = t; place = nowhere; spelled = action_part (moved b (omega (arith, k)) h) (kept_action_constraint b p); comma = head_of d; ends = refl }))

abbrev SomeResource : Limits → Cursor → List Lexeme → Cursor → Type 0
SomeResource K s us t = (x : Scope) × ResourcePart K us s x t

-- `resource`, and the parenthesis
bare_resource : {K : Limits} {us rest : List Lexeme} (s : Cursor) → Ahead us s.at (word (codes "resource") ∷ sign kind.CloseParenthesis ∷ rest) → ResourcePart K us s (record { place = nowhere; constraint = constraint.Any }) (next (next s))
bare_resource s d = record { till = next s; spelled = bare_part (codes "resource") s d; ends = scope_end (head_of (rest_of d)) }

more_resource : {K : Limits} {ts : List Lexeme} {s : Cursor} {f : Stop} {n : ℕ} → Frees K f n → (rest : List Lexeme) → cut f n ≤ length ts → ReadsResource ts s (halt f n) → Done (SomeResource K s) ts (cut f n) rest
more_resource {K = K} {s = s} g rest w (r.resource_halts p) = onward (SomePart K (codes "resource") s) (SomeResource K s) (λ t. next t) (more_scope g (sign kind.CloseParenthesis ∷ rest) w p) (λ t. omega arith) (λ us t d. rest_of d) (λ us t b a d x. (x.0, record { till = t; spelled = x.1; ends = scope_end (head_of d) }))
more_resource {K = K} {s = s} g rest w (r.scope_unclosed {t = t} {x = y} p h l) = leaf (SomeResource K s) t (next t) (sign kind.CloseParenthesis ∷ rest) w (omega arith) (λ us d. rest_of d) (λ us b d. (y, record { till = t; spelled = kept_scope b p; ends = scope_end (head_of d) }))
more_resource {K = K} {s = s} g rest w (r.scope_comma_unclosed {t = t} {x = y} p h l) = leaf (SomeResource K s) (next t) (next (next t)) (sign kind.CloseParenthesis ∷ rest) w (omega arith) (λ us d. rest_of d) (λ us b d. (y, record { till = t; spelled = kept_scope (fewer b (omega arith)) p; ends = scope_comma_end (moved b (omega arith) h) (head_of d) }))

-- the tokens of a scope that asks nothing
abbrev pub resource_tokens : List Lexeme → List Lexeme
resource_tokens rest = word (codes "resource") ∷ sign kind.CloseParenthesis ∷ rest

abbrev pub action_tokens : List Lexeme → List Lexeme
action_tokens rest = word (codes "action") ∷ sign kind.Comma ∷ resource_tokens rest

abbrev pub scope_tokens : List Lexeme → List Lexeme
scope_tokens rest = sign kind.OpenParenthesis ∷ word (codes "principal") ∷ sign kind.Comma ∷ action_tokens rest

abbrev pub SomeScopes : Limits → Cursor → List Lexeme → Cursor → Type 0
SomeScopes K s us t = (x : Scopes) × WholeScope K us s x t

pub bare_scopes : {K : Limits} {us rest : List Lexeme} (s : Cursor) → Ahead us s.at (scope_tokens rest) → SomeScopes K s us (next (next (next (next (next (next (next s)))))))
bare_scopes {K = K} s d =
    let p : PrincipalPart K _ (next s) _ (next (next (next s))) = record { till = next (next s); place = nowhere; spelled = bare_part (codes "principal") (next s) (rest_of d); comma = head_of (rest_of (rest_of d)); ends = refl } in
    let e = rest_of (rest_of (rest_of d)) in
    (_, whole_scope_of K (head_of d) p (bare_action (next (next (next s))) e) (bare_resource (next (next (next (next (next s))))) (rest_of (rest_of e))))

pub more_scopes : {K : Limits} {ts : List Lexeme} {s : Cursor} {f : Stop} {n : ℕ} → Frees K f n → (rest : List Lexeme) → cut f n ≤ length ts → ReadsScopes ts s (halt f n) → Done (SomeScopes K s) ts (cut f n) rest
more_scopes {K = K} {s = s} g rest w (r.no_parenthesis h) = leaf (SomeScopes K s) s (next (next (next (next (next (next (next s))))))) (scope_tokens rest) w (omega arith) (λ us d. rest_of (rest_of (rest_of (rest_of (rest_of (rest_of (rest_of d))))))) (λ us b d. bare_scopes s d)
more_scopes {K = K} {s = s} g rest w (r.scopes_principal_halts h p) =
    let i = far g in
    let j = stop_principal p in
    onward (SomePrincipal K (next s)) (SomeScopes K s) (λ t. next (next (next (next t)))) (more_principal g (action_tokens rest) w p) (λ t. omega arith) (λ us t d. rest_of (rest_of (rest_of (rest_of d)))) (λ us t b a d x. (_, whole_scope_of K (moved b (omega (arith, i, j)) h) x.1 (bare_action t d) (bare_resource (next (next t)) (rest_of (rest_of d)))))
more_scopes {K = K} {s = s} g rest w (r.scopes_action_halts {t = t} h p q) =
    let i = far g in
    let j = stop_action q in
    let k = fwd_principal p in
    onward (SomeAction K t) (SomeScopes K s) (λ u. next (next u)) (more_action g (resource_tokens rest) w q) (λ u. omega arith) (λ us u d. rest_of (rest_of d)) (λ us u b a d x. (_, whole_scope_of K (moved b (omega (arith, i, j, k)) h) (kept_principal (fewer b (omega (arith, i, j))) p) x.1 (bare_resource u d)))
more_scopes {K = K} {s = s} g rest w (r.scopes_resource_halts {u = u} h p q v) =
    let i = far g in
    let j = stop_resource v in
    let k = fwd_principal p in
    let m = fwd_action q in
    carry (SomeResource K u) (SomeScopes K s) (more_resource g rest w v) (λ us t b x. (_, whole_scope_of K (moved b (omega (arith, i, j, k, m)) h) (kept_principal (fewer b (omega (arith, i, j, m))) p) (kept_action (fewer b (omega (arith, i, j))) q) x.1))
