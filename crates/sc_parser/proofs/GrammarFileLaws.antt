-- What spells a file is read so. Where templates are let through, another uid may stand for a slot.
use Rattle.std.proofs.Common.{◌≡◌, ◌+◌, ℕ, List, [], ◌∷◌, ◌++◌, length, slice_get, codes, nat_lt, true, refl, sym, ap, ◌∙◌, arith}
use Rattle.std.specs.declared.option.Option.TheVariants.{None}
use Rattle.std.proofs.lemmas.List.{length-append}
use Rattle.sc_ast.specs.declared.place.Place.{Place}
use Rattle.sc_ast.specs.declared.literal.EntityLiteral.{EntityLiteral}
use Rattle.sc_ast.specs.declared.policy.Effect.{Effect}
use Rattle.sc_ast.specs.declared.policy.Condition.{Condition}
use Rattle.sc_ast.specs.declared.policy.Policy.{Policy}
use Rattle.sc_ast.specs.declared.scope.Constraint.{Constraint}
use Rattle.sc_ast.specs.declared.scope.Constraint.TheVariants as constraint
use Rattle.sc_ast.specs.declared.scope.ActionConstraint.{ActionConstraint}
use Rattle.sc_ast.specs.declared.scope.Scope.{Scope}
use Rattle.sc_ast.specs.declared.scope.ActionScope.{ActionScope}
use Rattle.sc_lexer.specs.declared.token.Kind.TheVariants as kind
use Rattle.sc_lexemes.specs.declared.cursor.Cursor.{Cursor}
use Rattle.sc_lexemes.specs.declared.lexeme.Lexeme.{Lexeme}
use Rattle.sc_lexemes.specs.declared.lexeme.Shape.TheVariants as shape
use Rattle.sc_parser.specs.declared.scopes.Scopes.{Scopes}
use Rattle.sc_lexemes.specs.declared.stop.Stop.{Stop}
use Rattle.sc_lexemes.specs.declared.stop.Stop.TheVariants as stop
use Rattle.sc_lexemes.specs.Depth.{outside}
use Rattle.sc_parser.specs.GrammarFiles.{Head, Slot, Asked, Entities, AskedOfAction, ScopePart, ActionPart, ScopeEnd, WholeScope, Clauses, OnePolicy, Policies}
use Rattle.sc_parser.specs.GrammarFiles as g
use Rattle.sc_lexemes.specs.Lexemes.{Is, Lacks, LacksClause, IsPolicyStart, annotation_starts, effect_starts}
use Rattle.sc_parser.specs.Limits.{Limits}
use Rattle.sc_lexemes.specs.Outcomes.{read}
use Rattle.sc_parser.proofs.Sorts.{Sort, Of}
use Rattle.sc_parser.proofs.Sorts as sort
use Rattle.sc_parser.proofs.Nonterminals.{Nonterminal}
use Rattle.sc_parser.proofs.Nonterminals as n
use Rattle.sc_parser.proofs.Productions.{production, some_uid}
use Rattle.sc_parser.proofs.Runs.{Runs, does, finds, lacks, goes, keeps, calls}
use Rattle.sc_parser.proofs.Strength.{Weak}
use Rattle.sc_parser.proofs.StrengthLaws.{weaker, weak_comma, weak_close_parenthesis, lacks_in, lacks_is, lacks_equal, lacks_colons}
use Rattle.sc_parser.proofs.TestLaws.{other, other_word}
use Rattle.sc_parser.proofs.RunLaws.{tail}
use Rattle.sc_parser.proofs.FirstLaws.{entity_ident}
use Rattle.sc_parser.proofs.GrammarWordLaws.{to_path, to_entity}
use Rattle.sc_parser.proofs.GrammarLaws.{to_enclosed}
use Rattle.sc_parser.proofs.HeadLaws.{effect_no_sign, plus_two, there, annotation_alone, annotation_told, start_no_end}

-- all limits are kept
abbrev pub KeepsAll : Limits → Type 0
KeepsAll K = (f : Stop) (i : ℕ) → K f i ≡ true

-- something is read up to there, and it is this where all limits are kept
pub record Given (K : Limits) (ts : List Lexeme) {c : Sort} (m : Nonterminal c) (s : Cursor) (x : Of c) (t : Cursor) : Type 0 where
  pub value : Of c
  pub runs : Runs K ts c (production m) s (read value t)
  pub same : KeepsAll K → value ≡ x

given : {K : Limits} {ts : List Lexeme} {c : Sort} {m : Nonterminal c} {s t : Cursor} {x : Of c} → Runs K ts c (production m) s (read x t) → Given K ts m s x t
given {x = x} a = record { value = x; runs = a; same = λ k. refl }

-- the word of an effect and the sign of an annotation are no parenthesis
head_no_parenthesis : {K : Limits} {ts : List Lexeme} {s t : Cursor} {p : Place} {e : Effect} → Head K ts s p e t → Lacks ts s.at (shape.Sign kind.OpenParenthesis)
head_no_parenthesis {ts = ts} {s = s} (g.effect h) = other ts s.at h.is (λ e. cc)
head_no_parenthesis {ts = ts} {s = s} (g.bare_annotation h k a) = other ts s.at h (λ e. cc)
head_no_parenthesis {ts = ts} {s = s} (g.annotation h k i j l a) = other ts s.at h (λ e. cc)

pub to_head : {K : Limits} {ts : List Lexeme} {s t : Cursor} {p : Place} {e : Effect} → Head K ts s p e t → Runs K ts sort.head (production n.head) s (read (p, e) t)
to_head {ts = ts} {s = s} (g.effect {p = p} {e = e} h) = lacks (effect_no_sign ts s.at h) (finds (p, e) h (goes h.is does))
to_head {ts = ts} {s = s} (g.bare_annotation h k a) = annotation_alone h k (λ p l. head_no_parenthesis a p (there ts (plus_two s.at) l)) (to_head a)
to_head (g.annotation h k i j l a) = annotation_told h k i j l (to_head a)

pub to_slot : {K : Limits} {ts : List Lexeme} {s t : Cursor} {e : EntityLiteral} → Slot K ts s e t → Given K ts n.slot s e t
to_slot {ts = ts} {s = s} (g.no_slot a) = given (lacks (let h = entity_ident a in other ts s.at h.2 (λ e. cc)) (tail (to_entity a)))
to_slot {s = s} (g.slot {p = p} h k) = record { value = some_uid; runs = finds p h (keeps k (goes h does)); same = λ a. let e = k (a stop.Template s.at) in absurd cc }

pub to_asked : {K : Limits} {ts : List Lexeme} {s t : Cursor} {c : Constraint} → Asked K ts s c t → Weak ts t.at 3 → Given K ts n.asked s c t
to_asked {ts = ts} {s = s} g.any w = given (lacks (lacks_equal ts s.at w) (lacks (lacks_in ts s.at w) (lacks (lacks_is ts s.at w) does)))
to_asked (g.equal {p = p} h a) w = let b = to_slot a in record { value = constraint.Equal p b.value; runs = finds p h (goes h (calls b.runs does)); same = λ k. ap (λ e. constraint.Equal p e) (b.same k) }
to_asked {ts = ts} {s = s} (g.within {p = p} h a) w = let b = to_slot a in record { value = constraint.In p b.value; runs = lacks (other ts s.at h (λ e. cc)) (finds p h (goes h (calls b.runs does))); same = λ k. ap (λ e. constraint.In p e) (b.same k) }
to_asked {ts = ts} {s = s} (g.of_type {t = t} {p = p} h a) w = given (lacks (other ts s.at h (λ e. cc)) (lacks (other ts s.at h (other_word _ _ refl refl)) (finds p h (goes h (calls (to_path a (lacks_colons ts t.at (weaker (omega arith) w))) (lacks (lacks_in ts t.at w) does))))))
to_asked {ts = ts} {s = s} (g.of_type_within {t = t} {p = p} {q = q} {y = y} h a i b) w = let d = to_slot b in record {
  value = constraint.IsIn p y q d.value;
  runs = lacks (other ts s.at h (λ e. cc)) (lacks (other ts s.at h (other_word _ _ refl refl)) (finds p h (goes h (calls (to_path a (other ts t.at i (λ e. cc))) (finds q i (goes i (calls d.runs does)))))));
  same = λ k. ap (λ e. constraint.IsIn p y q e) (d.same k);
}

-- the bracket stands behind the list
entities_closed : {K : Limits} {ts : List Lexeme} {s t : Cursor} {es fs : List EntityLiteral} → Entities K ts s es fs t → (p : Place) × Is ts t.at p (shape.Sign kind.CloseBracket)
entities_closed (g.entities_end {p = p} h) = (p, h)
entities_closed (g.last_entity {p = p} a h) = (p, h)
entities_closed (g.more_entities a h b) = entities_closed b

pub to_entities : {K : Limits} {ts : List Lexeme} {s t : Cursor} {es fs : List EntityLiteral} → Entities K ts s es fs t → Runs K ts sort.uids (production (n.entities es)) s (read fs t)
to_entities (g.entities_end {p = p} h) = finds p h does
to_entities {ts = ts} {s = s} (g.last_entity {p = p} a h) = lacks (let i = entity_ident a in other ts s.at i.2 (λ e. cc)) (calls (to_entity a) (finds p h does))
to_entities {ts = ts} {s = s} (g.more_entities {t = t} {p = p} a h b) = lacks (let i = entity_ident a in other ts s.at i.2 (λ e. cc)) (calls (to_entity a) (lacks (other ts t.at h (λ e. cc)) (finds p h (goes h (tail (to_entities b))))))

pub to_asked_of_action : {K : Limits} {ts : List Lexeme} {s t : Cursor} {c : ActionConstraint} → AskedOfAction K ts s c t → Weak ts t.at 3 → Runs K ts sort.action_constraint (production n.asked_of_action) s (read c t)
to_asked_of_action {ts = ts} {s = s} g.any_action w = lacks (lacks_equal ts s.at w) (lacks (lacks_in ts s.at w) does)
to_asked_of_action (g.equal_action {p = p} h a) w = finds p h (goes h (calls (to_entity a) does))
to_asked_of_action {ts = ts} {s = s} (g.within_action {p = p} h a) w = lacks (other ts s.at h (λ e. cc)) (finds p h (goes h (lacks (let i = entity_ident a in other ts (s.at + 1) i.2 (λ e. cc)) (calls (to_entity a) does))))
to_asked_of_action {ts = ts} {s = s} (g.within_actions {p = p} {q = q} h k a) w = lacks (other ts s.at h (λ e. cc)) (finds p h (goes h (finds q k (goes k (calls (to_entities a) (goes (entities_closed a).1 does))))))

pub to_scope_part : {K : Limits} {ts : List Lexeme} {w : List ℕ} {s t : Cursor} {x : Scope} → ScopePart K ts w s x t → Weak ts t.at 3 → Given K ts (n.scope_part w) s x t
to_scope_part (g.part {p = p} h a) w = let b = to_asked a w in record { value = record { place = p; constraint = b.value }; runs = finds p h (goes h (calls b.runs does)); same = λ k i. record { place = p; constraint = b.same k i } }

-- the parts of a scope
resource_ends : {K : Limits} {ts : List Lexeme} {s t u : Cursor} {x : Scope} → ScopePart K ts (codes "resource") s x t → ScopeEnd K ts t u → Given K ts n.resource_part s x u
resource_ends {ts = ts} {t = t} a (g.scope_end {p = p} h) = let b = to_scope_part a (weaker (omega arith) (weak_close_parenthesis ts t.at h)) in record { value = b.value; runs = calls b.runs (finds p h (goes h does)); same = b.same }
resource_ends {ts = ts} {t = t} a (g.scope_comma_end {p = p} {q = q} h k) = let b = to_scope_part a (weaker (omega arith) (weak_comma ts t.at h)) in record { value = b.value; runs = calls b.runs (lacks (other ts t.at h (λ e. cc)) (finds p h (goes h (finds q k (goes k does))))); same = b.same }

to_action : {K : Limits} {ts : List Lexeme} {s t : Cursor} {q : Place} {y : ActionScope} → ActionPart K ts s y t → Is ts t.at q (shape.Sign kind.Comma) → Runs K ts sort.action_scope (production n.action_part) s (read y (record { at = t.at + 1; enclosing = t.enclosing; depth = t.depth }))
to_action {ts = ts} {t = t} {q = q} (g.action_part {p = p} h a) k = finds p h (goes h (calls (to_asked_of_action a (weaker (omega arith) (weak_comma ts t.at k))) (finds q k (goes k does))))

pub to_whole_scope : {K : Limits} {ts : List Lexeme} {s t : Cursor} {x : Scopes} → WholeScope K ts s x t → Given K ts n.whole_scope s x t
to_whole_scope {ts = ts} (g.whole_scope {t = t} {p = p} {q = q} {y = y} h a k b i c d) =
    let e = to_scope_part a (weaker (omega arith) (weak_comma ts t.at k)) in
    let f = resource_ends c d in
    record {
      value = record { principal = e.value; action = y; resource = f.value };
      runs = finds p h (goes h (calls (calls e.runs (finds q k (goes k does))) (calls (to_action b i) (calls f.runs does))));
      same = λ l j. record { principal = e.same l j; action = y; resource = f.same l j };
    }

pub to_clauses : {K : Limits} {ts : List Lexeme} {s t : Cursor} {cs ds : List Condition} → Clauses K ts s cs ds t → LacksClause ts t.at → Runs K ts sort.conditions (production (n.clauses cs)) s (read ds t)
to_clauses g.clauses_end l = lacks (λ x h. l x.0 x.1 h) does
to_clauses (g.clauses_more {p = p} {q = q} {k = k} h i a b) l = finds (p, k) h (goes h.is (finds q i (goes i (calls (to_enclosed a) (tail (to_clauses b l))))))

pub to_policy : {K : Limits} {ts : List Lexeme} {s t : Cursor} {x : Policy} → OnePolicy K ts s x t → Given K ts n.policy s x t
to_policy {ts = ts} (g.policy {v = v} {p = p} {q = q} {e = e} {x = x} {cs = cs} a b c h) =
    let d = to_whole_scope b in
    record {
      value = record { place = p; effect = e; principal = d.value.principal; action = d.value.action; resource = d.value.resource; conditions = cs };
      runs = calls (to_head a) (calls d.runs (calls (to_clauses c (λ o k f. other ts v.at h (λ j. cc) o f.is)) (finds q h (goes h does))));
      same = λ k i. record { place = p; effect = e; principal = (d.same k i).principal; action = (d.same k i).action; resource = (d.same k i).resource; conditions = cs };
    }

policy_starts : {K : Limits} {ts : List Lexeme} {s t : Cursor} {p : Place} {e : Effect} → Head K ts s p e t → IsPolicyStart ts s.at
policy_starts (g.effect {p = p} {e = e} h) = effect_starts p e h
policy_starts (g.bare_annotation {p = p} h k a) = annotation_starts p h
policy_starts (g.annotation {p = p} h k i j l a) = annotation_starts p h

one_starts : {K : Limits} {ts : List Lexeme} {s t : Cursor} {x : Policy} → OnePolicy K ts s x t → IsPolicyStart ts s.at
one_starts (g.policy a b c h) = policy_starts a

-- policies are read up to there, and they are these where all limits are kept
pub record GivenPolicies (K : Limits) (ts : List Lexeme) (rs ps qs : List Policy) (i j : ℕ) : Type 0 where
  pub value : List Policy
  pub runs : Runs K ts sort.policies (production (n.policies rs)) (outside i) (read value (outside j))
  pub same : (KeepsAll K → rs ≡ ps) → KeepsAll K → value ≡ qs

pub to_policies : {K : Limits} {ts : List Lexeme} {i j : ℕ} {ps qs : List Policy} → Policies K ts i ps qs j → slice_get ts j ≡ None → (rs : List Policy) → length rs ≡ length ps → GivenPolicies K ts rs ps qs i j
to_policies g.policies_end e rs l = record { value = rs; runs = finds tt e does; same = λ f k. f k }
to_policies (g.policies_more {x = x} {ps = ps} m a b) e rs l =
    let c = to_policy a in
    let longer : length (rs ++ c.value ∷ []) ≡ length (ps ++ x ∷ []) = length-append rs (c.value ∷ []) ∙ ap (λ k. k + 1) l ∙ sym (length-append ps (x ∷ [])) in
    let d = to_policies b e (rs ++ c.value ∷ []) longer in
    record {
      value = d.value;
      runs = lacks (λ y h. start_no_end (one_starts a) h) (finds tt (one_starts a) (keeps (λ k. ap (λ z. nat_lt z 10000) l ∙ m k) (calls c.runs (tail d.runs))));
      same = λ f k. d.same (λ k'. let g = f k' in let h = c.same k' in cc) k;
    }
