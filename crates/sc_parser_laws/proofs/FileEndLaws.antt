-- Reading policies comes to an end.
use Rattle.std.proofs.Common.{◌≡◌, inl, inr, ℕ, zero, suc, ◌+◌, ◌<◌, ◌≤◌, nat_lt, List, [], ◌∷◌, ◌++◌, length, slice_get, codes, arith, refl}
use Rattle.std.specs.declared.option.Option.{Option}
use Rattle.std.specs.declared.option.Option.TheVariants.{Some, None}
use Rattle.std.proofs.lemmas.Bool.{cases_Bool}
use Rattle.sc_ast.specs.declared.place.Place.{Place}
use Rattle.sc_ast.specs.declared.literal.EntityLiteral.{EntityLiteral}
use Rattle.sc_ast.specs.declared.policy.Effect.{Effect}
use Rattle.sc_ast.specs.declared.policy.Condition.{Condition}
use Rattle.sc_ast.specs.declared.policy.Policy.{Policy}
use Rattle.sc_ast.specs.declared.scope.Constraint.{Constraint}
use Rattle.sc_ast.specs.declared.scope.Constraint.TheVariants as constraint
use Rattle.sc_ast.specs.declared.scope.ActionConstraint.{ActionConstraint}
use Rattle.sc_ast.specs.declared.scope.ActionConstraint.TheVariants as action
use Rattle.sc_ast.specs.declared.scope.Scope.{Scope}
use Rattle.sc_ast.specs.declared.scope.ActionScope.{ActionScope}
use Rattle.sc_lexer.specs.declared.token.Kind.TheVariants as kind
use Rattle.sc_lexemes.specs.declared.cursor.Cursor.{Cursor}
use Rattle.sc_lexemes.specs.declared.lexeme.Lexeme.{Lexeme}
use Rattle.sc_lexemes.specs.declared.lexeme.Shape.TheVariants.{Word, Sign}
use Rattle.sc_lexemes.specs.declared.stop.Stop.{Stop}
use Rattle.sc_lexemes.specs.declared.stop.Stop.TheVariants as stop
use Rattle.sc_lexemes.specs.Depth.{next, deeper, outside}
use Rattle.sc_lexemes.specs.Lexemes.{Is}
use Rattle.sc_lexemes.specs.Outcomes.{Outcome, read, halt}
use Rattle.sc_parser.specs.ReadsFiles.{SkipsAnnotation, HaltsAnnotation, ReadsHead, ReadsSlot, ReadsConstraint, ReadsEntities, ReadsActionConstraint, ReadsScope, ReadsPrincipal, ReadsAction, ReadsResource, ReadsScopes, ReadsClauses, ReadsPolicy, ReadsPolicies}
use Rattle.sc_parser.specs.ReadsFiles as r
use Rattle.sc_parser_laws.proofs.TokenTestLaws.{inside_of, sign_at, word_at, any_word_at, string_at, effect_at, clause_at, policy_at}
use Rattle.sc_parser_laws.proofs.NameEndLaws.{Ended, got, stopped, passed_on, path_ends, entity_ends}
use Rattle.sc_parser_laws.proofs.ExpressionEndLaws.{braced_ends}

-- the bracket stands behind the list
entities_closed : {ts : List Lexeme} {s t : Cursor} {es fs : List EntityLiteral} → ReadsEntities ts s es (read fs t) → (p : Place) × Is ts t.at p (Sign kind.CloseBracket)
entities_closed (r.entities_end {p = p} h) = (p, h)
entities_closed (r.last_entity {p = p} n a h) = (p, h)
entities_closed (r.more_entities n a h b) = entities_closed b

-- a token stands at the place, or none does
data There (ts : List Lexeme) (i : ℕ) : Type 0 where
  one_token : (l : Lexeme) → slice_get ts i ≡ Some l → There ts i
  no_token : slice_get ts i ≡ None → There ts i

there_by : (ts : List Lexeme) (i : ℕ) (o : Option Lexeme) → slice_get ts i ≡ o → There ts i
there_by ts i (Some l) e = one_token l e
there_by ts i None e = no_token e

-- an annotation is skipped, or isn't whole
data Annotation (ts : List Lexeme) (s : Cursor) : Type 0 where
  skipped : (t : Cursor) → SkipsAnnotation ts s t → s.at + 1 ≤ t.at → t.at ≤ length ts → Annotation ts s
  broken : (f : Stop) (n : ℕ) → HaltsAnnotation ts s f n → Annotation ts s

module _ (ts : List Lexeme) where
  -- ---- annotations and the effect

  annotation_told : (s : Cursor) (p q v : Place) (w : List ℕ) → Is ts s.at p (Sign kind.At) → Is ts (s.at + 1) q (Word w) → Is ts (s.at + 2) v (Sign kind.OpenParenthesis) → Annotation ts s
  annotation_told s p q v w h g k = elim (string_at ts (s.at + 3)) [
    | inl x ↦ elim (sign_at ts (s.at + 4) kind.CloseParenthesis) [
      | inl c ↦
          skipped (next (next (next (next (next s))))) (r.annotation h g k x.3 c.1) (omega arith)
          (let e = inside_of ts (s.at + 4) c.1 in omega (arith, e))
      | inr not_closed ↦ broken stop.Unexpected (s.at + 4) (r.annotation_unclosed h g k x.3 not_closed)
    ]
    | inr none ↦ broken stop.Unexpected (s.at + 3) (r.no_annotation_string h g k none)
  ]

  annotation_ends : (s : Cursor) (p : Place) → Is ts s.at p (Sign kind.At) → Annotation ts s
  annotation_ends s p h = elim (any_word_at ts (s.at + 1)) [
    | inl x ↦ elim (sign_at ts (s.at + 2) kind.OpenParenthesis) [
      | inl v ↦ annotation_told s p x.0 v.0 x.1 h x.2 v.1
      | inr bare ↦ skipped (next (next s)) (r.bare_annotation h x.2 bare) (omega arith) (inside_of ts (s.at + 1) x.2)
    ]
    | inr none ↦ broken stop.Unexpected (s.at + 1) (r.no_annotation_word h none)
  ]

  head_by : (k : ℕ) (s : Cursor) → length ts < k + s.at → s.at ≤ length ts → Ended (Place × Effect) ts (s.at + 1) (ReadsHead ts s)
  head_by zero s ahead within = absurd (omega (arith, ahead, within))
  head_by (suc k) s ahead within = elim (effect_at ts s.at) [
    | inl x ↦ got (x.0, x.1) (next s) (r.effect x.2) (omega arith) (inside_of ts s.at x.2.is)
    | inr no_effect ↦ elim (sign_at ts s.at kind.At) [
      | inl p ↦ elim (annotation_ends s p.0 p.1) [
        | skipped t a le inner ↦ passed_on (omega (arith, le)) (λ o b. r.annotated a b) (head_by k t (omega (arith, ahead, le)) inner)
        | broken f n a ↦ stopped f n (r.annotation_halts a)
      ]
      | inr no_sign ↦ stopped stop.Unexpected s.at (r.no_effect no_sign no_effect)
    ]
  ]

  head_ends : (s : Cursor) → s.at ≤ length ts → Ended (Place × Effect) ts (s.at + 1) (ReadsHead ts s)
  head_ends s within = head_by (suc (length ts)) s (omega arith) within

  -- ---- the scope

  slot_ends : (s : Cursor) → Ended EntityLiteral ts (s.at + 1) (ReadsSlot ts s)
  slot_ends s = elim (sign_at ts s.at kind.Question) [
    | inl p ↦ stopped stop.Template s.at (r.slot p.1)
    | inr none ↦ passed_on (omega arith) (λ o a. r.no_slot none a) (entity_ends ts s)
  ]

  constraint_ends : (s : Cursor) → s.at ≤ length ts → Ended Constraint ts s.at (ReadsConstraint ts s)
  constraint_ends s within = elim (sign_at ts s.at kind.Equal) [
    | inl p ↦ elim (slot_ends (next s)) [
      | got e t a le inner ↦ got (constraint.Equal p.0 e) t (r.equal p.1 a) (omega (arith, le)) inner
      | stopped f n a ↦ stopped f n (r.equal_halts p.1 a)
    ]
    | inr no_equal ↦ elim (word_at ts s.at (codes "in")) [
      | inl p ↦ elim (slot_ends (next s)) [
        | got e t a le inner ↦ got (constraint.In p.0 e) t (r.within p.1 a) (omega (arith, le)) inner
        | stopped f n a ↦ stopped f n (r.within_halts p.1 a)
      ]
      | inr no_in ↦ elim (word_at ts s.at (codes "is")) [
        | inl p ↦ elim (path_ends ts (next s)) [
          | got y t a le inner ↦ elim (word_at ts t.at (codes "in")) [
            | inl q ↦ elim (slot_ends (next t)) [
              | got e u b more later ↦ got (constraint.IsIn p.0 y q.0 e) u (r.of_type_within p.1 a q.1 b) (omega (arith, le, more)) later
              | stopped f n b ↦ stopped f n (r.of_type_within_halts p.1 a q.1 b)
            ]
            | inr alone ↦ got (constraint.Is p.0 y) t (r.of_type p.1 a alone) (omega (arith, le)) inner
          ]
          | stopped f n a ↦ stopped f n (r.type_halts p.1 a)
        ]
        | inr no_is ↦ got constraint.Any s (r.any no_equal no_in no_is) (omega arith) within
      ]
    ]
  ]

  entities_by : (k : ℕ) (s : Cursor) (es : List EntityLiteral) → length ts < k + s.at → s.at ≤ length ts → Ended (List EntityLiteral) ts s.at (ReadsEntities ts s es)
  entities_by zero s es ahead within = absurd (omega (arith, ahead, within))
  entities_by (suc k) s es ahead within = elim (sign_at ts s.at kind.CloseBracket) [
    | inl p ↦ got es s (r.entities_end p.1) (omega arith) within
    | inr none ↦ elim (entity_ends ts s) [
      | got e t a le inner ↦ elim (sign_at ts t.at kind.CloseBracket) [
        | inl p ↦ got (es ++ e ∷ []) t (r.last_entity none a p.1) (omega (arith, le)) inner
        | inr not_closed ↦ elim (sign_at ts t.at kind.Comma) [
          | inl q ↦
              passed_on (omega (arith, le)) (λ o b. r.more_entities none a q.1 b)
              (entities_by k (next t) (es ++ e ∷ []) (omega (arith, ahead, le)) (inside_of ts t.at q.1))
          | inr no_comma ↦ stopped stop.Unexpected t.at (r.no_entity_comma none a not_closed no_comma)
        ]
      ]
      | stopped f n a ↦ stopped f n (r.entities_halt none a)
    ]
  ]

  action_constraint_ends : (s : Cursor) → s.at ≤ length ts → Ended ActionConstraint ts s.at (ReadsActionConstraint ts s)
  action_constraint_ends s within = elim (sign_at ts s.at kind.Equal) [
    | inl p ↦ elim (entity_ends ts (next s)) [
      | got e t a le inner ↦ got (action.Equal p.0 e) t (r.equal_action p.1 a) (omega (arith, le)) inner
      | stopped f n a ↦ stopped f n (r.equal_action_halts p.1 a)
    ]
    | inr no_equal ↦ elim (word_at ts s.at (codes "in")) [
      | inl p ↦ elim (sign_at ts (s.at + 1) kind.OpenBracket) [
        | inl q ↦ elim (entities_by (suc (length ts)) (next (next s)) [] (omega arith) (inside_of ts (s.at + 1) q.1)) [
          | got es t a le inner ↦
              got (action.InAny p.0 q.0 es) (next t) (r.within_actions p.1 q.1 a) (omega (arith, le)) (let h = entities_closed a in inside_of ts t.at h.1)
          | stopped f n a ↦ stopped f n (r.within_actions_halt p.1 q.1 a)
        ]
        | inr no_bracket ↦ elim (entity_ends ts (next s)) [
          | got e t a le inner ↦ got (action.In p.0 e) t (r.within_action p.1 no_bracket a) (omega (arith, le)) inner
          | stopped f n a ↦ stopped f n (r.within_action_halts p.1 no_bracket a)
        ]
      ]
      | inr no_in ↦ got action.Any s (r.any_action no_equal no_in) (omega arith) within
    ]
  ]

  scope_ends : (w : List ℕ) (s : Cursor) → Ended Scope ts (s.at + 1) (ReadsScope ts w s)
  scope_ends w s = elim (word_at ts s.at w) [
    | inl p ↦ elim (constraint_ends (next s) (inside_of ts s.at p.1)) [
      | got c t a le inner ↦ got (record { place = p.0; constraint = c }) t (r.scope p.1 a) (omega (arith, le)) inner
      | stopped f n a ↦ stopped f n (r.constraint_halts p.1 a)
    ]
    | inr none ↦ stopped stop.Unexpected s.at (r.no_scope none)
  ]

  principal_ends : (s : Cursor) → Ended Scope ts (s.at + 1) (ReadsPrincipal ts s)
  principal_ends s = elim (scope_ends (codes "principal") s) [
    | got x t a le inner ↦ elim (sign_at ts t.at kind.Comma) [
      | inl p ↦ got x (next t) (r.principal a p.1) (omega (arith, le)) (inside_of ts t.at p.1)
      | inr none ↦ stopped stop.Unexpected t.at (r.no_principal_comma a none)
    ]
    | stopped f n a ↦ stopped f n (r.principal_halts a)
  ]

  action_ends : (s : Cursor) → Ended ActionScope ts (s.at + 1) (ReadsAction ts s)
  action_ends s = elim (word_at ts s.at (codes "action")) [
    | inl p ↦ elim (action_constraint_ends (next s) (inside_of ts s.at p.1)) [
      | got c t a le inner ↦ elim (sign_at ts t.at kind.Comma) [
        | inl q ↦ got (record { place = p.0; constraint = c }) (next t) (r.action_scope p.1 a q.1) (omega (arith, le)) (inside_of ts t.at q.1)
        | inr none ↦ stopped stop.Unexpected t.at (r.no_action_comma p.1 a none)
      ]
      | stopped f n a ↦ stopped f n (r.action_halts p.1 a)
    ]
    | inr none ↦ stopped stop.Unexpected s.at (r.no_action none)
  ]

  resource_ends : (s : Cursor) → Ended Scope ts (s.at + 1) (ReadsResource ts s)
  resource_ends s = elim (scope_ends (codes "resource") s) [
    | got x t a le inner ↦ elim (sign_at ts t.at kind.CloseParenthesis) [
      | inl p ↦ got x (next t) (r.resource a p.1) (omega (arith, le)) (inside_of ts t.at p.1)
      | inr not_closed ↦ elim (sign_at ts t.at kind.Comma) [
        | inl p ↦ elim (sign_at ts (t.at + 1) kind.CloseParenthesis) [
          | inl q ↦ got x (next (next t)) (r.resource_comma a p.1 q.1) (omega (arith, le)) (inside_of ts (t.at + 1) q.1)
          | inr none ↦ stopped stop.Unexpected (t.at + 1) (r.scope_comma_unclosed a p.1 none)
        ]
        | inr no_comma ↦ stopped stop.Unexpected t.at (r.scope_unclosed a not_closed no_comma)
      ]
    ]
    | stopped f n a ↦ stopped f n (r.resource_halts a)
  ]

  scopes_end : (s : Cursor) → Ended _ ts (s.at + 1) (ReadsScopes ts s)
  scopes_end s = elim (sign_at ts s.at kind.OpenParenthesis) [
    | inl p ↦ elim (principal_ends (next s)) [
      | got x t a le first ↦ elim (action_ends t) [
        | got y u b more second ↦ elim (resource_ends u) [
          | got z v c last third ↦
              got (record { principal = x; action = y; resource = z }) v (r.scopes p.1 a b c) (omega (arith, le, more, last)) third
          | stopped f n c ↦ stopped f n (r.scopes_resource_halts p.1 a b c)
        ]
        | stopped f n b ↦ stopped f n (r.scopes_action_halts p.1 a b)
      ]
      | stopped f n a ↦ stopped f n (r.scopes_principal_halts p.1 a)
    ]
    | inr none ↦ stopped stop.Unexpected s.at (r.no_parenthesis none)
  ]

  -- ---- clauses

  clauses_by : (k : ℕ) (s : Cursor) (cs : List Condition) → length ts < k + s.at → s.at ≤ length ts → Ended (List Condition) ts s.at (ReadsClauses ts s cs)
  clauses_by zero s cs ahead within = absurd (omega (arith, ahead, within))
  clauses_by (suc k) s cs ahead within = elim (clause_at ts s.at) [
    | inl x ↦ elim (sign_at ts (s.at + 1) kind.OpenBrace) [
      | inl q ↦ elim (braced_ends ts (next (next s)) (inside_of ts (s.at + 1) q.1)) [
        | got b t a le inner ↦
            passed_on (omega (arith, le)) (λ o d. r.clause x.2 q.1 a d)
            (clauses_by k (deeper t) (cs ++ record { place = x.0; kind = x.1; body = b } ∷ []) (omega (arith, ahead, le)) inner)
        | stopped f n a ↦ stopped f n (r.clause_halts x.2 q.1 a)
      ]
      | inr none ↦ stopped stop.Unexpected (s.at + 1) (r.no_brace x.2 none)
    ]
    | inr none ↦ got cs s (r.clauses_end none) (omega arith) within
  ]

  -- ---- a policy, and all

  policy_ends : (s : Cursor) → s.at ≤ length ts → Ended Policy ts (s.at + 1) (ReadsPolicy ts s)
  policy_ends s within = elim (head_ends s within) [
    | got h t a le first ↦ elim (scopes_end t) [
      | got x u b more second ↦ elim (clauses_by (suc (length ts)) u [] (omega arith) second) [
        | got cs v c last third ↦ elim (sign_at ts v.at kind.Semicolon) [
          | inl q ↦
              got (record { place = h.0; effect = h.1; principal = x.principal; action = x.action; resource = x.resource; conditions = cs }) (next v)
              (r.policy {p = h.0} {e = h.1} a b c q.1) (omega (arith, le, more, last)) (inside_of ts v.at q.1)
          | inr none ↦ stopped stop.Unexpected v.at (r.no_semicolon {p = h.0} {e = h.1} a b c none)
        ]
        | stopped f n c ↦ stopped f n (r.clauses_halt {p = h.0} {e = h.1} a b c)
      ]
      | stopped f n b ↦ stopped f n (r.scopes_halt {p = h.0} {e = h.1} a b)
    ]
    | stopped f n a ↦ stopped f n (r.head_halts a)
  ]

  policies_by : (k i : ℕ) (ps : List Policy) → length ts < k + i → i ≤ length ts → Ended (List Policy) ts i (ReadsPolicies ts i ps)
  policies_by zero i ps ahead within = absurd (omega (arith, ahead, within))
  policies_by (suc k) i ps ahead within = elim (there_by ts i (slice_get ts i) refl) [
    | no_token e ↦ got ps (outside i) (r.file_ends e) (omega arith) within
    | one_token l e ↦ elim (policy_at ts i) [
      | inl begins ↦ elim (cases_Bool (nat_lt (length ps) 10000)) [
        | inl few ↦ elim (policy_ends (outside i) within) [
          | got x t a le inner ↦ passed_on (omega (arith, le)) (λ o b. r.more_policies begins few a b) (policies_by k t.at (ps ++ x ∷ []) (omega (arith, ahead, le)) inner)
          | stopped f n a ↦ stopped f n (r.policy_halts begins few a)
        ]
        | inr many ↦ stopped stop.TooManyPolicies i (r.too_many begins many)
      ]
      | inr none ↦ stopped stop.Unexpected i (r.no_policy e none)
    ]
  ]

-- what comes of reading the tokens of a file
pub file_reading : (ts : List Lexeme) → (o : Outcome (List Policy)) × ReadsPolicies ts 0 [] o
file_reading ts = elim (policies_by ts (suc (length ts)) 0 [] (omega arith) (omega arith)) [
  | got ps t a le within ↦ (read ps t, a)
  | stopped f n a ↦ (halt f n, a)
]
