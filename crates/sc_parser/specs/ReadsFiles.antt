-- What comes of reading a file, token by token: one case for each way in which it ends. No public promise speaks of
-- this.
use Rattle.std.specs.Prelude.{◌≡◌, ℕ, ◌+◌, List, [], ◌∷◌, ◌++◌, length, codes, true, false, nat_lt, slice_get}
use Rattle.std.specs.declared.option.Option.TheVariants.{Some, None}
use Rattle.sc_pattern.specs.declared.part.Part.{Part}
use Rattle.sc_ast.specs.declared.place.Place.{Place}
use Rattle.sc_ast.specs.declared.expr.Expr.{Expr}
use Rattle.sc_ast.specs.declared.expr.TypeName.{TypeName}
use Rattle.sc_ast.specs.declared.literal.EntityLiteral.{EntityLiteral}
use Rattle.sc_ast.specs.declared.policy.Effect.{Effect}
use Rattle.sc_ast.specs.declared.policy.Condition.{Condition}
use Rattle.sc_ast.specs.declared.policy.ConditionKind.{ConditionKind}
use Rattle.sc_ast.specs.declared.policy.Policy.{Policy}
use Rattle.sc_ast.specs.declared.scope.Constraint.{Constraint}
use Rattle.sc_ast.specs.declared.scope.Constraint.TheVariants as constraint
use Rattle.sc_ast.specs.declared.scope.ActionConstraint.{ActionConstraint}
use Rattle.sc_ast.specs.declared.scope.ActionConstraint.TheVariants as action
use Rattle.sc_ast.specs.declared.scope.Scope.{Scope}
use Rattle.sc_ast.specs.declared.scope.ActionScope.{ActionScope}
use Rattle.sc_lexer.specs.declared.token.Kind.TheVariants as kind
use Rattle.sc_lexemes.specs.declared.cursor.Cursor.{Cursor}
use Rattle.sc_lexemes.specs.declared.lexeme.Lexeme.{Lexeme}
use Rattle.sc_lexemes.specs.declared.lexeme.Shape.TheVariants.{Word, String, Sign}
use Rattle.sc_lexemes.specs.declared.operator.Close.TheVariants as close
use Rattle.sc_parser.specs.declared.scopes.Scopes.{Scopes}
use Rattle.sc_lexemes.specs.declared.stop.Stop.{Stop}
use Rattle.sc_lexemes.specs.declared.stop.Stop.TheVariants as stop
use Rattle.sc_lexemes.specs.Depth.{next, deeper, outside}
use Rattle.sc_lexemes.specs.Lexemes.{Is, Lacks, LacksString, LacksWord, IsEffect, LacksEffect, IsClause, LacksClause, IsPolicyStart}
use Rattle.sc_lexemes.specs.Outcomes.{Outcome, read, halt}
use Rattle.sc_lexemes.specs.ReadsWords.{ReadsPath, ReadsEntity}
use Rattle.sc_parser.specs.Reads.{ReadsEnclosed}

-- an annotation: `@`, a word, and perhaps a string in parentheses
pub data SkipsAnnotation : List Lexeme → Cursor → Cursor → Type 0 where
  bare_annotation : {ts : List Lexeme} {s : Cursor} {p q : Place} {w : List ℕ} → Is ts s.at p (Sign kind.At)
      → Is ts (s.at + 1) q (Word w) → Lacks ts (s.at + 2) (Sign kind.OpenParenthesis)
      → SkipsAnnotation ts s (next (next s))
  annotation : {ts : List Lexeme} {s : Cursor} {p q r v x : Place} {w t : List ℕ} {parts : List Part}
      → Is ts s.at p (Sign kind.At) → Is ts (s.at + 1) q (Word w) → Is ts (s.at + 2) r (Sign kind.OpenParenthesis)
      → Is ts (s.at + 3) v (String t parts) → Is ts (s.at + 4) x (Sign kind.CloseParenthesis)
      → SkipsAnnotation ts s (next (next (next (next (next s)))))

-- an annotation that isn't whole
pub data HaltsAnnotation : List Lexeme → Cursor → Stop → ℕ → Type 0 where
  no_annotation_word : {ts : List Lexeme} {s : Cursor} {p : Place} → Is ts s.at p (Sign kind.At)
      → LacksWord ts (s.at + 1) → HaltsAnnotation ts s stop.Unexpected (s.at + 1)
  no_annotation_string : {ts : List Lexeme} {s : Cursor} {p q r : Place} {w : List ℕ} → Is ts s.at p (Sign kind.At)
      → Is ts (s.at + 1) q (Word w) → Is ts (s.at + 2) r (Sign kind.OpenParenthesis) → LacksString ts (s.at + 3)
      → HaltsAnnotation ts s stop.Unexpected (s.at + 3)
  annotation_unclosed : {ts : List Lexeme} {s : Cursor} {p q r v : Place} {w t : List ℕ} {parts : List Part}
      → Is ts s.at p (Sign kind.At) → Is ts (s.at + 1) q (Word w) → Is ts (s.at + 2) r (Sign kind.OpenParenthesis)
      → Is ts (s.at + 3) v (String t parts) → Lacks ts (s.at + 4) (Sign kind.CloseParenthesis)
      → HaltsAnnotation ts s stop.Unexpected (s.at + 4)

-- annotations, and the word of the effect
pub data ReadsHead : List Lexeme → Cursor → Outcome (Place × Effect) → Type 0 where
  effect : {ts : List Lexeme} {s : Cursor} {p : Place} {e : Effect} → IsEffect ts s.at p e
      → ReadsHead ts s (read (p, e) (next s))
  no_effect : {ts : List Lexeme} {s : Cursor} → Lacks ts s.at (Sign kind.At) → LacksEffect ts s.at
      → ReadsHead ts s (halt stop.Unexpected s.at)
  annotation_halts : {ts : List Lexeme} {s : Cursor} {f : Stop} {n : ℕ} → HaltsAnnotation ts s f n
      → ReadsHead ts s (halt f n)
  annotated : {ts : List Lexeme} {s t : Cursor} {o : Outcome (Place × Effect)} → SkipsAnnotation ts s t
      → ReadsHead ts t o → ReadsHead ts s o

-- an entity's uid where a template would have a slot
pub data ReadsSlot : List Lexeme → Cursor → Outcome EntityLiteral → Type 0 where
  slot : {ts : List Lexeme} {s : Cursor} {p : Place} → Is ts s.at p (Sign kind.Question)
      → ReadsSlot ts s (halt stop.Template s.at)
  no_slot : {ts : List Lexeme} {s : Cursor} {o : Outcome EntityLiteral} → Lacks ts s.at (Sign kind.Question)
      → ReadsEntity ts s o → ReadsSlot ts s o

-- what is asked of the principal or of the resource
pub data ReadsConstraint : List Lexeme → Cursor → Outcome Constraint → Type 0 where
  any : {ts : List Lexeme} {s : Cursor} → Lacks ts s.at (Sign kind.Equal) → Lacks ts s.at (Word (codes "in"))
      → Lacks ts s.at (Word (codes "is")) → ReadsConstraint ts s (read constraint.Any s)
  equal : {ts : List Lexeme} {s t : Cursor} {p : Place} {e : EntityLiteral} → Is ts s.at p (Sign kind.Equal)
      → ReadsSlot ts (next s) (read e t) → ReadsConstraint ts s (read (constraint.Equal p e) t)
  equal_halts : {ts : List Lexeme} {s : Cursor} {p : Place} {f : Stop} {n : ℕ} → Is ts s.at p (Sign kind.Equal)
      → ReadsSlot ts (next s) (halt f n) → ReadsConstraint ts s (halt f n)
  within : {ts : List Lexeme} {s t : Cursor} {p : Place} {e : EntityLiteral} → Is ts s.at p (Word (codes "in"))
      → ReadsSlot ts (next s) (read e t) → ReadsConstraint ts s (read (constraint.In p e) t)
  within_halts : {ts : List Lexeme} {s : Cursor} {p : Place} {f : Stop} {n : ℕ} → Is ts s.at p (Word (codes "in"))
      → ReadsSlot ts (next s) (halt f n) → ReadsConstraint ts s (halt f n)
  type_halts : {ts : List Lexeme} {s : Cursor} {p : Place} {f : Stop} {n : ℕ} → Is ts s.at p (Word (codes "is"))
      → ReadsPath ts (next s) (halt f n) → ReadsConstraint ts s (halt f n)
  of_type : {ts : List Lexeme} {s t : Cursor} {p : Place} {y : TypeName} → Is ts s.at p (Word (codes "is"))
      → ReadsPath ts (next s) (read y t) → Lacks ts t.at (Word (codes "in"))
      → ReadsConstraint ts s (read (constraint.Is p y) t)
  of_type_within_halts : {ts : List Lexeme} {s t : Cursor} {p q : Place} {y : TypeName} {f : Stop} {n : ℕ}
      → Is ts s.at p (Word (codes "is")) → ReadsPath ts (next s) (read y t) → Is ts t.at q (Word (codes "in"))
      → ReadsSlot ts (next t) (halt f n) → ReadsConstraint ts s (halt f n)
  of_type_within : {ts : List Lexeme} {s t u : Cursor} {p q : Place} {y : TypeName} {e : EntityLiteral}
      → Is ts s.at p (Word (codes "is")) → ReadsPath ts (next s) (read y t) → Is ts t.at q (Word (codes "in"))
      → ReadsSlot ts (next t) (read e u) → ReadsConstraint ts s (read (constraint.IsIn p y q e) u)

-- the uids of a list behind those so far, up to the bracket that ends it; a comma may stand before it
pub data ReadsEntities : List Lexeme → Cursor → List EntityLiteral → Outcome (List EntityLiteral) → Type 0 where
  entities_end : {ts : List Lexeme} {s : Cursor} {p : Place} {es : List EntityLiteral}
      → Is ts s.at p (Sign kind.CloseBracket) → ReadsEntities ts s es (read es s)
  entities_halt : {ts : List Lexeme} {s : Cursor} {es : List EntityLiteral} {f : Stop} {n : ℕ}
      → Lacks ts s.at (Sign kind.CloseBracket) → ReadsEntity ts s (halt f n) → ReadsEntities ts s es (halt f n)
  last_entity : {ts : List Lexeme} {s t : Cursor} {p : Place} {es : List EntityLiteral} {e : EntityLiteral}
      → Lacks ts s.at (Sign kind.CloseBracket) → ReadsEntity ts s (read e t) → Is ts t.at p (Sign kind.CloseBracket)
      → ReadsEntities ts s es (read (es ++ e ∷ []) t)
  no_entity_comma : {ts : List Lexeme} {s t : Cursor} {es : List EntityLiteral} {e : EntityLiteral}
      → Lacks ts s.at (Sign kind.CloseBracket) → ReadsEntity ts s (read e t) → Lacks ts t.at (Sign kind.CloseBracket)
      → Lacks ts t.at (Sign kind.Comma) → ReadsEntities ts s es (halt stop.Unexpected t.at)
  more_entities : {ts : List Lexeme} {s t : Cursor} {p : Place} {es : List EntityLiteral} {e : EntityLiteral}
      {o : Outcome (List EntityLiteral)} → Lacks ts s.at (Sign kind.CloseBracket) → ReadsEntity ts s (read e t)
      → Is ts t.at p (Sign kind.Comma) → ReadsEntities ts (next t) (es ++ e ∷ []) o → ReadsEntities ts s es o

-- what is asked of the action
pub data ReadsActionConstraint : List Lexeme → Cursor → Outcome ActionConstraint → Type 0 where
  any_action : {ts : List Lexeme} {s : Cursor} → Lacks ts s.at (Sign kind.Equal) → Lacks ts s.at (Word (codes "in"))
      → ReadsActionConstraint ts s (read action.Any s)
  equal_action : {ts : List Lexeme} {s t : Cursor} {p : Place} {e : EntityLiteral} → Is ts s.at p (Sign kind.Equal)
      → ReadsEntity ts (next s) (read e t) → ReadsActionConstraint ts s (read (action.Equal p e) t)
  equal_action_halts : {ts : List Lexeme} {s : Cursor} {p : Place} {f : Stop} {n : ℕ} → Is ts s.at p (Sign kind.Equal)
      → ReadsEntity ts (next s) (halt f n) → ReadsActionConstraint ts s (halt f n)
  within_action : {ts : List Lexeme} {s t : Cursor} {p : Place} {e : EntityLiteral} → Is ts s.at p (Word (codes "in"))
      → Lacks ts (s.at + 1) (Sign kind.OpenBracket) → ReadsEntity ts (next s) (read e t)
      → ReadsActionConstraint ts s (read (action.In p e) t)
  within_action_halts : {ts : List Lexeme} {s : Cursor} {p : Place} {f : Stop} {n : ℕ}
      → Is ts s.at p (Word (codes "in")) → Lacks ts (s.at + 1) (Sign kind.OpenBracket)
      → ReadsEntity ts (next s) (halt f n) → ReadsActionConstraint ts s (halt f n)
  within_actions : {ts : List Lexeme} {s t : Cursor} {p q : Place} {es : List EntityLiteral}
      → Is ts s.at p (Word (codes "in")) → Is ts (s.at + 1) q (Sign kind.OpenBracket)
      → ReadsEntities ts (next (next s)) [] (read es t)
      → ReadsActionConstraint ts s (read (action.InAny p q es) (next t))
  within_actions_halt : {ts : List Lexeme} {s : Cursor} {p q : Place} {f : Stop} {n : ℕ}
      → Is ts s.at p (Word (codes "in")) → Is ts (s.at + 1) q (Sign kind.OpenBracket)
      → ReadsEntities ts (next (next s)) [] (halt f n) → ReadsActionConstraint ts s (halt f n)

-- this word, and what is asked of what it stands for
pub data ReadsScope : List Lexeme → List ℕ → Cursor → Outcome Scope → Type 0 where
  no_scope : {ts : List Lexeme} {w : List ℕ} {s : Cursor} → Lacks ts s.at (Word w)
      → ReadsScope ts w s (halt stop.Unexpected s.at)
  constraint_halts : {ts : List Lexeme} {w : List ℕ} {s : Cursor} {p : Place} {f : Stop} {n : ℕ}
      → Is ts s.at p (Word w) → ReadsConstraint ts (next s) (halt f n) → ReadsScope ts w s (halt f n)
  scope : {ts : List Lexeme} {w : List ℕ} {s t : Cursor} {p : Place} {c : Constraint} → Is ts s.at p (Word w)
      → ReadsConstraint ts (next s) (read c t) → ReadsScope ts w s (read (record { place = p; constraint = c }) t)

-- the part on the principal, and the comma behind it
pub data ReadsPrincipal : List Lexeme → Cursor → Outcome Scope → Type 0 where
  principal_halts : {ts : List Lexeme} {s : Cursor} {f : Stop} {n : ℕ}
      → ReadsScope ts (codes "principal") s (halt f n) → ReadsPrincipal ts s (halt f n)
  no_principal_comma : {ts : List Lexeme} {s t : Cursor} {x : Scope} → ReadsScope ts (codes "principal") s (read x t)
      → Lacks ts t.at (Sign kind.Comma) → ReadsPrincipal ts s (halt stop.Unexpected t.at)
  principal : {ts : List Lexeme} {s t : Cursor} {p : Place} {x : Scope}
      → ReadsScope ts (codes "principal") s (read x t) → Is ts t.at p (Sign kind.Comma)
      → ReadsPrincipal ts s (read x (next t))

-- the part on the action, and the comma behind it
pub data ReadsAction : List Lexeme → Cursor → Outcome ActionScope → Type 0 where
  no_action : {ts : List Lexeme} {s : Cursor} → Lacks ts s.at (Word (codes "action"))
      → ReadsAction ts s (halt stop.Unexpected s.at)
  action_halts : {ts : List Lexeme} {s : Cursor} {p : Place} {f : Stop} {n : ℕ} → Is ts s.at p (Word (codes "action"))
      → ReadsActionConstraint ts (next s) (halt f n) → ReadsAction ts s (halt f n)
  no_action_comma : {ts : List Lexeme} {s t : Cursor} {p : Place} {c : ActionConstraint}
      → Is ts s.at p (Word (codes "action")) → ReadsActionConstraint ts (next s) (read c t)
      → Lacks ts t.at (Sign kind.Comma) → ReadsAction ts s (halt stop.Unexpected t.at)
  action_scope : {ts : List Lexeme} {s t : Cursor} {p q : Place} {c : ActionConstraint}
      → Is ts s.at p (Word (codes "action")) → ReadsActionConstraint ts (next s) (read c t)
      → Is ts t.at q (Sign kind.Comma) → ReadsAction ts s (read (record { place = p; constraint = c }) (next t))

-- the part on the resource, perhaps a comma, and the closing parenthesis
pub data ReadsResource : List Lexeme → Cursor → Outcome Scope → Type 0 where
  resource_halts : {ts : List Lexeme} {s : Cursor} {f : Stop} {n : ℕ} → ReadsScope ts (codes "resource") s (halt f n)
      → ReadsResource ts s (halt f n)
  resource : {ts : List Lexeme} {s t : Cursor} {p : Place} {x : Scope} → ReadsScope ts (codes "resource") s (read x t)
      → Is ts t.at p (Sign kind.CloseParenthesis) → ReadsResource ts s (read x (next t))
  scope_unclosed : {ts : List Lexeme} {s t : Cursor} {x : Scope} → ReadsScope ts (codes "resource") s (read x t)
      → Lacks ts t.at (Sign kind.CloseParenthesis) → Lacks ts t.at (Sign kind.Comma)
      → ReadsResource ts s (halt stop.Unexpected t.at)
  resource_comma : {ts : List Lexeme} {s t : Cursor} {p q : Place} {x : Scope}
      → ReadsScope ts (codes "resource") s (read x t) → Is ts t.at p (Sign kind.Comma)
      → Is ts (t.at + 1) q (Sign kind.CloseParenthesis) → ReadsResource ts s (read x (next (next t)))
  scope_comma_unclosed : {ts : List Lexeme} {s t : Cursor} {p : Place} {x : Scope}
      → ReadsScope ts (codes "resource") s (read x t) → Is ts t.at p (Sign kind.Comma)
      → Lacks ts (t.at + 1) (Sign kind.CloseParenthesis) → ReadsResource ts s (halt stop.Unexpected (t.at + 1))

-- the scope in its parentheses
pub data ReadsScopes : List Lexeme → Cursor → Outcome Scopes → Type 0 where
  no_parenthesis : {ts : List Lexeme} {s : Cursor} → Lacks ts s.at (Sign kind.OpenParenthesis)
      → ReadsScopes ts s (halt stop.Unexpected s.at)
  scopes_principal_halts : {ts : List Lexeme} {s : Cursor} {p : Place} {f : Stop} {n : ℕ}
      → Is ts s.at p (Sign kind.OpenParenthesis) → ReadsPrincipal ts (next s) (halt f n) → ReadsScopes ts s (halt f n)
  scopes_action_halts : {ts : List Lexeme} {s t : Cursor} {p : Place} {x : Scope} {f : Stop} {n : ℕ}
      → Is ts s.at p (Sign kind.OpenParenthesis) → ReadsPrincipal ts (next s) (read x t) → ReadsAction ts t (halt f n)
      → ReadsScopes ts s (halt f n)
  scopes_resource_halts : {ts : List Lexeme} {s t u : Cursor} {p : Place} {x : Scope} {y : ActionScope} {f : Stop}
      {n : ℕ} → Is ts s.at p (Sign kind.OpenParenthesis) → ReadsPrincipal ts (next s) (read x t)
      → ReadsAction ts t (read y u) → ReadsResource ts u (halt f n) → ReadsScopes ts s (halt f n)
  scopes : {ts : List Lexeme} {s t u v : Cursor} {p : Place} {x z : Scope} {y : ActionScope}
      → Is ts s.at p (Sign kind.OpenParenthesis) → ReadsPrincipal ts (next s) (read x t) → ReadsAction ts t (read y u)
      → ReadsResource ts u (read z v) → ReadsScopes ts s (read (record { principal = x; action = y; resource = z }) v)

-- `when` and `unless` clauses behind those so far
pub data ReadsClauses : List Lexeme → Cursor → List Condition → Outcome (List Condition) → Type 0 where
  clauses_end : {ts : List Lexeme} {s : Cursor} {cs : List Condition} → LacksClause ts s.at
      → ReadsClauses ts s cs (read cs s)
  no_brace : {ts : List Lexeme} {s : Cursor} {cs : List Condition} {p : Place} {k : ConditionKind}
      → IsClause ts s.at p k → Lacks ts (s.at + 1) (Sign kind.OpenBrace)
      → ReadsClauses ts s cs (halt stop.Unexpected (s.at + 1))
  clause_halts : {ts : List Lexeme} {s : Cursor} {cs : List Condition} {p q : Place} {k : ConditionKind} {f : Stop}
      {n : ℕ} → IsClause ts s.at p k → Is ts (s.at + 1) q (Sign kind.OpenBrace)
      → ReadsEnclosed ts close.Brace (next (next s)) (halt f n) → ReadsClauses ts s cs (halt f n)
  clause : {ts : List Lexeme} {s t : Cursor} {cs : List Condition} {p q : Place} {k : ConditionKind} {x : Expr}
      {o : Outcome (List Condition)} → IsClause ts s.at p k → Is ts (s.at + 1) q (Sign kind.OpenBrace)
      → ReadsEnclosed ts close.Brace (next (next s)) (read x t)
      → ReadsClauses ts (deeper t) (cs ++ record { place = p; kind = k; body = x } ∷ []) o → ReadsClauses ts s cs o

-- a policy
pub data ReadsPolicy : List Lexeme → Cursor → Outcome Policy → Type 0 where
  head_halts : {ts : List Lexeme} {s : Cursor} {f : Stop} {n : ℕ} → ReadsHead ts s (halt f n)
      → ReadsPolicy ts s (halt f n)
  scopes_halt : {ts : List Lexeme} {s t : Cursor} {p : Place} {e : Effect} {f : Stop} {n : ℕ}
      → ReadsHead ts s (read (p, e) t) → ReadsScopes ts t (halt f n) → ReadsPolicy ts s (halt f n)
  clauses_halt : {ts : List Lexeme} {s t u : Cursor} {p : Place} {e : Effect} {x : Scopes} {f : Stop} {n : ℕ}
      → ReadsHead ts s (read (p, e) t) → ReadsScopes ts t (read x u) → ReadsClauses ts u [] (halt f n)
      → ReadsPolicy ts s (halt f n)
  no_semicolon : {ts : List Lexeme} {s t u v : Cursor} {p : Place} {e : Effect} {x : Scopes} {cs : List Condition}
      → ReadsHead ts s (read (p, e) t) → ReadsScopes ts t (read x u) → ReadsClauses ts u [] (read cs v)
      → Lacks ts v.at (Sign kind.Semicolon) → ReadsPolicy ts s (halt stop.Unexpected v.at)
  policy : {ts : List Lexeme} {s t u v : Cursor} {p q : Place} {e : Effect} {x : Scopes} {cs : List Condition}
      → ReadsHead ts s (read (p, e) t) → ReadsScopes ts t (read x u) → ReadsClauses ts u [] (read cs v)
      → Is ts v.at q (Sign kind.Semicolon)
      → ReadsPolicy ts s (read
      (record {
        place = p;
        effect = e;
        principal = x.principal;
        action = x.action;
        resource = x.resource;
        conditions = cs;
      }) (next v))

-- the policies from a place on, behind those so far; at most 10,000 of them
pub data ReadsPolicies : List Lexeme → ℕ → List Policy → Outcome (List Policy) → Type 0 where
  file_ends : {ts : List Lexeme} {i : ℕ} {ps : List Policy} → slice_get ts i ≡ None
      → ReadsPolicies ts i ps (read ps (outside i))
  too_many : {ts : List Lexeme} {i : ℕ} {ps : List Policy} → IsPolicyStart ts i → nat_lt (length ps) 10000 ≡ false
      → ReadsPolicies ts i ps (halt stop.TooManyPolicies i)
  no_policy : {ts : List Lexeme} {i : ℕ} {l : Lexeme} {ps : List Policy} → slice_get ts i ≡ Some l
      → (IsPolicyStart ts i → ⊥) → ReadsPolicies ts i ps (halt stop.Unexpected i)
  policy_halts : {ts : List Lexeme} {i : ℕ} {ps : List Policy} {f : Stop} {n : ℕ} → IsPolicyStart ts i
      → nat_lt (length ps) 10000 ≡ true → ReadsPolicy ts (outside i) (halt f n) → ReadsPolicies ts i ps (halt f n)
  more_policies : {ts : List Lexeme} {i : ℕ} {t : Cursor} {x : Policy} {ps : List Policy} {o : Outcome (List Policy)}
      → IsPolicyStart ts i → nat_lt (length ps) 10000 ≡ true → ReadsPolicy ts (outside i) (read x t)
      → ReadsPolicies ts t.at (ps ++ x ∷ []) o → ReadsPolicies ts i ps o
