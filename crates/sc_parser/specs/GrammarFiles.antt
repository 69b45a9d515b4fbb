-- The grammar of policy files, over a fixed list of tokens: that the tokens from one place up to another spell a
-- policy, and its parts. One case for each form of a production.
use Rattle.std.specs.Prelude.{ℕ, ◌+◌, List, [], ◌∷◌, ◌++◌, length, codes, false, nat_lt}
use Rattle.sc_pattern.specs.declared.part.Part.{Part}
use Rattle.sc_ast.specs.declared.place.Place.{Place}
use Rattle.sc_ast.specs.declared.expr.Expr.{Expr}
use Rattle.sc_ast.specs.declared.expr.TypeName.{TypeName}
use Rattle.sc_ast.specs.declared.literal.EntityLiteral.{EntityLiteral}
use Rattle.sc_ast.specs.declared.policy.Effect.{Effect}
use Rattle.sc_ast.specs.declared.policy.Condition.{Condition}
use Rattle.sc_ast.specs.declared.policy.ConditionKind.{ConditionKind}
use Rattle.sc_ast.specs.declared.policy.Policy.{Policy}
use Rattle.sc_ast.specs.declared.scope.Constraint.{Constraint}
use Rattle.sc_ast.specs.declared.scope.Constraint.TheVariants as constraint
use Rattle.sc_ast.specs.declared.scope.ActionConstraint.{ActionConstraint}
use Rattle.sc_ast.specs.declared.scope.ActionConstraint.TheVariants as action
use Rattle.sc_ast.specs.declared.scope.Scope.{Scope}
use Rattle.sc_ast.specs.declared.scope.ActionScope.{ActionScope}
use Rattle.sc_lexer.specs.declared.token.Kind.TheVariants as kind
use Rattle.sc_lexemes.specs.declared.cursor.Cursor.{Cursor}
use Rattle.sc_lexemes.specs.declared.lexeme.Lexeme.{Lexeme}
use Rattle.sc_lexemes.specs.declared.lexeme.Shape.TheVariants.{Word, String, Sign}
use Rattle.sc_lexemes.specs.declared.operator.Close.TheVariants as close
use Rattle.sc_parser.specs.declared.scopes.Scopes.{Scopes}
use Rattle.sc_lexemes.specs.declared.stop.Stop.TheVariants as stop
use Rattle.sc_lexemes.specs.Depth.{next, deeper, outside}
use Rattle.sc_parser.specs.Grammar.{Path, Entity, Enclosed}
use Rattle.sc_lexemes.specs.Lexemes.{Is, IsEffect, IsClause}
use Rattle.sc_parser.specs.Limits.{Limits, Holds}

-- annotations, and the word of the effect; an annotation is `@`, a word, and perhaps a string in parentheses
pub data Head : Limits → List Lexeme → Cursor → Place → Effect → Cursor → Type 0 where
  effect : {K : Limits} {ts : List Lexeme} {s : Cursor} {p : Place} {e : Effect} → IsEffect ts s.at p e
      → Head K ts s p e (next s)
  bare_annotation : {K : Limits} {ts : List Lexeme} {s t : Cursor} {p q r : Place} {w : List ℕ} {e : Effect}
      → Is ts s.at p (Sign kind.At) → Is ts (s.at + 1) q (Word w) → Head K ts (next (next s)) r e t → Head K ts s r e t
  annotation : {K : Limits} {ts : List Lexeme} {s t : Cursor} {p q r v x y : Place} {w a : List ℕ} {parts : List Part}
      {e : Effect} → Is ts s.at p (Sign kind.At) → Is ts (s.at + 1) q (Word w)
      → Is ts (s.at + 2) r (Sign kind.OpenParenthesis) → Is ts (s.at + 3) v (String a parts)
      → Is ts (s.at + 4) x (Sign kind.CloseParenthesis) → Head K ts (next (next (next (next (next s))))) y e t
      → Head K ts s y e t

-- an entity's uid; a template's slot would stand for any
pub data Slot : Limits → List Lexeme → Cursor → EntityLiteral → Cursor → Type 0 where
  no_slot : {K : Limits} {ts : List Lexeme} {s t : Cursor} {e : EntityLiteral} → Entity K ts s e t → Slot K ts s e t
  slot : {K : Limits} {ts : List Lexeme} {s : Cursor} {p : Place} {e : EntityLiteral}
      → Is ts s.at p (Sign kind.Question) → Holds K stop.Template s.at false → Slot K ts s e (next s)

-- what is asked of the principal or of the resource
pub data Asked : Limits → List Lexeme → Cursor → Constraint → Cursor → Type 0 where
  any : {K : Limits} {ts : List Lexeme} {s : Cursor} → Asked K ts s constraint.Any s
  equal : {K : Limits} {ts : List Lexeme} {s t : Cursor} {p : Place} {e : EntityLiteral}
      → Is ts s.at p (Sign kind.Equal) → Slot K ts (next s) e t → Asked K ts s (constraint.Equal p e) t
  within : {K : Limits} {ts : List Lexeme} {s t : Cursor} {p : Place} {e : EntityLiteral}
      → Is ts s.at p (Word (codes "in")) → Slot K ts (next s) e t → Asked K ts s (constraint.In p e) t
  of_type : {K : Limits} {ts : List Lexeme} {s t : Cursor} {p : Place} {y : TypeName}
      → Is ts s.at p (Word (codes "is")) → Path K ts (next s) y t → Asked K ts s (constraint.Is p y) t
  of_type_within : {K : Limits} {ts : List Lexeme} {s t u : Cursor} {p q : Place} {y : TypeName} {e : EntityLiteral}
      → Is ts s.at p (Word (codes "is")) → Path K ts (next s) y t → Is ts t.at q (Word (codes "in"))
      → Slot K ts (next t) e u → Asked K ts s (constraint.IsIn p y q e) u

-- uids with commas between them, perhaps one behind the last, up to the bracket that ends the list; those so far,
-- then all
pub data Entities : Limits → List Lexeme → Cursor → List EntityLiteral → List EntityLiteral → Cursor → Type 0 where
  entities_end : {K : Limits} {ts : List Lexeme} {s : Cursor} {p : Place} {es : List EntityLiteral}
      → Is ts s.at p (Sign kind.CloseBracket) → Entities K ts s es es s
  last_entity : {K : Limits} {ts : List Lexeme} {s t : Cursor} {p : Place} {es : List EntityLiteral}
      {e : EntityLiteral} → Entity K ts s e t → Is ts t.at p (Sign kind.CloseBracket)
      → Entities K ts s es (es ++ e ∷ []) t
  more_entities : {K : Limits} {ts : List Lexeme} {s t u : Cursor} {p : Place} {es fs : List EntityLiteral}
      {e : EntityLiteral} → Entity K ts s e t → Is ts t.at p (Sign kind.Comma)
      → Entities K ts (next t) (es ++ e ∷ []) fs u → Entities K ts s es fs u

-- what is asked of the action
pub data AskedOfAction : Limits → List Lexeme → Cursor → ActionConstraint → Cursor → Type 0 where
  any_action : {K : Limits} {ts : List Lexeme} {s : Cursor} → AskedOfAction K ts s action.Any s
  equal_action : {K : Limits} {ts : List Lexeme} {s t : Cursor} {p : Place} {e : EntityLiteral}
      → Is ts s.at p (Sign kind.Equal) → Entity K ts (next s) e t → AskedOfAction K ts s (action.Equal p e) t
  within_action : {K : Limits} {ts : List Lexeme} {s t : Cursor} {p : Place} {e : EntityLiteral}
      → Is ts s.at p (Word (codes "in")) → Entity K ts (next s) e t → AskedOfAction K ts s (action.In p e) t
  within_actions : {K : Limits} {ts : List Lexeme} {s t : Cursor} {p q : Place} {es : List EntityLiteral}
      → Is ts s.at p (Word (codes "in")) → Is ts (s.at + 1) q (Sign kind.OpenBracket)
      → Entities K ts (next (next s)) [] es t → AskedOfAction K ts s (action.InAny p q es) (next t)

-- this word, and what is asked of what it stands for
pub data ScopePart : Limits → List Lexeme → List ℕ → Cursor → Scope → Cursor → Type 0 where
  part : {K : Limits} {ts : List Lexeme} {w : List ℕ} {s t : Cursor} {p : Place} {c : Constraint}
      → Is ts s.at p (Word w) → Asked K ts (next s) c t → ScopePart K ts w s (record { place = p; constraint = c }) t

-- the word `action`, and what is asked of it
pub data ActionPart : Limits → List Lexeme → Cursor → ActionScope → Cursor → Type 0 where
  action_part : {K : Limits} {ts : List Lexeme} {s t : Cursor} {p : Place} {c : ActionConstraint}
      → Is ts s.at p (Word (codes "action")) → AskedOfAction K ts (next s) c t
      → ActionPart K ts s (record { place = p; constraint = c }) t

-- perhaps a comma, and the closing parenthesis
pub data ScopeEnd : Limits → List Lexeme → Cursor → Cursor → Type 0 where
  scope_end : {K : Limits} {ts : List Lexeme} {s : Cursor} {p : Place} → Is ts s.at p (Sign kind.CloseParenthesis)
      → ScopeEnd K ts s (next s)
  scope_comma_end : {K : Limits} {ts : List Lexeme} {s : Cursor} {p q : Place} → Is ts s.at p (Sign kind.Comma)
      → Is ts (s.at + 1) q (Sign kind.CloseParenthesis) → ScopeEnd K ts s (next (next s))

-- the three parts of a scope in parentheses
pub data WholeScope : Limits → List Lexeme → Cursor → Scopes → Cursor → Type 0 where
  whole_scope : {K : Limits} {ts : List Lexeme} {s t u v w : Cursor} {p q r : Place} {x z : Scope} {y : ActionScope}
      → Is ts s.at p (Sign kind.OpenParenthesis) → ScopePart K ts (codes "principal") (next s) x t
      → Is ts t.at q (Sign kind.Comma) → ActionPart K ts (next t) y u → Is ts u.at r (Sign kind.Comma)
      → ScopePart K ts (codes "resource") (next u) z v → ScopeEnd K ts v w
      → WholeScope K ts s (record { principal = x; action = y; resource = z }) w

-- clauses: `when` or `unless`, and an expression in braces; those so far, then all
pub data Clauses : Limits → List Lexeme → Cursor → List Condition → List Condition → Cursor → Type 0 where
  clauses_end : {K : Limits} {ts : List Lexeme} {s : Cursor} {cs : List Condition} → Clauses K ts s cs cs s
  clauses_more : {K : Limits} {ts : List Lexeme} {s t u : Cursor} {cs ds : List Condition} {p q : Place}
      {k : ConditionKind} {x : Expr} → IsClause ts s.at p k → Is ts (s.at + 1) q (Sign kind.OpenBrace)
      → Enclosed K ts close.Brace (next (next s)) x t
      → Clauses K ts (deeper t) (cs ++ record { place = p; kind = k; body = x } ∷ []) ds u → Clauses K ts s cs ds u

-- a policy: its head, its scope, its clauses and a semicolon
pub data OnePolicy : Limits → List Lexeme → Cursor → Policy → Cursor → Type 0 where
  policy : {K : Limits} {ts : List Lexeme} {s t u v : Cursor} {p q : Place} {e : Effect} {x : Scopes}
      {cs : List Condition} → Head K ts s p e t → WholeScope K ts t x u → Clauses K ts u [] cs v
      → Is ts v.at q (Sign kind.Semicolon)
      → OnePolicy K ts s (record {
        place = p;
        effect = e;
        principal = x.principal;
        action = x.action;
        resource = x.resource;
        conditions = cs;
      }) (next v)

-- policies, at most 10,000 in a file; those so far, then all
pub data Policies : Limits → List Lexeme → ℕ → List Policy → List Policy → ℕ → Type 0 where
  policies_end : {K : Limits} {ts : List Lexeme} {i : ℕ} {ps : List Policy} → Policies K ts i ps ps i
  policies_more : {K : Limits} {ts : List Lexeme} {i j : ℕ} {t : Cursor} {x : Policy} {ps qs : List Policy}
      → Holds K stop.TooManyPolicies i (nat_lt (length ps) 10000) → OnePolicy K ts (outside i) x t
      → Policies K ts t.at (ps ++ x ∷ []) qs j → Policies K ts i ps qs j

-- all the tokens spell the policies
abbrev pub File : Limits → List Lexeme → List Policy → Type 0
File K ts ps = Policies K ts 0 [] ps (length ts)
