-- The nonterminals, by what they give. That of the rest of something is told what was read so far.
use Rattle.std.specs.Prelude.{ℕ, List}
use Rattle.sc_ast.specs.declared.place.Place.{Place}
use Rattle.sc_ast.specs.declared.expr.Expr.{Expr}
use Rattle.sc_ast.specs.declared.literal.EntityLiteral.{EntityLiteral}
use Rattle.sc_ast.specs.declared.operator.UnaryOperator.{UnaryOperator}
use Rattle.sc_ast.specs.declared.policy.Condition.{Condition}
use Rattle.sc_ast.specs.declared.policy.Policy.{Policy}
use Rattle.sc_lexemes.specs.declared.operator.Close.{Close}
use Rattle.sc_lexemes.specs.declared.operator.Level.{Level}
use Rattle.sc_parser.proofs.Sorts.{Sort}
use Rattle.sc_parser.proofs.Sorts as sort

pub data Nonterminal : Sort → Type 0 where
  ident : Nonterminal sort.name
  string : Nonterminal sort.string
  more_names : List (List ℕ) → Nonterminal sort.names
  names : Nonterminal sort.names
  more_path : List ℕ → Nonterminal sort.bytes
  path : Nonterminal sort.type_name
  more_entity : Place → List ℕ → Nonterminal sort.uid
  entity : Nonterminal sort.uid
  key : List (List ℕ × Expr) → Nonterminal sort.bytes
  expression : Nonterminal sort.tree
  inner : Nonterminal sort.tree
  enclosed : Close → Nonterminal sort.tree
  chain : Level → Nonterminal sort.tree
  more : Level → Expr → Nonterminal sort.tree
  operand : Level → Nonterminal sort.tree
  relation : Nonterminal sort.tree
  tail : Expr → Nonterminal sort.tree
  unary : Nonterminal sort.tree
  prefixes : UnaryOperator → ℕ → Nonterminal sort.tree
  member : Nonterminal sort.tree
  accesses : Expr → Nonterminal sort.tree
  primary : Nonterminal sort.tree
  items : Close → List Expr → Nonterminal sort.trees
  fields : List (List ℕ × Expr) → Nonterminal sort.fields
  head : Nonterminal sort.head
  slot : Nonterminal sort.uid
  asked : Nonterminal sort.constraint
  entities : List EntityLiteral → Nonterminal sort.uids
  asked_of_action : Nonterminal sort.action_constraint
  scope_part : List ℕ → Nonterminal sort.scope
  principal_part : Nonterminal sort.scope
  action_part : Nonterminal sort.action_scope
  resource_part : Nonterminal sort.scope
  whole_scope : Nonterminal sort.scopes
  clauses : List Condition → Nonterminal sort.conditions
  policy : Nonterminal sort.policy
  policies : List Policy → Nonterminal sort.policies
