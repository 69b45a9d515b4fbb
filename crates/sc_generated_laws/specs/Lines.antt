-- The line of a generated policy as tokens, and the policy that it spells.
use Rattle.std.specs.Prelude.{ℕ, List, [], ◌∷◌, ◌++◌, codes, pos}
use Rattle.std.specs.Str.Parse.{digits_value}
use Rattle.sc_ast.specs.declared.expr.Expr.{Expr}
use Rattle.sc_ast.specs.declared.expr.Expr.TheVariants as expr
use Rattle.sc_ast.specs.declared.expr.Variable.TheVariants.{Principal, Context}
use Rattle.sc_ast.specs.declared.literal.Literal.TheVariants as literal
use Rattle.sc_ast.specs.declared.operator.BinaryOperator.TheVariants as binary
use Rattle.sc_ast.specs.declared.place.Place.{Place}
use Rattle.sc_ast.specs.declared.policy.ConditionKind.TheVariants.{When}
use Rattle.sc_ast.specs.declared.policy.Effect.TheVariants.{Permit}
use Rattle.sc_ast.specs.declared.policy.Policy.{Policy}
use Rattle.sc_ast.specs.declared.scope.ActionConstraint.TheVariants as action
use Rattle.sc_ast.specs.declared.scope.Constraint.TheVariants as constraint
use Rattle.sc_lexer.specs.declared.token.Kind.{Kind}
use Rattle.sc_lexer.specs.declared.token.Kind.TheVariants as kind
use Rattle.sc_lexemes.specs.declared.lexeme.Lexeme.{Lexeme}
use Rattle.sc_lexemes.specs.Shapes.{shape_of}
use Rattle.sc_generated_laws.specs.Items.{Gap, nothing, space, line, Item}

-- `"g` and digits and `"`
abbrev pub group_text : List ℕ → List ℕ
group_text digits = 34 ∷ 103 ∷ (digits ++ (34 ∷ []))

abbrev pub item : Kind → List ℕ → Gap → Item
item k text g = record { kind = k; text = text; gap = g }

-- permit(principal, action, resource) when { context.n + C > D && principal in Group::"gG" };
abbrev pub items_of : List ℕ → List ℕ → List ℕ → List Item
items_of c d g =
    item kind.Word (codes "permit") nothing ∷ item kind.OpenParenthesis (codes "(") nothing
    ∷ item kind.Word (codes "principal") nothing ∷ item kind.Comma (codes ",") space
    ∷ item kind.Word (codes "action") nothing ∷ item kind.Comma (codes ",") space
    ∷ item kind.Word (codes "resource") nothing ∷ item kind.CloseParenthesis (codes ")") space
    ∷ item kind.Word (codes "when") space ∷ item kind.OpenBrace (codes "{") space
    ∷ item kind.Word (codes "context") nothing ∷ item kind.Dot (codes ".") nothing
    ∷ item kind.Word (codes "n") space ∷ item kind.Plus (codes "+") space
    ∷ item kind.Number c space ∷ item kind.Greater (codes ">") space ∷ item kind.Number d space
    ∷ item kind.And (codes "&&") space ∷ item kind.Word (codes "principal") space
    ∷ item kind.Word (codes "in") space ∷ item kind.Word (codes "Group") nothing
    ∷ item kind.DoubleColon (codes "::") nothing ∷ item kind.Str (group_text g) space
    ∷ item kind.CloseBrace (codes "}") nothing ∷ item kind.Semicolon (codes ";") line ∷ []

-- what these tokens say, each at its place
abbrev pub says : (ℕ → Place) → ℕ → Item → Lexeme
says at n i = record { place = at n; shape = shape_of i.kind i.text }

-- what the policy of such a line asks, where its tokens have these places
abbrev pub body_of : (ℕ → Place) → List ℕ → List ℕ → List ℕ → Expr
body_of at c d id =
    expr.And (at 17)
    (expr.Binary (at 15) binary.Greater
    (expr.Binary (at 13) binary.Add
    (expr.Access (at 11) (expr.Variable (at 10) Context) (codes "n"))
    (expr.Literal (at 14) (literal.Long (pos (digits_value 10 c)))))
    (expr.Literal (at 16) (literal.Long (pos (digits_value 10 d)))))
    (expr.Binary (at 19) binary.In (expr.Variable (at 18) Principal)
    (expr.Literal (at 20) (literal.Entity (record { type_name = codes "Group"; id = id }))))

-- the policy
abbrev pub policy_of : (ℕ → Place) → List ℕ → List ℕ → List ℕ → Policy
policy_of at c d id = record {
  place = at 0;
  effect = Permit;
  principal = record { place = at 2; constraint = constraint.Any };
  action = record { place = at 4; constraint = action.Any };
  resource = record { place = at 6; constraint = constraint.Any };
  conditions = record { place = at 8; kind = When; body = body_of at c d id } ∷ [];
}
