-- The uids that policies write.
use Rattle.std.specs.Prelude.{ℕ, List, [], ◌∷◌, ◌++◌, map}
use Rattle.std.specs.List.{flat_map}
use Rattle.sc_names.specs.declared.uid.Uid.{Uid}
use Rattle.sc_ast.specs.declared.literal.Literal.{Literal}
use Rattle.sc_ast.specs.declared.literal.Literal.TheVariants as literal
use Rattle.sc_ast.specs.declared.literal.EntityLiteral.{EntityLiteral}
use Rattle.sc_ast.specs.declared.expr.Expr.{Expr, Expr-F, fold-Expr}
use Rattle.sc_ast.specs.declared.expr.Expr.TheOpen as e
use Rattle.sc_ast.specs.declared.policy.Condition.{Condition}
use Rattle.sc_ast.specs.declared.policy.Policy.{Policy}
use Rattle.sc_ast.specs.declared.scope.Constraint.{Constraint}
use Rattle.sc_ast.specs.declared.scope.Constraint.TheVariants as constraint
use Rattle.sc_ast.specs.declared.scope.ActionConstraint.{ActionConstraint}
use Rattle.sc_ast.specs.declared.scope.ActionConstraint.TheVariants as action

abbrev pub literal_uids : Literal → List Uid
literal_uids (literal.Bool b) = []
literal_uids (literal.Long n) = []
literal_uids (literal.String text) = []
literal_uids (literal.Entity u) = u ∷ []

-- those of an expression, each expression inside it being seen as its uids
abbrev pub uids_step : Expr-F (List Uid) → List Uid
uids_step (e.If place c a b) = c ++ (a ++ b)
uids_step (e.Or place a b) = a ++ b
uids_step (e.And place a b) = a ++ b
uids_step (e.Binary place operator a b) = a ++ b
uids_step (e.Has place a names) = a
uids_step (e.Like place a pattern) = a
uids_step (e.Is place a type_name) = a
uids_step (e.IsIn place a type_name in_place b) = a ++ b
uids_step (e.Unary place operator a) = a
uids_step (e.Access place a name) = a
uids_step (e.Literal place l) = literal_uids l
uids_step (e.Variable place x) = []
uids_step (e.Set place xs) = flat_map (λ (x : List Uid). x) xs
uids_step (e.Record place fields) = flat_map (λ (f : List ℕ × List Uid). f.1) fields

unfoldable pub expr_uids : Expr → List Uid
expr_uids = fold-Expr (List Uid) uids_step

abbrev pub constraint_uids : Constraint → List Uid
constraint_uids constraint.Any = []
constraint_uids (constraint.Equal place l) = l.uid ∷ []
constraint_uids (constraint.In place l) = l.uid ∷ []
constraint_uids (constraint.Is place t) = []
constraint_uids (constraint.IsIn place t in_place l) = l.uid ∷ []

abbrev pub action_uids : ActionConstraint → List Uid
action_uids action.Any = []
action_uids (action.Equal place l) = l.uid ∷ []
action_uids (action.In place l) = l.uid ∷ []
action_uids (action.InAny place bracket ls) = map (λ (l : EntityLiteral). l.uid) ls

-- in the order in which they are written
abbrev pub policy_uids : Policy → List Uid
policy_uids p =
    constraint_uids p.principal.constraint
    ++ (action_uids p.action.constraint
    ++ (constraint_uids p.resource.constraint
    ++ flat_map (λ (c : Condition). expr_uids c.body) p.conditions))

-- all uids that a policy set writes
abbrev pub literals : List Policy → List Uid
literals ps = flat_map policy_uids ps
