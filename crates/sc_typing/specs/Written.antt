-- The names that policies write, of types of entities and of entities, and which of them a schema declares.
use Rattle.std.specs.Prelude.{◌≡◌, ◌≤◌, ℕ, List, [], ◌∷◌, ◌++◌, map, take, Bool, false, IsTrue, Some, Contains}
use Rattle.std.specs.List.{AllByRecursion, flat_map, slice_get}
use Rattle.sc_ast.specs.declared.place.Place.{Place}
use Rattle.sc_ast.specs.declared.expr.Expr.{Expr, Expr-F, fold-Expr}
use Rattle.sc_ast.specs.declared.expr.Expr.TheOpen as e
use Rattle.sc_ast.specs.declared.expr.TypeName.{TypeName}
use Rattle.sc_ast.specs.declared.literal.Literal.{Literal}
use Rattle.sc_ast.specs.declared.literal.Literal.TheVariants as literal
use Rattle.sc_ast.specs.declared.literal.EntityLiteral.{EntityLiteral}
use Rattle.sc_ast.specs.declared.policy.Condition.{Condition}
use Rattle.sc_ast.specs.declared.policy.Policy.{Policy}
use Rattle.sc_ast.specs.declared.scope.Constraint.{Constraint}
use Rattle.sc_ast.specs.declared.scope.Constraint.TheVariants as constraint
use Rattle.sc_ast.specs.declared.scope.ActionConstraint.{ActionConstraint}
use Rattle.sc_ast.specs.declared.scope.ActionConstraint.TheVariants as action_constraint
use Rattle.sc_schema.specs.Declarations.{Declarations}
use Rattle.sc_typing.specs.declared.name_fault.NameFault.{NameFault}
use Rattle.sc_typing.specs.declared.name_fault.NameKind.{NameKind}
use Rattle.sc_typing.specs.declared.name_fault.NameKind.TheVariants.{UnknownEntityType}
use Rattle.sc_typing.specs.Names.{is_type, is_declared, undeclared_kind}

-- a name that a policy writes: that of a type, or a uid
pub data Written : Type 0 where
  of_type : TypeName → Written
  of_entity : EntityLiteral → Written

abbrev pub place_of : Written → Place
place_of (of_type t) = t.place
place_of (of_entity l) = l.place

abbrev pub declares : Declarations → Written → Bool
declares s (of_type t) = is_type s t.name
declares s (of_entity l) = is_declared s l.uid

-- what it stands for, where it isn't declared
abbrev pub stands_for : Declarations → Written → NameKind
stands_for s (of_type t) = UnknownEntityType
stands_for s (of_entity l) = undeclared_kind s l.uid

-- ---- the names that are written, also in what is never evaluated

abbrev pub literal_names : Place → Literal → List Written
literal_names place (literal.Bool b) = []
literal_names place (literal.Long n) = []
literal_names place (literal.String text) = []
literal_names place (literal.Entity u) = of_entity (record { place = place; uid = u }) ∷ []

-- those of an expression, each expression inside it being seen as its names
abbrev pub names_step : Expr-F (List Written) → List Written
names_step (e.If place c a b) = c ++ (a ++ b)
names_step (e.Or place a b) = a ++ b
names_step (e.And place a b) = a ++ b
names_step (e.Binary place operator a b) = a ++ b
names_step (e.Has place a names) = a
names_step (e.Like place a pattern) = a
names_step (e.Is place a t) = a ++ of_type t ∷ []
names_step (e.IsIn place a t in_place b) = a ++ (of_type t ∷ [] ++ b)
names_step (e.Unary place operator a) = a
names_step (e.Access place a name) = a
names_step (e.Literal place l) = literal_names place l
names_step (e.Variable place x) = []
names_step (e.Set place members) = flat_map (λ (m : List Written). m) members
names_step (e.Record place fields) = flat_map (λ (f : List ℕ × List Written). f.1) fields

unfoldable pub expr_names : Expr → List Written
expr_names = fold-Expr (List Written) names_step

abbrev pub constraint_names : Constraint → List Written
constraint_names constraint.Any = []
constraint_names (constraint.Equal place l) = of_entity l ∷ []
constraint_names (constraint.In place l) = of_entity l ∷ []
constraint_names (constraint.Is place t) = of_type t ∷ []
constraint_names (constraint.IsIn place t in_place l) = of_type t ∷ of_entity l ∷ []

abbrev pub action_names : ActionConstraint → List Written
action_names action_constraint.Any = []
action_names (action_constraint.Equal place l) = of_entity l ∷ []
action_names (action_constraint.In place l) = of_entity l ∷ []
action_names (action_constraint.InAny place bracket ls) = map of_entity ls

abbrev pub names_of : Policy → List Written
names_of p =
    constraint_names p.principal.constraint
    ++ (action_names p.action.constraint
    ++ (constraint_names p.resource.constraint
    ++ flat_map (λ (c : Condition). expr_names c.body) p.conditions))

-- ---- what is declared

-- each of these names is declared
abbrev pub AllDeclared : Declarations → List Written → Type 0
AllDeclared s names = AllByRecursion (λ w. IsTrue (declares s w)) names

-- each name that a policy writes is declared
abbrev pub AreDeclared : Declarations → List Policy → Type 0
AreDeclared s ps = AllByRecursion (λ p. AllDeclared s (names_of p)) ps

-- one of these names isn't declared and is of this kind and at this place, and no other such name stands before it
pub record IsFirst (s : Declarations) (names : List Written) (kind : NameKind) (place : Place) : Type 0 where
  pub name : Written
  pub among : Contains names name
  pub undeclared : declares s name ≡ false
  pub of_kind : kind ≡ stands_for s name
  pub at_place : place ≡ place_of name
  pub least : AllByRecursion (λ w. declares s w ≡ false → place.offset ≤ (place_of w).offset) names

-- the policies before this one write declared names alone, and this is the first of its names that isn't declared
pub record IsToldFirst (s : Declarations) (ps : List Policy) (fault : NameFault) : Type 0 where
  pub policy : Policy
  pub is_policy : slice_get ps fault.policy ≡ Some policy
  pub first : IsFirst s (names_of policy) fault.kind fault.place
  pub earlier : AreDeclared s (take fault.policy ps)
