-- Names that a schema declares, and the first one in policies that it doesn't.
use Rattle.std.specs.Prelude.{ℕ, ◌+◌, List, [], ◌∷◌, Bool, true, ◌&&◌, ◌||◌, nat_eq, nat_le, fold, map, if◌then◌else◌, Option, Some, None, option_map, is_some, codes}
use Rattle.std.specs.List.{ends_with, list_any}
use Rattle.std.specs.Option.{option_or}
use Rattle.std.specs.Str.{bytes_eq}
use Rattle.sc_ast.specs.declared.place.Place.{Place}
use Rattle.sc_ast.specs.declared.expr.Expr.{Expr, Expr-F, fold-Expr}
use Rattle.sc_ast.specs.declared.expr.Expr.TheOpen as e
use Rattle.sc_ast.specs.declared.expr.TypeName.{TypeName}
use Rattle.sc_ast.specs.declared.literal.Literal.{Literal}
use Rattle.sc_ast.specs.declared.literal.Literal.TheVariants as literal
use Rattle.sc_ast.specs.declared.literal.EntityLiteral.{EntityLiteral}
use Rattle.sc_ast.specs.declared.policy.Condition.{Condition}
use Rattle.sc_ast.specs.declared.policy.Policy.{Policy}
use Rattle.sc_ast.specs.declared.scope.Constraint.{Constraint}
use Rattle.sc_ast.specs.declared.scope.Constraint.TheVariants as constraint
use Rattle.sc_ast.specs.declared.scope.ActionConstraint.{ActionConstraint}
use Rattle.sc_ast.specs.declared.scope.ActionConstraint.TheVariants as action_constraint
use Rattle.sc_names.specs.declared.uid.Uid.{Uid}
use Rattle.sc_schema.specs.Declarations.{Declarations, entity_type, action, is_action_type, declared_choices}
use Rattle.sc_typing.specs.declared.name_fault.NameFault.{NameFault}
use Rattle.sc_typing.specs.declared.name_fault.NameKind.{NameKind}
use Rattle.sc_typing.specs.declared.name_fault.NameKind.TheVariants.{UnknownEntityType, UnknownAction, UnknownChoice}

-- ---- what is declared

-- a type of entities, or one of actions, which is declared where it has an action
abbrev pub is_type : Declarations → List ℕ → Bool
is_type s name = is_action_type s name || is_some (entity_type s name)

-- a declared action, or an entity of another declared type, whatever its id
abbrev pub is_known : Declarations → Uid → Bool
is_known s u = if is_action_type s u.type_name then is_some (action s u) else is_some (entity_type s u.type_name)

-- an id is one of the choices, where there are some
abbrev pub has_choice : Option (List (List ℕ)) → List ℕ → Bool
has_choice None id = true
has_choice (Some ids) id = list_any (bytes_eq id) ids

-- a declared action, or an entity of another declared type, with a choice as its id where the type is enumerated
abbrev pub is_declared : Declarations → Uid → Bool
is_declared s u = is_known s u && has_choice (declared_choices s u.type_name) u.id

-- a path whose last part is `Action`
abbrev pub is_action_name : List ℕ → Bool
is_action_name name = bytes_eq name (codes "Action") || ends_with nat_eq name (codes "::Action")

-- what a uid that isn't declared stands for
abbrev pub undeclared_kind : Declarations → Uid → NameKind
undeclared_kind s u = if is_known s u then UnknownChoice
    else (if is_action_name u.type_name then UnknownAction else UnknownEntityType)

-- ---- the name at the least place that isn't declared

-- what it stands for, and its place
abbrev pub Undeclared : Type 0
Undeclared = Option (NameKind × Place)

abbrev pub earlier : NameKind × Place → NameKind × Place → NameKind × Place
earlier a b = if nat_le a.1.offset b.1.offset then a else b

-- the one at the lesser place, and the first of two at one place
abbrev pub first_of : Undeclared → Undeclared → Undeclared
first_of None b = b
first_of (Some a) None = Some a
first_of (Some a) (Some b) = Some (earlier a b)

abbrev pub first_in : List Undeclared → Undeclared
first_in xs = fold first_of None xs

abbrev pub uid_fault : Declarations → Place → Uid → Undeclared
uid_fault s place u = if is_declared s u then None else Some (undeclared_kind s u, place)

abbrev pub type_fault : Declarations → TypeName → Undeclared
type_fault s t = if is_type s t.name then None else Some (UnknownEntityType, t.place)

abbrev pub literal_fault : Declarations → Place → Literal → Undeclared
literal_fault s place (literal.Bool b) = None
literal_fault s place (literal.Long n) = None
literal_fault s place (literal.String text) = None
literal_fault s place (literal.Entity u) = uid_fault s place u

-- one expression, each expression inside it being seen as what it has undeclared
abbrev pub expr_fault_step : Declarations → Expr-F Undeclared → Undeclared
expr_fault_step s (e.If place c a b) = first_of c (first_of a b)
expr_fault_step s (e.Or place a b) = first_of a b
expr_fault_step s (e.And place a b) = first_of a b
expr_fault_step s (e.Binary place operator a b) = first_of a b
expr_fault_step s (e.Has place a names) = a
expr_fault_step s (e.Like place a pattern) = a
expr_fault_step s (e.Is place a t) = first_of a (type_fault s t)
expr_fault_step s (e.IsIn place a t in_place b) = first_of a (first_of (type_fault s t) b)
expr_fault_step s (e.Unary place operator a) = a
expr_fault_step s (e.Access place a name) = a
expr_fault_step s (e.Literal place l) = literal_fault s place l
expr_fault_step s (e.Variable place x) = None
expr_fault_step s (e.Set place members) = first_in members
expr_fault_step s (e.Record place fields) = first_in (map (λ (f : List ℕ × Undeclared). f.1) fields)

unfoldable pub expr_fault : Declarations → Expr → Undeclared
expr_fault s = fold-Expr Undeclared (expr_fault_step s)

abbrev pub entity_fault : Declarations → EntityLiteral → Undeclared
entity_fault s l = uid_fault s l.place l.uid

abbrev pub constraint_fault : Declarations → Constraint → Undeclared
constraint_fault s constraint.Any = None
constraint_fault s (constraint.Equal place l) = entity_fault s l
constraint_fault s (constraint.In place l) = entity_fault s l
constraint_fault s (constraint.Is place t) = type_fault s t
constraint_fault s (constraint.IsIn place t in_place l) = first_of (type_fault s t) (entity_fault s l)

abbrev pub action_fault : Declarations → ActionConstraint → Undeclared
action_fault s action_constraint.Any = None
action_fault s (action_constraint.Equal place l) = entity_fault s l
action_fault s (action_constraint.In place l) = entity_fault s l
action_fault s (action_constraint.InAny place bracket ls) = first_in (map (entity_fault s) ls)

abbrev pub clauses_fault : Declarations → List Condition → Undeclared
clauses_fault s cs = first_in (map (λ (c : Condition). expr_fault s c.body) cs)

-- in the scope or in a clause
abbrev pub policy_fault : Declarations → Policy → Undeclared
policy_fault s p =
    first_of (constraint_fault s p.principal.constraint)
    (first_of (action_fault s p.action.constraint)
    (first_of (constraint_fault s p.resource.constraint) (clauses_fault s p.conditions)))

-- ---- the first policy that has one

abbrev pub fault_in : ℕ → Undeclared → Option NameFault
fault_in i u = option_map (λ (f : NameKind × Place). record { kind = f.0; policy = i; place = f.1 }) u

-- of policies that are counted from i on
abbrev pub fault_from : Declarations → ℕ → List Policy → Option NameFault
fault_from s i [] = None
fault_from s i (p ∷ ps) = option_or (fault_in i (policy_fault s p)) (fault_from s (i + 1) ps)

abbrev pub name_fault : Declarations → List Policy → Option NameFault
name_fault s ps = fault_from s 0 ps
