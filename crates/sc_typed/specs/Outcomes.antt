-- What typing gives, and operands that have to be of one kind.
use Rattle.std.specs.Prelude.{ℕ, List, Bool, if◌then◌else◌, Option, Some, None, Result, Ok, Err, unwrap_or}
use Rattle.sc_ast.specs.declared.place.Place.{Place}
use Rattle.sc_schema.specs.declared.ty.Ty.{Ty}
use Rattle.sc_schema.specs.declared.ty.Ty.TheVariants as types
use Rattle.sc_schema.specs.Declarations.{Declarations}
use Rattle.sc_typed.specs.declared.fault.TypeFault.{TypeFault}
use Rattle.sc_typed.specs.declared.fault.TypeRule.{TypeRule}
use Rattle.sc_typed.specs.declared.fault.TypeRule.TheVariants.{NotBoolean, NoJoin, NotLong, NotEntity, NotEntityOrSet, NotObject, NotString, NotSet, NotDecimal, NotIp}
use Rattle.sc_typed.specs.declared.outcome.Typed.{Typed}
use Rattle.sc_typed.specs.declared.typed_expr.TypedExpr.{TypedExpr}
use Rattle.sc_typed.specs.TypedExprs.{type_of, place_of}
use Rattle.sc_typed.specs.Types.{Field, is_boolean, is_long, is_string, is_decimal, is_ip, entity_name, member, group, join, attributes}
use Rattle.sc_typed.specs.Capabilities.{Capabilities}

-- an expression with its types and the capabilities that it gives, or why there is none
abbrev pub Outcome : Type 0
Outcome = Result Typed TypeFault

-- the first fault stands
infixl 10 ◌>>=◌
abbrev pub ◌>>=◌ : {A B : Type 0} → Result A TypeFault → (A → Result B TypeFault) → Result B TypeFault
(Ok x) >>= f = f x
(Err e) >>= f = Err e

abbrev pub made : TypedExpr → Capabilities → Typed
made e given = record { expr = e; given = given }

abbrev pub gives : TypedExpr → Capabilities → Outcome
gives e given = Ok (made e given)

abbrev pub fails : {A : Type 0} → TypeRule → Place → Result A TypeFault
fails rule place = Err (record { rule = rule; at = place })

abbrev pub or_fails : {A : Type 0} → TypeRule → Place → Option A → Result A TypeFault
or_fails rule place None = fails rule place
or_fails rule place (Some x) = Ok x

-- the type of an expression; one that is skipped counts as Boolean, and no rule asks for its type
abbrev pub ty : TypedExpr → Ty
ty x = unwrap_or (type_of x) types.Bool

-- ---- an operand that has to be of one kind; else the fault stands at it

abbrev pub Check : Type 0
Check = Result (Unit {0}) TypeFault

abbrev pub check : Bool → TypeRule → Place → Check
check passes rule place = if passes then Ok tt else fails rule place

abbrev pub as_boolean : TypedExpr → Check
as_boolean x = check (is_boolean (ty x)) NotBoolean (place_of x)

abbrev pub as_long : TypedExpr → Check
as_long x = check (is_long (ty x)) NotLong (place_of x)

abbrev pub as_string : TypedExpr → Check
as_string x = check (is_string (ty x)) NotString (place_of x)

abbrev pub as_decimal : TypedExpr → Check
as_decimal x = check (is_decimal (ty x)) NotDecimal (place_of x)

abbrev pub as_ip : TypedExpr → Check
as_ip x = check (is_ip (ty x)) NotIp (place_of x)

-- the name of an entity's type
abbrev pub as_entity : TypedExpr → Result (List ℕ) TypeFault
as_entity x = or_fails NotEntity (place_of x) (entity_name (ty x))

-- the name of the type of an entity, or of a set's entities
abbrev pub as_group : TypedExpr → Result (List ℕ) TypeFault
as_group x = or_fails NotEntityOrSet (place_of x) (group (ty x))

-- the type of a set's members
abbrev pub as_set : TypedExpr → Result Ty TypeFault
as_set x = or_fails NotSet (place_of x) (member (ty x))

-- the attributes that a record or an entity of a type may have
abbrev pub as_object : Declarations → Place → Ty → Result (List Field) TypeFault
as_object s place type = or_fails NotObject place (attributes s type)

-- ---- two types at one place

abbrev pub joined : Place → Ty → Ty → Result Ty TypeFault
joined place s t = or_fails NoJoin place (join s t)
