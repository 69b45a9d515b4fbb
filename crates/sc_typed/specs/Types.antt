-- Types: of which kind one is, which type two join to, and which attributes the objects of a type have.
use Rattle.std.specs.Prelude.{ℕ, List, [], ◌∷◌, Bool, true, false, ◌&&◌, if◌then◌else◌, Option, Some, None, option_map, unwrap_or, map, find}
use Rattle.std.specs.Option.{option_and_then}
use Rattle.std.specs.Cmp.Lexicographic.{pointwise}
use Rattle.std.specs.Str.{bytes_eq}
use Rattle.sc_schema.specs.declared.ty.EntityKind.{EntityKind}
use Rattle.sc_schema.specs.declared.ty.Presence.{Presence}
use Rattle.sc_schema.specs.declared.ty.Presence.TheVariants.{Required, Optional}
use Rattle.sc_schema.specs.declared.ty.Ty.{Ty, Ty-F, out-Ty, fold-Ty}
use Rattle.sc_schema.specs.declared.ty.Ty.TheOpen as t
use Rattle.sc_schema.specs.declared.ty.Ty.TheVariants as ty
use Rattle.sc_schema.specs.Declarations.{Declarations, attrs_of}

-- ---- kinds

abbrev pub is_true_in : Ty-F Ty → Bool
is_true_in t.True = true
is_true_in _ = false

abbrev pub is_false_in : Ty-F Ty → Bool
is_false_in t.False = true
is_false_in _ = false

abbrev pub is_either_in : Ty-F Ty → Bool
is_either_in t.Bool = true
is_either_in _ = false

-- one of the three types of truth values
abbrev pub is_boolean_in : Ty-F Ty → Bool
is_boolean_in t.True = true
is_boolean_in t.False = true
is_boolean_in t.Bool = true
is_boolean_in _ = false

abbrev pub is_long_in : Ty-F Ty → Bool
is_long_in t.Long = true
is_long_in _ = false

abbrev pub is_string_in : Ty-F Ty → Bool
is_string_in t.String = true
is_string_in _ = false

abbrev pub is_decimal_in : Ty-F Ty → Bool
is_decimal_in t.Decimal = true
is_decimal_in _ = false

abbrev pub is_ip_in : Ty-F Ty → Bool
is_ip_in t.Ip = true
is_ip_in _ = false

abbrev pub is_record_in : Ty-F Ty → Bool
is_record_in (t.Record fields) = true
is_record_in _ = false

abbrev pub is_true : Ty → Bool
is_true x = is_true_in (out-Ty x)

abbrev pub is_false : Ty → Bool
is_false x = is_false_in (out-Ty x)

-- both truth values
abbrev pub is_either : Ty → Bool
is_either x = is_either_in (out-Ty x)

abbrev pub is_boolean : Ty → Bool
is_boolean x = is_boolean_in (out-Ty x)

abbrev pub is_long : Ty → Bool
is_long x = is_long_in (out-Ty x)

abbrev pub is_string : Ty → Bool
is_string x = is_string_in (out-Ty x)

abbrev pub is_decimal : Ty → Bool
is_decimal x = is_decimal_in (out-Ty x)

abbrev pub is_ip : Ty → Bool
is_ip x = is_ip_in (out-Ty x)

abbrev pub is_record : Ty → Bool
is_record x = is_record_in (out-Ty x)

-- a type of entities
abbrev pub entity_kind_in : Ty-F Ty → Option EntityKind
entity_kind_in (t.Entity kind) = Some kind
entity_kind_in _ = None

abbrev pub entity_kind : Ty → Option EntityKind
entity_kind x = entity_kind_in (out-Ty x)

-- the type's name, of entities
abbrev pub entity_name_in : Ty-F Ty → Option (List ℕ)
entity_name_in (t.Entity kind) = Some kind.name
entity_name_in _ = None

abbrev pub entity_name : Ty → Option (List ℕ)
entity_name x = entity_name_in (out-Ty x)

-- the type of a set's members
abbrev pub member_in : Ty-F Ty → Option Ty
member_in (t.Set member) = Some member
member_in _ = None

abbrev pub member : Ty → Option Ty
member x = member_in (out-Ty x)

-- the type's name, of entities or of the members of a set
abbrev pub group_in : Ty-F Ty → Option (List ℕ)
group_in (t.Entity kind) = Some kind.name
group_in (t.Set m) = entity_name m
group_in _ = None

abbrev pub group : Ty → Option (List ℕ)
group x = group_in (out-Ty x)

abbrev pub Field : Type 0
Field = List ℕ × Presence × Ty

abbrev pub record_fields_in : Ty-F Ty → Option (List Field)
record_fields_in (t.Record fields) = Some fields
record_fields_in _ = None

-- the fields of a record type
abbrev pub record_fields : Ty → Option (List Field)
record_fields x = record_fields_in (out-Ty x)

-- the type of a truth value
abbrev pub truth : Bool → Ty
truth b = if b then ty.True else ty.False

-- ---- join

abbrev pub same_presence : Presence → Presence → Bool
same_presence Required Required = true
same_presence Required Optional = false
same_presence Optional Required = false
same_presence Optional Optional = true

abbrev pub only_if : Bool → Ty → Option Ty
only_if b x = if b then Some x else None

-- two types of entities, of one name and with the same choices
abbrev pub same_kind : EntityKind → EntityKind → Option Ty
same_kind a b = only_if (bytes_eq a.name b.name && pointwise bytes_eq a.choices b.choices) (ty.Entity b)

-- a field whose type joins another one's, before fields that are joined
abbrev pub with_front : List ℕ → Presence → Option Ty → Option (List Field) → Option (List Field)
with_front name presence joined fields =
    option_and_then (λ (u : Ty). option_map (λ (us : List Field). (name, presence, u) ∷ us) fields) joined

-- fields of the same names and presence, joined one by one
abbrev pub join_fields : List (List ℕ × Presence × (Ty → Option Ty)) → List Field → Option (List Field)
join_fields [] [] = Some []
join_fields [] (g ∷ gs) = None
join_fields (f ∷ fs) [] = None
join_fields (f ∷ fs) (g ∷ gs) =
    if bytes_eq f.0 g.0 && same_presence f.1 g.1 then with_front g.0 g.1 (f.2 g.2) (join_fields fs gs) else None

-- a type and another one, the types inside the first being seen as what they join to
abbrev pub join_step : Ty-F (Ty → Option Ty) → Ty → Option Ty
join_step t.True y = if is_true y then Some ty.True else only_if (is_boolean y) ty.Bool
join_step t.False y = if is_false y then Some ty.False else only_if (is_boolean y) ty.Bool
join_step t.Bool y = only_if (is_boolean y) ty.Bool
join_step t.Long y = only_if (is_long y) ty.Long
join_step t.String y = only_if (is_string y) ty.String
join_step t.Decimal y = only_if (is_decimal y) ty.Decimal
join_step t.Ip y = only_if (is_ip y) ty.Ip
join_step (t.Entity a) y = option_and_then (same_kind a) (entity_kind y)
join_step (t.Set a) y = option_and_then (λ b. option_map ty.Set (a b)) (member y)
join_step (t.Record fs) y = option_and_then (λ gs. option_map ty.Record (join_fields fs gs)) (record_fields y)

-- the type that two types join to: equal ones to themselves, two Boolean ones that differ to Bool, sets by their
-- members, and records with the same names and the same required fields by their fields; nothing else joins
unfoldable pub join : Ty → Ty → Option Ty
join = fold-Ty (Ty → Option Ty) join_step

-- fields, their types being seen as what they join to
abbrev pub joining : List Field → List (List ℕ × Presence × (Ty → Option Ty))
joining fields = map (λ (f : Field). (f.0, f.1, join f.2)) fields

-- ---- attributes

abbrev pub attributes_in : Declarations → Ty-F Ty → Option (List Field)
attributes_in s (t.Record fields) = Some fields
attributes_in s (t.Entity kind) = Some (unwrap_or (option_and_then record_fields (attrs_of s kind.name)) [])
attributes_in s _ = None

-- the attributes that records or entities of a type may have; none where the type is of neither. Actions have no
-- attributes.
abbrev pub attributes : Declarations → Ty → Option (List Field)
attributes s x = attributes_in s (out-Ty x)

abbrev pub attribute : List ℕ → List Field → Option Field
attribute name fields = find (λ (f : Field). bytes_eq name f.0) fields

abbrev pub is_required : Field → Bool
is_required f = same_presence f.1 Required
