-- The defaults of record types, and of types of entities.
use Rattle.std.proofs.Common.{◌≡◌, ◌||◌, ℕ, List, [], ◌∷◌, map, find, cond, Bool, true, false, Option, Some, None, refl, ap, sym, ◌∙◌}
use Rattle.std.specs.List.{flat_map, list_any}
use Rattle.std.specs.Str.{bytes_eq}
use Rattle.std.proofs.lemmas.List.Folds.{flat_map-map}
use Rattle.sc_world.proofs.ConformsLaws.{IsNoRecord}
use Rattle.sc_names.specs.declared.uid.Uid.{Uid}
use Rattle.sc_schema.specs.declared.declarations.Action.{Action}
use Rattle.sc_schema.specs.declared.ty.Presence.{Presence}
use Rattle.sc_schema.specs.declared.ty.Ty.{Ty, Ty-F, out-Ty, roll-Ty, map-Ty, fold-roll-Ty, fold_out-Ty, roll-out-Ty}
use Rattle.sc_schema.specs.declared.ty.Ty.TheVariants as ty
use Rattle.sc_schema.specs.declared.ty.Ty.TheVariants.{rolls-Record}
use Rattle.sc_schema.specs.declared.ty.Ty.TheOpen as t
use Rattle.sc_schema.specs.Declarations.{Declarations, is_action_type, action_uids}
use Rattle.sc_values.specs.declared.value.Value.{Value, out-Value}
use Rattle.sc_values.specs.declared.value.Value.TheVariants as value
use Rattle.sc_values.specs.Records.{Fields}
use Rattle.sc_values.proofs.OutLaws.{out_Bool, out_Long, out_String, out_Entity, out_Set, out_Record, out_Decimal, out_Ip}
use Rattle.sc_world.specs.Defaults.{default_step, default_value, default_field, fields_in}

abbrev pub Attribute : Type 0
Attribute = List ℕ × Presence × Ty

-- the fields of the default of a record type
abbrev pub required_fields : Declarations → List Attribute → Fields
required_fields s attributes = flat_map (λ (a : Attribute). default_field a.1 a.0 (default_value s a.2)) attributes

pub default_Record : (s : Declarations) (attributes : List Attribute) → default_value s (ty.Record attributes) ≡ value.Record (required_fields s attributes)
unfolding default_value
default_Record s attributes =
    ap (default_value s) (sym (rolls-Record attributes))
    ∙ fold-roll-Ty Value (default_step s) (t.Record attributes)
    ∙ ap value.Record (flat_map-map (λ (f : List ℕ × Presence × Value). default_field f.1 f.0 f.2) (λ (a : Attribute). (a.0, a.1, default_value s a.2)) attributes)

pub fields_Record : (s : Declarations) (type : Ty) (attributes : List Attribute) → type ≡ ty.Record attributes → fields_in (out-Value (default_value s type)) ≡ required_fields s attributes
fields_Record s type attributes is =
    ap (λ x. fields_in (out-Value (default_value s x))) is ∙ ap (λ x. fields_in (out-Value x)) (default_Record s attributes) ∙ ap fields_in (out_Record (required_fields s attributes))

-- ---- other types have no fields

step_no_fields : (s : Declarations) (y : Ty-F Ty) → IsNoRecord y → fields_in (out-Value (default_step s (map-Ty Ty Value (default_value s) y))) ≡ []
unfolding IsNoRecord
step_no_fields s t.True other = ap fields_in (out_Bool _)
step_no_fields s t.False other = ap fields_in (out_Bool _)
step_no_fields s t.Bool other = ap fields_in (out_Bool _)
step_no_fields s t.Long other = ap fields_in (out_Long _)
step_no_fields s t.String other = ap fields_in (out_String _)
step_no_fields s t.Decimal other = ap fields_in (out_Decimal _)
step_no_fields s t.Ip other = ap fields_in (out_Ip _)
step_no_fields s (t.Entity kind) other = ap fields_in (out_Entity _)
step_no_fields s (t.Set member) other = ap fields_in (out_Set _)
step_no_fields s (t.Record attributes) other = absurd (other attributes refl)

pub no_fields : (s : Declarations) (type : Ty) → ((attributes : List Attribute) → type ≡ ty.Record attributes → ⊥) → [] ≡ fields_in (out-Value (default_value s type))
unfolding default_value IsNoRecord
no_fields s type other =
    sym (ap (λ x. fields_in (out-Value x)) (fold_out-Ty Value (default_step s) type)
    ∙ step_no_fields s (out-Ty type) (λ attributes is. other attributes (sym (roll-out-Ty type) ∙ ap roll-Ty is ∙ rolls-Record attributes)))

-- ---- the least action of a type

passes_over : (b later : Bool) (u : Uid) (o : Option Uid) → (b || later) ≡ false → (later ≡ false → None ≡ o) → None ≡ cond b (Some u) o
passes_over true later u o h rest = absurd cc
passes_over false later u o h rest = rest h

none_among : (name : List ℕ) (actions : List Action) → list_any (λ (a : Action). bytes_eq name a.uid.type_name) actions ≡ false → None ≡ find (λ (u : Uid). bytes_eq name u.type_name) (map (λ (a : Action). a.uid) actions)
none_among name [] h = refl
none_among name (a ∷ actions) h = passes_over (bytes_eq name a.uid.type_name) _ a.uid _ h (none_among name actions)

pub no_action : (s : Declarations) (name : List ℕ) (b : Bool) → b ≡ is_action_type s name → b ≡ false → None ≡ find (λ (u : Uid). bytes_eq name u.type_name) (action_uids s)
no_action s name b is none = none_among name s.actions (sym is ∙ none)
