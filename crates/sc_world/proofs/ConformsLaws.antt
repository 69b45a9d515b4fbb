-- Which values are of a type, kind by kind.
use Rattle.std.proofs.Common.{◌≡◌, ◌&&◌, ◌||◌, ℕ, List, [], ◌∷◌, Bool, true, false, refl, ap, sym, ◌∙◌}
use Rattle.std.specs.List.{list_all, list_any}
use Rattle.std.specs.Str.{bytes_eq}
use Rattle.sc_schema.specs.declared.ty.Presence.{Presence}
use Rattle.sc_schema.specs.declared.ty.Ty.{Ty, Ty-F, out-Ty, roll-Ty, map-Ty, fold-roll-Ty, fold_out-Ty, roll-out-Ty}
use Rattle.sc_schema.specs.declared.ty.Ty.TheVariants as ty
use Rattle.sc_schema.specs.declared.ty.Ty.TheVariants.{rolls-Bool, rolls-Record}
use Rattle.sc_schema.specs.declared.ty.Ty.TheOpen as t
use Rattle.sc_values.specs.declared.value.Value.TheVariants as value
use Rattle.sc_values.specs.Records.{Fields, field}
use Rattle.sc_values.specs.declared.value.Value.{Value, Value-F}
use Rattle.sc_values.specs.declared.value.Value.TheOpen as v
use Rattle.sc_values.proofs.OutLaws.{out_Bool, out_Record}
use Rattle.sc_world.specs.Conforms.{Test, conforms, conforms_step, passes, has_shape, is_truth, is_bool, is_long, is_string, is_decimal, is_ip, is_entity_of, is_set_of, is_record_of}
pub use Rattle.sc_world.specs.Conforms.{shape_of}

-- a truth value is a truth value, whichever it has to be
pub truth_is_bool : (b : Bool) (x : Value-F Value) → is_truth b x ≡ true → is_bool x ≡ true
truth_is_bool true (v.Bool c) h = refl
truth_is_bool false (v.Bool c) h = refl
truth_is_bool true _ h = absurd cc
truth_is_bool false _ h = absurd cc

pub conforms_Record : (attributes : List (List ℕ × Presence × Ty)) (fields : Fields) → conforms (ty.Record attributes) (value.Record fields) ≡ has_shape (shape_of attributes) fields
unfolding conforms
conforms_Record attributes fields =
    ap (λ x. conforms x (value.Record fields)) (sym (rolls-Record attributes))
    ∙ ap (λ f. f (value.Record fields)) (fold-roll-Ty Test conforms_step (t.Record attributes))
    ∙ ap (is_record_of (shape_of attributes)) (out_Record fields)

pub conforms_Bool : (b : Bool) → conforms ty.Bool (value.Bool b) ≡ true
unfolding conforms
conforms_Bool b =
    ap (λ x. conforms x (value.Bool b)) (sym rolls-Bool)
    ∙ ap (λ f. f (value.Bool b)) (fold-roll-Ty Test conforms_step t.Bool)
    ∙ ap is_bool (out_Bool b)

-- ---- a record's fields against the attributes of a type

both : {a b c d : Bool} → a ≡ c → b ≡ d → (a && b) ≡ (c && d)
both p q = λ i. p i && q i

abbrev Attribute : Type 0
Attribute = List ℕ × Presence × Ty

each_passes : (attributes : List Attribute) (fields : Fields)
    → list_all (λ (a : List ℕ × Presence × Test). passes a.1 a.2 (field a.0 fields)) (shape_of attributes) ≡ list_all (λ (a : Attribute). passes a.1 (conforms a.2) (field a.0 fields)) attributes
each_passes [] fields = refl
each_passes (a ∷ attributes) fields = ap (λ (b : Bool). passes a.1 (conforms a.2) (field a.0 fields) && b) (each_passes attributes fields)

named : (attributes : List Attribute) (name : List ℕ) → list_any (λ (a : List ℕ × Presence × Test). bytes_eq name a.0) (shape_of attributes) ≡ list_any (λ (a : Attribute). bytes_eq name a.0) attributes
named [] name = refl
named (a ∷ attributes) name = ap (λ (b : Bool). bytes_eq name a.0 || b) (named attributes name)

each_named : (attributes : List Attribute) (fields : Fields)
    → list_all (λ (f : List ℕ × Value). list_any (λ (a : List ℕ × Presence × Test). bytes_eq f.0 a.0) (shape_of attributes)) fields ≡ list_all (λ (f : List ℕ × Value). list_any (λ (a : Attribute). bytes_eq f.0 a.0) attributes) fields
each_named attributes [] = refl
each_named attributes (f ∷ fields) = both (named attributes f.0) (each_named attributes fields)

-- the two tests together, the second asked where the first holds
pub has_shape_tested : (attributes : List Attribute) (fields : Fields) (a b : Bool)
    → a ≡ list_all (λ (x : Attribute). passes x.1 (conforms x.2) (field x.0 fields)) attributes
    → b ≡ list_all (λ (f : List ℕ × Value). list_any (λ (x : Attribute). bytes_eq f.0 x.0) attributes) fields
    → (a && b) ≡ has_shape (shape_of attributes) fields
has_shape_tested attributes fields a b first second =
    both (first ∙ sym (each_passes attributes fields)) (second ∙ sym (each_named attributes fields))

-- ---- records against types

unfoldable pub IsNoRecord : Ty-F Ty → Type 0
IsNoRecord y = (attributes : List Attribute) → y ≡ t.Record attributes → ⊥

-- no type but a record type has records
step_no_record : (y : Ty-F Ty) (fields : Fields) → IsNoRecord y → conforms_step (map-Ty Ty Test conforms y) (value.Record fields) ≡ false
unfolding IsNoRecord
step_no_record t.True fields other = ap (is_truth true) (out_Record fields)
step_no_record t.False fields other = ap (is_truth false) (out_Record fields)
step_no_record t.Bool fields other = ap is_bool (out_Record fields)
step_no_record t.Long fields other = ap is_long (out_Record fields)
step_no_record t.String fields other = ap is_string (out_Record fields)
step_no_record t.Decimal fields other = ap is_decimal (out_Record fields)
step_no_record t.Ip fields other = ap is_ip (out_Record fields)
step_no_record (t.Entity kind) fields other = ap (is_entity_of kind) (out_Record fields)
step_no_record (t.Set member) fields other = ap (is_set_of (conforms member)) (out_Record fields)
step_no_record (t.Record attributes) fields other = absurd (other attributes refl)

pub conforms_no_record : (type : Ty) (fields : Fields) → ((attributes : List Attribute) → type ≡ ty.Record attributes → ⊥) → conforms type (value.Record fields) ≡ false
unfolding conforms IsNoRecord
conforms_no_record type fields other =
    ap (λ f. f (value.Record fields)) (fold_out-Ty Test conforms_step type)
    ∙ step_no_record (out-Ty type) fields (λ attributes is. other attributes (sym (roll-out-Ty type) ∙ ap roll-Ty is ∙ rolls-Record attributes))
