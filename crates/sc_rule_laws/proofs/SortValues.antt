-- What a value is that fits a sort: an option, a set, a string, an entity or a record.
use Rattle.std.proofs.Common.{◌≡◌, ℕ, Bool, true, false, List, Option, refl, sym, ap, ◌∙◌, subst}
use Rattle.std.specs.List.Sorted.{IsStrictlySortedBy}
use Rattle.std.specs.Map.{keys_of}
use Rattle.std.specs.Str.{bytes_eq, IsUtf8}
use Rattle.sc_laws.proofs.BoolLaws.{and_first, and_second, never}
use Rattle.sc_lists.proofs.TextLaws.{bytes_eq_true}
use Rattle.sc_names.specs.declared.uid.Uid.{Uid}
use Rattle.sc_names.specs.Uids.{text_cmp}
use Rattle.sc_schema.specs.declared.ty.EntityKind.{EntityKind}
use Rattle.sc_schema.specs.Declarations.{Declarations}
use Rattle.sc_values.specs.declared.value.Value.{Value, Value-F, out-Value, roll-Value, roll-out-Value}
use Rattle.sc_values.specs.declared.value.Value.TheVariants as value
use Rattle.sc_values.specs.declared.value.Value.TheVariants.{rolls-String, rolls-Entity, rolls-Set as value_rolls-Set, rolls-Record as value_rolls-Record}
use Rattle.sc_values.specs.declared.value.Value.TheOpen as v
use Rattle.sc_values.specs.Order.{value_cmp}
use Rattle.sc_values.specs.Proper.{IsProper, IsProperLevel}
use Rattle.sc_values.specs.Records.{Fields}
use Rattle.sc_values.proofs.LevelLaws.{in_String, in_Set, in_Record}
use Rattle.sc_world.specs.Choices.{is_choice}
use Rattle.sc_world.specs.Conforms.{is_string, is_entity_of, is_set_of}
use Rattle.sc_world.specs.Stores.{Entities}
use Rattle.sc_sorts.specs.declared.sort.Sort.{Sort}
use Rattle.sc_sorts.specs.declared.sort.Sort.TheVariants as sort
use Rattle.sc_sorts.specs.declared.sort.Sort.TheVariants.{rolls-Set, rolls-Record}
use Rattle.sc_sorts.specs.declared.sort.Sort.TheVariants.{rolls-String as sort_rolls-String, rolls-Entity as sort_rolls-Entity}
use Rattle.sc_sorts.specs.declared.sort.Sort.TheOpen as s
use Rattle.sc_sorts.specs.Defaults.{is_option}
use Rattle.sc_sorts.specs.Inside.{SortFields}
use Rattle.sc_sorts.proofs.OutLaws.{out_String, out_Entity, out_Set, out_Record}
use Rattle.sc_terms.specs.Values.{Val, it, maybe, is_maybe}
use Rattle.sc_term_laws.specs.Fitting.{Seen, kind_listed, fits, is_record_of, IsOfSort, Fits, as_value, as_option}
use Rattle.sc_term_laws.proofs.ChoicesLaws.{ids_in}
use Rattle.sc_term_laws.proofs.FitLaws as fit
use Rattle.sc_term_laws.proofs.FitLaws.{sights_of}
use Rattle.sc_term_laws.proofs.FitVals.{fits_at, no_option_at}

-- a value by its kind
set_by : (p : Value → Bool) (x : Value) (y : Value-F Value) → out-Value x ≡ y → is_set_of p y ≡ true → (us : List Value) × (x ≡ value.Set us)
set_by p x (v.Set us) e h = (us, sym (roll-out-Value x) ∙ ap roll-Value e ∙ value_rolls-Set us)
set_by p x _ e h = absurd cc

string_by : (x : Value) (y : Value-F Value) → out-Value x ≡ y → is_string y ≡ true → (text : List ℕ) × (x ≡ value.String text)
string_by x (v.String text) e h = (text, sym (roll-out-Value x) ∙ ap roll-Value e ∙ rolls-String text)
string_by x _ e h = absurd cc

entity_by : (kind : EntityKind) (x : Value) (y : Value-F Value) → out-Value x ≡ y → is_entity_of kind y ≡ true → (u : Uid) × (x ≡ value.Entity u) × (u.type_name ≡ kind.name) × (is_choice kind.choices u.id ≡ true)
entity_by kind x (v.Entity u) e h = (
  u,
  sym (roll-out-Value x) ∙ ap roll-Value e ∙ rolls-Entity u,
  bytes_eq_true u.type_name kind.name (and_first (bytes_eq u.type_name kind.name) (is_choice kind.choices u.id) h),
  and_second (bytes_eq u.type_name kind.name) (is_choice kind.choices u.id) h,
)
entity_by kind x _ e h = absurd cc

record_by : (shape : List (List ℕ × Seen)) (x : Value) (y : Value-F Value) → out-Value x ≡ y → is_record_of shape y ≡ true → (r : Fields) × (x ≡ value.Record r)
record_by shape x (v.Record r) e h = (r, sym (roll-out-Value x) ∙ ap roll-Value e ∙ value_rolls-Record r)
record_by shape x _ e h = absurd cc

-- a set, whose members ascend
pub record IsASet (x : Val) : Type 0 where
  pub members_are : List Value
  pub is : x ≡ it (value.Set members_are)
  pub ascending : IsStrictlySortedBy value_cmp members_are

-- a string, by its bytes
pub record IsAString (x : Val) : Type 0 where
  pub bytes : List ℕ
  pub is : x ≡ it (value.String bytes)
  pub text : IsUtf8 bytes

module _ (d : Declarations) (es : Entities) where
  -- an entity of a type, which is one of those that its sort lists if it lists any
  pub record IsAnEntity (name : List ℕ) (us : List Uid) (x : Val) : Type 0 where
    pub uid : Uid
    pub is : x ≡ it (value.Entity uid)
    pub named : uid.type_name ≡ name
    pub chosen : is_choice (ids_in us) uid.id ≡ true

  -- a record with these fields, whose names ascend
  pub record IsARecord (fs : SortFields) (x : Val) : Type 0 where
    pub fields_are : Fields
    pub is : x ≡ it (value.Record fields_are)
    pub ascending : IsStrictlySortedBy text_cmp (keys_of fields_are)
    pub of_sort : fits (sort.Record fs) (value.Record fields_are) ≡ true

  pub maybe_is : (k : Sort) (x : Val) → Fits d es k x → is_maybe x ≡ is_option k
  maybe_is k _ (as_value x none h) = sym none
  maybe_is k _ (as_option o some h) = sym some

  pub option_value : (k : Sort) (x : Val) → Fits d es k x → is_option k ≡ true → (o : Option Value) × (x ≡ maybe o)
  option_value k _ (as_value x none h) e = never _ (sym e ∙ none)
  option_value k _ (as_option o some h) e = (o, refl)

  plain_value : (k : Sort) (x : Val) → Fits d es k x → is_option k ≡ false → (y : Value) × (x ≡ it y) × IsOfSort d es k y
  plain_value k _ (as_value x none h) e = (x, refl, h)
  plain_value k _ (as_option o some h) e = never _ (sym some ∙ e)

  pub set_value : (k : Sort) (x : Val) → Fits d es (sort.Set k) x → IsASet x
  set_value k x h =
      let plain = plain_value (sort.Set k) x h (no_option_at (sort.Set k) (s.Set k) (out_Set k) refl) in
      let test : is_set_of (fit.seen k).1 (out-Value plain.0) ≡ true = ap (λ (z : Value → Bool). z plain.0) (sym (fits_at (sort.Set k) (s.Set k) (rolls-Set k))) ∙ plain.2.of_sort in
      let set = set_by (fit.seen k).1 plain.0 (out-Value plain.0) refl test in
      record {
        members_are = set.0;
        is = plain.1 ∙ ap it set.1;
        ascending = ((in_Set IsProperLevel set.0).0 (subst IsProper set.1 plain.2.proper)).0;
      }

  pub string_value : (x : Val) → Fits d es sort.String x → IsAString x
  string_value x h =
      let plain = plain_value sort.String x h (no_option_at sort.String s.String out_String refl) in
      let test : is_string (out-Value plain.0) ≡ true = ap (λ (z : Value → Bool). z plain.0) (sym (fits_at sort.String s.String sort_rolls-String)) ∙ plain.2.of_sort in
      let string = string_by plain.0 (out-Value plain.0) refl test in
      record { bytes = string.0; is = plain.1 ∙ ap it string.1; text = (in_String IsProperLevel string.0).0 (subst IsProper string.1 plain.2.proper) }

  pub entity_value : (name : List ℕ) (us : List Uid) (x : Val) → Fits d es (sort.Entity name us) x → IsAnEntity name us x
  entity_value name us x h =
      let plain = plain_value (sort.Entity name us) x h (no_option_at (sort.Entity name us) (s.Entity name us) (out_Entity name us) refl) in
      let test : is_entity_of (kind_listed name us) (out-Value plain.0) ≡ true = ap (λ (z : Value → Bool). z plain.0) (sym (fits_at (sort.Entity name us) (s.Entity name us) (sort_rolls-Entity name us))) ∙ plain.2.of_sort in
      let entity = entity_by (kind_listed name us) plain.0 (out-Value plain.0) refl test in
      record {
        uid = entity.0;
        is = plain.1 ∙ ap it entity.1;
        named = entity.2;
        chosen = entity.3;
      }

  pub record_value : (fs : SortFields) (x : Val) → Fits d es (sort.Record fs) x → IsARecord fs x
  record_value fs x h =
      let plain = plain_value (sort.Record fs) x h (no_option_at (sort.Record fs) (s.Record fs) (out_Record fs) refl) in
      let test : is_record_of (sights_of fs) (out-Value plain.0) ≡ true = ap (λ (z : Value → Bool). z plain.0) (sym (fits_at (sort.Record fs) (s.Record fs) (rolls-Record fs))) ∙ plain.2.of_sort in
      let fields = record_by (sights_of fs) plain.0 (out-Value plain.0) refl test in
      record {
        fields_are = fields.0;
        is = plain.1 ∙ ap it fields.1;
        ascending = ((in_Record IsProperLevel fields.0).0 (subst IsProper fields.1 plain.2.proper)).0.0;
        of_sort = subst (λ (z : Value). fits (sort.Record fs) z ≡ true) fields.1 plain.2.of_sort;
      }
