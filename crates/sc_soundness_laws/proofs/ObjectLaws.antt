-- What records and entities have, by their types.
use Rattle.std.proofs.Common.{◌≡◌, ◌||◌, ℕ, List, [], ◌∷◌, Bool, true, false, cond, IsTrue, IsSome, IsSomeAnd, Option, Some, None, is_some, unwrap_or, Result, Ok, is_eq, refl, sym, ap, subst, ◌∙◌}
use Rattle.std.specs.List.{AllByRecursion, list_all, list_any}
use Rattle.std.specs.Option.{option_and_then}
use Rattle.std.specs.Str.{bytes_eq}
use Rattle.std.proofs.lemmas.Slice.Eq.{bytes_eq-Decides}
use Rattle.std.proofs.lemmas.Bool.{and_parts}
use Rattle.sc_lists.proofs.OrderingLaws.{is_eq_true}
use Rattle.sc_names.specs.declared.uid.Uid.{Uid}
use Rattle.sc_names.specs.Uids.{uid_cmp}
use Rattle.sc_names.proofs.UidLaws.{uid_cmp_level}
use Rattle.sc_schema.specs.declared.ty.Presence.{Presence}
use Rattle.sc_schema.specs.declared.ty.Presence.TheVariants.{Required, Optional}
use Rattle.sc_schema.specs.declared.ty.Ty.{Ty, Ty-F, out-Ty}
use Rattle.sc_schema.specs.declared.ty.Ty.TheOpen as t
use Rattle.sc_schema.specs.declared.declarations.Env.{Env}
use Rattle.sc_schema.specs.Declarations.{Declarations, attrs_of}
use Rattle.sc_values.specs.declared.value.Value.{Value, Value-F, out-Value, roll-Value, roll-out-Value}
use Rattle.sc_values.specs.declared.value.Value.TheVariants as value
use Rattle.sc_values.specs.declared.value.Value.TheVariants.{rolls-Record}
use Rattle.sc_values.specs.declared.value.Value.TheOpen as v
use Rattle.sc_values.specs.Records.{Fields, field}
use Rattle.sc_values.proofs.EveryLaws as every
use Rattle.sc_values.proofs.OutLaws.{out_Entity, out_Record}
use Rattle.sc_world.specs.declared.entity.EntityData.{EntityData}
use Rattle.sc_world.specs.declared.world.World.{World}
use Rattle.sc_world.specs.Conforms.{Test, Shape, conforms, is_truth, is_bool, is_long, is_string, is_decimal, is_ip, is_entity_of, is_set_of, is_record_of, passes, has_shape, shape_of}
use Rattle.sc_world.specs.Stores.{Entities, stored}
use Rattle.sc_world.specs.WellFormed.{Entry, HasAttributes, IsStored, NamesStored, NamesStoredLevel, EntryNamesStored, IsWellFormed}
use Rattle.sc_eval.specs.declared.error.EvalError.{EvalError}
use Rattle.sc_eval.specs.Entities.{or_missing, attr_of, access_in, access, has_attr, has_in, has}
use Rattle.sc_typed.specs.Types.{Field, entity_name_in, record_fields, record_fields_in, attributes_in, attributes, attribute, same_presence, is_required}
use Rattle.sc_soundness_laws.specs.Sound.{IsOf}
use Rattle.sc_soundness_laws.proofs.ValueLaws.{fits, conforms-out, IsEntityOf, entity_of}

-- ---- entries of a store

uid_found : (u k : Uid) → is_eq (uid_cmp u k) ≡ true → u ≡ k
uid_found u k h = uid_cmp_level u k (is_eq_true (uid_cmp u k) h)

entry_at : (P : Entry → Type 0) (u : Uid) (e : EntityData) (x : Entry) (b : Bool) (later : Option EntityData) → (b ≡ true → u ≡ x.0) → P x → (later ≡ Some e → P (u, e)) → cond b (Some x.1) later ≡ Some e → P (u, e)
entry_at P u e x true later is here rest h =
    let data_is : x.1 ≡ e = cc in
    let uid_is : x.0 ≡ u = sym (is refl) in
    let whole : ◌≡◌ {A = Entry} x (u, e) = λ i. (uid_is i, data_is i) in
    subst P whole here
entry_at P u e x false later is here rest h = rest h

-- what holds of each entry holds of one that is stored
pub of_stored : (P : Entry → Type 0) (u : Uid) (es : Entities) (e : EntityData) → stored u es ≡ Some e → AllByRecursion P es → P (u, e)
unfolding stored
of_stored P u [] e h all = absurd cc
of_stored P u (x ∷ es) e h all = entry_at P u e x (is_eq (uid_cmp u x.0)) (stored u es) (uid_found u x.0) all.0 (λ k. of_stored P u es e k all.1) h

data_in : (o : Option EntityData) → IsSome o → (e : EntityData) × (o ≡ Some e)
data_in (Some e) k = (e, refl)
data_in None k = absurd cc

-- an entity that is stored has data
pub data_of : (u : Uid) (es : Entities) → IsStored es u → (e : EntityData) × (stored u es ≡ Some e)
data_of u es h = data_in (stored u es) h

-- ---- records of a shape

record_value : (shape : Shape) (z : Value-F Value) → IsTrue (is_record_of shape z) → (fields : Fields) × (z ≡ v.Record fields) × IsTrue (has_shape shape fields)
record_value shape (v.Record fields) h = (fields, refl, h)
record_value shape _ h = absurd cc

fails : (Q : Type 0) (b : Bool) → b ≡ false → IsTrue b → Q
fails Q b apart told = absurd cc

-- attributes have the shape of their type
record_shape : (y : Ty-F Ty) (attrs : Fields) → IsTrue (fits y (value.Record attrs)) → IsTrue (has_shape (shape_of (unwrap_or (record_fields_in y) [])) attrs)
record_shape t.True attrs h = fails _ _ (ap (is_truth true) (out_Record attrs)) h
record_shape t.False attrs h = fails _ _ (ap (is_truth false) (out_Record attrs)) h
record_shape t.Bool attrs h = fails _ _ (ap is_bool (out_Record attrs)) h
record_shape t.Long attrs h = fails _ _ (ap is_long (out_Record attrs)) h
record_shape t.String attrs h = fails _ _ (ap is_string (out_Record attrs)) h
record_shape t.Decimal attrs h = fails _ _ (ap is_decimal (out_Record attrs)) h
record_shape t.Ip attrs h = fails _ _ (ap is_ip (out_Record attrs)) h
record_shape (t.Entity kind) attrs h = fails _ _ (ap (is_entity_of kind) (out_Record attrs)) h
record_shape (t.Set m) attrs h = fails _ _ (ap (is_set_of (conforms m)) (out_Record attrs)) h
record_shape (t.Record gs) attrs h = sym (ap (is_record_of (shape_of gs)) (out_Record attrs)) ∙ h

-- ---- objects

-- a value's attributes have a type's shape, and are what is asked of and read from the value
pub record IsObject (w : World) (fields : List Field) (x : Value) (attrs : Fields) : Type 0 where
  pub shape : IsTrue (has_shape (shape_of fields) attrs)
  pub names : NamesStored w.store (value.Record attrs)
  pub reads : (name : List ℕ) → access name w x ≡ or_missing (field name attrs)
  pub asks : (name : List ℕ) → has name w x ≡ Ok (is_some (field name attrs))

module _ (s : Declarations) (env : Env) (literals : List Uid) (w : World) (well : IsWellFormed s env literals w) where
  record_object : (fields : List Field) (x : Value) → IsTrue (fits (t.Record fields) x) → NamesStored w.store x → (attrs : Fields) × IsObject w fields x attrs
  record_object fields x h names_stored =
      let p = record_value (shape_of fields) (out-Value x) h in
      let is : x ≡ value.Record p.0 = sym (roll-out-Value x) ∙ ap roll-Value p.1 ∙ rolls-Record p.0 in (
        p.0,
        record {
          shape = p.2;
          names = subst (NamesStored w.store) is names_stored;
          reads = λ name. ap (access_in name w) p.1;
          asks = λ name. ap (has_in name w) p.1;
        },
      )

  shape_in : (o : Option Ty) (attrs : Fields) → IsSomeAnd o (λ t. IsTrue (conforms t (value.Record attrs))) → IsTrue (has_shape (shape_of (unwrap_or (option_and_then record_fields o) [])) attrs)
  shape_in None attrs h = absurd h
  shape_in (Some type) attrs h = record_shape (out-Ty type) attrs (sym (conforms-out type (value.Record attrs)) ∙ h)

  entity_object : (name : List ℕ) (x : Value) (u : Uid) → IsEntityOf w name x u → (attrs : Fields) × IsObject w (unwrap_or (option_and_then record_fields (attrs_of s name)) []) x attrs
  entity_object name x u h =
      let d = data_of u w.store h.stored in
      let typed : HasAttributes s (u, d.0) = of_stored (HasAttributes s) u w.store d.0 d.1 well.attributes in
      let known : EntryNamesStored w.store (u, d.0) = of_stored (EntryNamesStored w.store) u w.store d.0 d.1 well.closed.entries in
      let out : out-Value x ≡ v.Entity u = ap out-Value h.entity ∙ out_Entity u in (
        d.0.attrs,
        record {
          shape = shape_in (attrs_of s name) d.0.attrs (subst (λ n. IsSomeAnd (attrs_of s n) (λ t. IsTrue (conforms t (value.Record d.0.attrs)))) h.named typed);
          names = known.attrs;
          reads = λ n. ap (access_in n w) out ∙ ap (attr_of n) d.1;
          asks = λ n. ap (has_in n w) out ∙ ap (λ o. Ok (has_attr n o)) d.1;
        },
      )

  object_at : (y : Ty-F Ty) (type : Ty) (fields : List Field) (x : Value) → out-Ty type ≡ y → attributes_in s y ≡ Some fields → IsTrue (fits y x) → IsOf w type x → (attrs : Fields) × IsObject w fields x attrs
  object_at (t.Record gs) type fields x at e h k =
      let same : gs ≡ fields = cc in
      subst (λ (fs : List Field). (attrs : Fields) × IsObject w fs x attrs) same (record_object gs x h k.stored)
  object_at (t.Entity kind) type fields x at e h k =
      let same : unwrap_or (option_and_then record_fields (attrs_of s kind.name)) [] ≡ fields = cc in
      let p = entity_of w kind.name type x (ap entity_name_in at) k in
      subst (λ (fs : List Field). (attrs : Fields) × IsObject w fs x attrs) same (entity_object kind.name x p.0 p.1)
  object_at _ type fields x at e h k = absurd cc

  -- a value of a type that has attributes
  pub object_of : (type : Ty) (fields : List Field) (x : Value) → attributes s type ≡ Some fields → IsOf w type x → (attrs : Fields) × IsObject w fields x attrs
  object_of type fields x e k = object_at (out-Ty type) type fields x refl e (sym (conforms-out type x) ∙ k.conforming) k

-- ---- attributes

field_found : (name : List ℕ) (attrs : Fields) (g f : Field) (b : Bool) (later : Option Field) → bytes_eq name g.0 ≡ b → IsTrue (passes g.1 (conforms g.2) (field g.0 attrs))
    → (later ≡ Some f → IsTrue (passes f.1 (conforms f.2) (field name attrs))) → cond b (Some g) later ≡ Some f → IsTrue (passes f.1 (conforms f.2) (field name attrs))
field_found name attrs g f true later at here rest h =
    let is : g ≡ f = cc in
    let one : g.0 ≡ name = sym ((bytes_eq-Decides name g.0).0 at) in
    subst (λ (a : Field). IsTrue (passes a.1 (conforms a.2) (field name attrs))) is (subst (λ n. IsTrue (passes g.1 (conforms g.2) (field n attrs))) one here)
field_found name attrs g f false later at here rest h = rest h

-- what a value has under a declared name passes
passes_found : (fields : List Field) (attrs : Fields) (name : List ℕ) (f : Field) → IsTrue (list_all (λ (a : List ℕ × Presence × Test). passes a.1 a.2 (field a.0 attrs)) (shape_of fields))
    → attribute name fields ≡ Some f → IsTrue (passes f.1 (conforms f.2) (field name attrs))
passes_found [] attrs name f all h = absurd cc
passes_found (g ∷ fields) attrs name f all h =
    let p = and_parts (passes g.1 (conforms g.2) (field g.0 attrs)) (list_all (λ (a : List ℕ × Presence × Test). passes a.1 a.2 (field a.0 attrs)) (shape_of fields)) all in
    field_found name attrs g f (bytes_eq name g.0) (attribute name fields) refl p.0 (passes_found fields attrs name f p.1) h

none_past : (b : Bool) (g : Field) (later : Option Field) (c : Bool) → cond b (Some g) later ≡ None → (later ≡ None → c ≡ false) → (b || c) ≡ false
none_past true g later c h k = absurd cc
none_past false g later c h k = k h

none_named : (fields : List Field) (name : List ℕ) → attribute name fields ≡ None → list_any (λ (a : List ℕ × Presence × Test). bytes_eq name a.0) (shape_of fields) ≡ false
none_named [] name h = refl
none_named (g ∷ fields) name h = none_past (bytes_eq name g.0) g (attribute name fields) (list_any (λ (a : List ℕ × Presence × Test). bytes_eq name a.0) (shape_of fields)) h (none_named fields name)

none_at : (name : List ℕ) (shape : Shape) (f : List ℕ × Value) (b : Bool) (later : Option Value) → bytes_eq name f.0 ≡ b → IsTrue (list_any (λ (a : List ℕ × Presence × Test). bytes_eq f.0 a.0) shape)
    → list_any (λ (a : List ℕ × Presence × Test). bytes_eq name a.0) shape ≡ false → later ≡ None → cond b (Some f.1) later ≡ None
none_at name shape f true later at here apart rest =
    let one : name ≡ f.0 = (bytes_eq-Decides name f.0).0 at in
    let told : list_any (λ (a : List ℕ × Presence × Test). bytes_eq name a.0) shape ≡ true = subst (λ n. IsTrue (list_any (λ (a : List ℕ × Presence × Test). bytes_eq n a.0) shape)) (sym one) here in
    absurd (let e : false ≡ true = sym apart ∙ told in cc)
none_at name shape f false later at here apart rest = rest

-- a value has nothing under a name that isn't declared
not_named : (attrs : Fields) (shape : Shape) (name : List ℕ) → IsTrue (list_all (λ (f : List ℕ × Value). list_any (λ (a : List ℕ × Presence × Test). bytes_eq f.0 a.0) shape) attrs)
    → list_any (λ (a : List ℕ × Presence × Test). bytes_eq name a.0) shape ≡ false → field name attrs ≡ None
not_named [] shape name all apart = refl
not_named (f ∷ attrs) shape name all apart =
    let p = and_parts (list_any (λ (a : List ℕ × Presence × Test). bytes_eq f.0 a.0) shape) (list_all (λ (g : List ℕ × Value). list_any (λ (a : List ℕ × Presence × Test). bytes_eq g.0 a.0) shape) attrs) all in
    none_at name shape f (bytes_eq name f.0) (field name attrs) refl p.0 apart (not_named attrs shape name p.1 apart)

value_found : (P : Value → Type 0) (f : List ℕ × Value) (b : Bool) (later : Option Value) (y : Value) → P f.1 → (later ≡ Some y → P y) → cond b (Some f.1) later ≡ Some y → P y
value_found P f true later y here rest h = let is : f.1 ≡ y = cc in subst P is here
value_found P f false later y here rest h = rest h

-- what holds of each field's value holds of the one that is found
pub of_field : (P : Value → Type 0) (name : List ℕ) (attrs : Fields) (y : Value) → AllByRecursion (λ (f : List ℕ × Value). P f.1) attrs → field name attrs ≡ Some y → P y
of_field P name [] y all h = absurd cc
of_field P name (f ∷ attrs) y all h = value_found P f (bytes_eq name f.0) (field name attrs) y all.0 (of_field P name attrs y all.1) h

passes_some : (p : Presence) (test : Test) (o : Option Value) (y : Value) → IsTrue (passes p test o) → o ≡ Some y → IsTrue (test y)
passes_some p test None y h e = absurd cc
passes_some p test (Some x) y h e = let is : x ≡ y = cc in subst (λ z. IsTrue (test z)) is h

passes_required : (p : Presence) (test : Test) (o : Option Value) → same_presence p Required ≡ true → IsTrue (passes p test o) → IsTrue (is_some o)
passes_required Required test None k h = absurd cc
passes_required Required test (Some x) k h = refl
passes_required Optional test o k h = absurd cc

module _ (w : World) (fields : List Field) (x : Value) (attrs : Fields) (object : IsObject w fields x attrs) (name : List ℕ) where
  abbrev all_pass : Bool
  all_pass = list_all (λ (a : List ℕ × Presence × Test). passes a.1 a.2 (field a.0 attrs)) (shape_of fields)

  abbrev all_named : Bool
  all_named = list_all (λ (f : List ℕ × Value). list_any (λ (a : List ℕ × Presence × Test). bytes_eq f.0 a.0) (shape_of fields)) attrs

  -- it hasn't what isn't declared
  pub has_none : attribute name fields ≡ None → has name w x ≡ Ok false
  has_none h =
      let p = and_parts all_pass all_named object.shape in
      object.asks name ∙ ap (λ o. Ok (is_some o)) (not_named attrs (shape_of fields) name p.1 (none_named fields name h))

  -- it has what is required
  pub has_required : (f : Field) → attribute name fields ≡ Some f → is_required f ≡ true → has name w x ≡ Ok true
  has_required f h required =
      let p = and_parts all_pass all_named object.shape in
      object.asks name ∙ ap Ok (passes_required f.1 (conforms f.2) (field name attrs) required (passes_found fields attrs name f p.0 h))

  read_at : (f : Field) (o : Option Value) → field name attrs ≡ o → IsTrue (passes f.1 (conforms f.2) o) → is_some o ≡ true → (y : Value) × (or_missing o ≡ Ok y) × IsOf w f.2 y
  read_at f (Some y) at h there = (
    y,
    refl,
    record { conforming = h; stored = of_field (NamesStored w.store) name attrs y (every.every_fields (NamesStoredLevel w.store) attrs object.names) at },
  )
  read_at f None at h there = absurd cc

  of_ok : (b c : Bool) → ◌≡◌ {A = Result Bool EvalError} (Ok b) (Ok c) → b ≡ c
  of_ok b c e = cc

  -- what it has is of the declared type
  pub reads_declared : (f : Field) → attribute name fields ≡ Some f → has name w x ≡ Ok true → (y : Value) × (access name w x ≡ Ok y) × IsOf w f.2 y
  reads_declared f h there =
      let p = and_parts all_pass all_named object.shape in
      let some : is_some (field name attrs) ≡ true = of_ok (is_some (field name attrs)) true (sym (object.asks name) ∙ there) in
      let q = read_at f (field name attrs) refl (passes_found fields attrs name f p.0 h) some in
      (q.0, object.reads name ∙ q.1, q.2)

-- ---- what an expression's value has, by its type

module _ (s : Declarations) (env : Env) (literals : List Uid) (w : World) (type : Ty) (fields : List Field) (x : Value) (name : List ℕ) where
  pub none_undeclared : IsWellFormed s env literals w → attributes s type ≡ Some fields → IsOf w type x → attribute name fields ≡ None → has name w x ≡ Ok false
  none_undeclared well e h declared = let q = object_of s env literals w well type fields x e h in has_none w fields x q.0 q.1 name declared

  pub has_declared : (f : Field) → IsWellFormed s env literals w → attributes s type ≡ Some fields → IsOf w type x → attribute name fields ≡ Some f → is_required f ≡ true → has name w x ≡ Ok true
  has_declared f well e h declared required = let q = object_of s env literals w well type fields x e h in has_required w fields x q.0 q.1 name f declared required

  pub value_declared : (f : Field) → IsWellFormed s env literals w → attributes s type ≡ Some fields → IsOf w type x → attribute name fields ≡ Some f → has name w x ≡ Ok true → (y : Value) × (access name w x ≡ Ok y) × IsOf w f.2 y
  value_declared f well e h declared there = let q = object_of s env literals w well type fields x e h in reads_declared w fields x q.0 q.1 name f declared there
