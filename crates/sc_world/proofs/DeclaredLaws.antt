-- The entities that a value of a type names are declared.
use Rattle.std.proofs.Common.{◌≡◌, ◌||◌, ℕ, List, [], ◌∷◌, map, Bool, true, false, Option, Some, cond, is_some, IsTrue, Less, option_map, refl, ap, sym, subst, ◌∙◌}
use Rattle.std.specs.List.{AllByRecursion, flat_map, list_all, list_any}
use Rattle.std.specs.List.Sorted.{IsStrictlySortedBy}
use Rattle.std.specs.Map.{keys_of}
use Rattle.std.specs.Str.{bytes_eq}
use Rattle.std.proofs.lemmas.Cmp.{nat_list_cmp_total, tied_itself}
use Rattle.std.proofs.lemmas.Slice.Eq.{bytes_eq-Decides}
use Rattle.std.proofs.lemmas.Bool.{and_parts}
use Rattle.sc_lists.proofs.OrderingLaws.{less≢equal}
use Rattle.sc_lists.proofs.ListLaws.{all_append}
use Rattle.sc_names.specs.declared.uid.Uid.{Uid}
use Rattle.sc_names.specs.Uids.{text_cmp}
use Rattle.sc_schema.specs.declared.declarations.EntityType.{EntityType}
use Rattle.sc_schema.specs.declared.ty.EntityKind.{EntityKind}
use Rattle.sc_schema.specs.declared.ty.Presence.{Presence}
use Rattle.sc_schema.specs.declared.ty.Ty.{Ty, Ty-F, roll-Ty, map-Ty, ind-Ty, fold-roll-Ty}
use Rattle.sc_schema.specs.declared.ty.Ty.TheOpen as t
use Rattle.sc_schema.specs.Declarations.{Declarations, entity_type, attrs_of, choices_of, is_action_type}
use Rattle.sc_schema.specs.Lawful.{IsEntityType, IsEntityKind, IsTypeLevel, IsTypeOf, IsLawful}
use Rattle.sc_values.specs.declared.value.Value.{Value, Value-F, out-Value, roll-Value, map-Value, fold_out-Value, roll-out-Value}
use Rattle.sc_values.specs.declared.value.Value.TheOpen as v
use Rattle.sc_values.specs.declared.value.Value.TheVariants.{rolls-Set, rolls-Record}
use Rattle.sc_values.specs.Proper.{IsProper, IsProperLevel}
use Rattle.sc_values.specs.Records.{Fields, field}
use Rattle.sc_values.proofs.LevelLaws as level
use Rattle.sc_world.specs.Choices.{is_choice, IsChoice}
use Rattle.sc_world.specs.Conforms.{Test, Shape, is_bool, is_truth, is_long, is_string, is_decimal, is_ip, is_entity_of, is_set_of, is_record_of, passes, conforms_step, conforms}
use Rattle.sc_world.specs.Named.{uids_step, uids_in, IsDeclared}
use Rattle.sc_world.proofs.DefaultTypeLaws.{type_named}
use Rattle.sc_world.proofs.TypeLaws as of_type

-- ---- entities of declared types

attrs_where : (b : Bool) (x y : Option Ty) → b ≡ false → cond b x y ≡ y
attrs_where true x y h = absurd cc
attrs_where false x y h = refl

-- an entity of an entity type that is declared, a choice where the type is enumerated
pub declared_type : (s : Declarations) (name : List ℕ) (u : Uid) → IsLawful s → IsEntityType s name → u.type_name ≡ name → IsChoice s u → IsDeclared s u
declared_type s name u lawful declared named chosen =
    let it = type_named s name lawful declared in
    let is : u.type_name ≡ it.type.name = named ∙ it.named in
    let other : is_action_type s u.type_name ≡ false = ap (is_action_type s) is ∙ it.lawful.no_action in
    let found : entity_type s u.type_name ≡ Some it.type = ap (entity_type s) named ∙ it.found in
    let attrs : attrs_of s u.type_name ≡ Some it.type.shape = attrs_where (is_action_type s u.type_name) _ _ other ∙ ap (option_map (λ (x : EntityType). x.shape)) found in
    record {
      of_type = ap is_some attrs;
      as_action = λ h. let no : false ≡ true = sym other ∙ h in absurd cc;
      as_choice = chosen;
    }

-- ---- records as look-ups see them

abbrev pub Field : Type 0
Field = List ℕ × Value

-- each field is found by its name
abbrev pub Gets : Fields → Fields → Type 0
Gets whole fs = AllByRecursion (λ (f : Field). field f.0 whole ≡ Some f.1) fs

skip_at : (name other : List ℕ) (x o : Option Value) (b : Bool) → bytes_eq name other ≡ b → (name ≡ other → ⊥) → cond b x o ≡ o
skip_at name other x o true e apart = absurd (apart ((bytes_eq-Decides name other).0 e))
skip_at name other x o false e apart = refl

pub skip : (name other : List ℕ) (x o : Option Value) → (name ≡ other → ⊥) → cond (bytes_eq name other) x o ≡ o
skip name other x o apart = skip_at name other x o (bytes_eq name other) refl apart

pub gets_later : (f : Field) (whole fs : Fields) → AllByRecursion (λ y. text_cmp f.0 y ≡ Less) (keys_of fs) → Gets whole fs → Gets (f ∷ whole) fs
gets_later f whole [] below g = tt
gets_later f whole (x ∷ fs) below g =
    let apart = λ (same : x.0 ≡ f.0). less≢equal (sym below.0 ∙ (ap (text_cmp f.0) same ∙ tied_itself nat_list_cmp_total f.0)) in
    (skip x.0 f.0 (Some f.1) (field x.0 whole) apart ∙ g.0, gets_later f whole fs below.1 g.1)

pub gets_itself : (fs : Fields) → IsStrictlySortedBy text_cmp (keys_of fs) → Gets fs fs
unfolding IsStrictlySortedBy
gets_itself [] ascending = tt
gets_itself (f ∷ fs) ascending = (rw ((bytes_eq-Decides f.0 f.0).1 refl) refl, gets_later f fs fs ascending.0 (gets_itself fs ascending.1))

-- ---- the entities that a value names, by its first level

abbrev level_uids : Value-F Value → List Uid
level_uids a = uids_step (map-Value Value (List Uid) uids_in a)

uids_at : (x : Value) → uids_in x ≡ level_uids (out-Value x)
unfolding uids_in
uids_at x = fold_out-Value (List Uid) uids_step x

module _ (s : Declarations) (lawful : IsLawful s) where
  abbrev AreDeclared : List Uid → Type 0
  AreDeclared = AllByRecursion (IsDeclared s)

  -- proper values that pass the test name declared entities
  abbrev NamesDeclared : Test → Type 0
  NamesDeclared test = (x : Value) → IsProper x → IsTrue (test x) → AreDeclared (uids_in x)

  abbrev LevelsDeclare : (Value-F Value → Bool) → Type 0
  LevelsDeclare test = (a : Value-F Value) → IsProper (roll-Value a) → IsTrue (test a) → AreDeclared (level_uids a)

  from_levels : (test : Value-F Value → Bool) → LevelsDeclare test → NamesDeclared (λ x. test (out-Value x))
  from_levels test levels x proper h = subst AreDeclared (sym (uids_at x)) (levels (out-Value x) (subst IsProper (sym (roll-out-Value x)) proper) h)

  of_truth : (c : Bool) → LevelsDeclare (is_truth c)
  of_truth true (v.Bool b) p h = tt
  of_truth true _ p h = absurd cc
  of_truth false (v.Bool b) p h = tt
  of_truth false _ p h = absurd cc

  of_bool : LevelsDeclare is_bool
  of_bool (v.Bool b) p h = tt
  of_bool _ p h = absurd cc

  of_long : LevelsDeclare is_long
  of_long (v.Long n) p h = tt
  of_long _ p h = absurd cc

  of_string : LevelsDeclare is_string
  of_string (v.String text) p h = tt
  of_string _ p h = absurd cc

  of_decimal : LevelsDeclare is_decimal
  of_decimal (v.Decimal n) p h = tt
  of_decimal _ p h = absurd cc

  of_ip : LevelsDeclare is_ip
  of_ip (v.Ip ip) p h = tt
  of_ip _ p h = absurd cc

  of_entity : (kind : EntityKind) → IsEntityKind s kind → LevelsDeclare (is_entity_of kind)
  of_entity kind declared (v.Entity u) p h =
      let parts = and_parts (bytes_eq u.type_name kind.name) (is_choice kind.choices u.id) h in
      let named = (bytes_eq-Decides u.type_name kind.name).0 parts.0 in
      let same : kind.choices ≡ choices_of s u.type_name = declared.1 ∙ ap (choices_of s) (sym named) in
      (declared_type s kind.name u lawful declared.0 named (subst (λ (ids : List (List ℕ)). IsTrue (is_choice ids u.id)) same parts.1), tt)
  of_entity kind declared _ p h = absurd cc

  members : (test : Test) → NamesDeclared test → (xs : List Value) → AllByRecursion IsProper xs → IsTrue (list_all test xs) → AreDeclared (flat_map (λ (us : List Uid). us) (map uids_in xs))
  members test d [] p h = tt
  members test d (x ∷ xs) p h =
      let parts = and_parts (test x) (list_all test xs) h in
      all_append (IsDeclared s) (uids_in x) _ (d x p.0 parts.0) (members test d xs p.1 parts.1)

  of_set : (test : Test) → NamesDeclared test → LevelsDeclare (is_set_of test)
  of_set test d (v.Set xs) p h = members test d xs ((level.in_Set IsProperLevel xs).0 (subst IsProper (rolls-Set xs) p)).1 h
  of_set test d _ p h = absurd cc

  -- ---- records

  abbrev IsKnown : Ty → Type 0
  IsKnown type = IsTypeOf s type → NamesDeclared (conforms type)

  abbrev Known : Type 0
  Known = (type : Ty) × IsKnown type

  abbrev KnownAttributes : Type 0
  KnownAttributes = List (List ℕ × Presence × Known)

  abbrev attributes_of : KnownAttributes → List (List ℕ × Presence × Ty)
  attributes_of ks = map (λ (k : List ℕ × Presence × Known). (k.0, k.1, k.2.0)) ks

  abbrev tests : KnownAttributes → Shape
  tests ks = map (λ (a : List ℕ × Presence × Ty). (a.0, a.1, conforms a.2)) (attributes_of ks)

  abbrev AreTypes : KnownAttributes → Type 0
  AreTypes ks = AllByRecursion (λ (a : List ℕ × Presence × Ty). IsTypeOf s a.2) (attributes_of ks)

  abbrev AllPass : KnownAttributes → Fields → Type 0
  AllPass ks fs = IsTrue (list_all (λ (a : List ℕ × Presence × Test). passes a.1 a.2 (field a.0 fs)) (tests ks))

  abbrev is_declared : KnownAttributes → List ℕ → Bool
  is_declared ks name = list_any (λ (a : List ℕ × Presence × Test). bytes_eq name a.0) (tests ks)

  attribute : (ks : KnownAttributes) (fs : Fields) (name : List ℕ) (x : Value) → AreTypes ks → IsTrue (is_declared ks name) → AllPass ks fs → field name fs ≡ Some x → IsProper x → AreDeclared (uids_in x)
  attribute [] fs name x types d h f p = absurd cc
  attribute (k ∷ ks) fs name x types d h f p =
      elim (bytes_eq name k.0) as (λ b. bytes_eq name k.0 ≡ b → AreDeclared (uids_in x)) [
        | true ↦ λ is.
            let same : name ≡ k.0 = (bytes_eq-Decides name k.0).0 is in
            let here = subst (λ o. IsTrue (passes k.1 (conforms k.2.0) o)) (ap (λ n. field n fs) (sym same) ∙ f) (and_parts _ _ h).0 in
            k.2.1 types.0 x p here
        | false ↦ λ is. attribute ks fs name x types.1 (subst (λ b. IsTrue (b || is_declared ks name)) is d) (and_parts _ _ h).1 f p
      ] refl

  fields : (ks : KnownAttributes) (whole : Fields) → AreTypes ks → AllPass ks whole → (fs : Fields) → Gets whole fs → IsTrue (list_all (λ (f : Field). is_declared ks f.0) fs) → AllByRecursion (λ (f : Field). IsProper f.1) fs
      → AreDeclared (flat_map (λ (f : List ℕ × List Uid). f.1) (map (λ (f : Field). (f.0, uids_in f.1)) fs))
  fields ks whole types h [] g d p = tt
  fields ks whole types h (f ∷ fs) g d p =
      let parts = and_parts _ _ d in
      all_append (IsDeclared s) (uids_in f.1) _ (attribute ks whole f.0 f.1 types parts.0 h g.0 p.0) (fields ks whole types h fs g.1 parts.1 p.1)

  of_record : (ks : KnownAttributes) → AreTypes ks → LevelsDeclare (is_record_of (tests ks))
  of_record ks types (v.Record fs) p h =
      let inner = (level.in_Record IsProperLevel fs).0 (subst IsProper (rolls-Record fs) p) in
      let parts = and_parts _ _ h in
      fields ks fs types parts.0 fs (gets_itself fs inner.0.0) parts.1 inner.1
  of_record ks types _ p h = absurd cc

  -- ---- all types

  abbrev forget : Ty-F Known → Ty-F Ty
  forget = map-Ty Known Ty (λ k. k.0)

  step : (z : Ty-F Known) → IsTypeOf s (roll-Ty (forget z)) → NamesDeclared (conforms_step (map-Ty Ty Test conforms (forget z)))
  step t.True h = from_levels (is_truth true) (of_truth true)
  step t.False h = from_levels (is_truth false) (of_truth false)
  step t.Bool h = from_levels is_bool of_bool
  step t.Long h = from_levels is_long of_long
  step t.String h = from_levels is_string of_string
  step t.Decimal h = from_levels is_decimal of_decimal
  step t.Ip h = from_levels is_ip of_ip
  step (t.Entity kind) h = from_levels (is_entity_of kind) (of_entity kind (of_type.every_level (IsTypeLevel s) (t.Entity kind) h))
  step (t.Set k) h = from_levels (is_set_of (conforms k.0)) (of_set (conforms k.0) (k.1 (of_type.every_member (IsTypeLevel s) k.0 h)))
  step (t.Record ks) h = from_levels (is_record_of (tests ks)) (of_record ks (of_type.every_field (IsTypeLevel s) (attributes_of ks) h))

  -- a proper value of a type that a schema writes names declared entities
  pub names_declared : (type : Ty) → IsTypeOf s type → (x : Value) → IsProper x → IsTrue (conforms type x) → AreDeclared (uids_in x)
  unfolding conforms
  names_declared = ind-Ty IsKnown (λ x y e. subst (λ z. IsKnown (roll-Ty z)) e (λ h. subst NamesDeclared (sym (fold-roll-Ty Test conforms_step (forget y))) (step y h)))
