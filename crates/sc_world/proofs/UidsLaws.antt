-- The uids that a value names: kind by kind, that they are stored, and the least that isn't.
use Rattle.std.proofs.Common.{◌≡◌, ◌↔◌, ℕ, List, [], ◌∷◌, ◌++◌, map, Bool, Option, refl, sym, ap, ◌∙◌, subst}
use Rattle.std.specs.Prelude.{flat_map}
use Rattle.std.specs.List.{AllByRecursion}
use Rattle.sc_lists.proofs.ListLaws.{all_append}
use Rattle.sc_names.specs.declared.uid.Uid.{Uid}
use Rattle.sc_values.specs.declared.value.Value.{Value, Value-F, roll-Value, map-Value, ind-Value, fold-roll-Value}
use Rattle.sc_values.specs.declared.value.Value.TheOpen as v
use Rattle.sc_values.specs.declared.value.Value.TheVariants as value
use Rattle.sc_values.specs.declared.value.Value.TheVariants.{rolls-Bool, rolls-Long, rolls-String, rolls-Entity, rolls-Set, rolls-Record, rolls-Decimal, rolls-Ip}
use Rattle.sc_values.specs.Records.{Fields}
use Rattle.sc_values.proofs.LevelLaws as level
use Rattle.sc_world.specs.Named.{uids_step, uids_in}
use Rattle.sc_world.specs.Stores.{Entities}
use Rattle.sc_world.specs.WellFormed.{IsStored, NamesStoredLevel, NamesStored}
use Rattle.sc_world.specs.Tests.{lesser, least_missing}
use Rattle.sc_world.proofs.LeastLaws.{least_one, least_none}

-- ---- the uids that a value names

member_uids : (xs : List Value) → flat_map (λ (us : List Uid). us) (map uids_in xs) ≡ flat_map uids_in xs
member_uids [] = refl
member_uids (x ∷ xs) = ap (λ (us : List Uid). uids_in x ++ us) (member_uids xs)

field_uids : (fs : Fields) → flat_map (λ (f : List ℕ × List Uid). f.1) (map (λ (f : List ℕ × Value). (f.0, uids_in f.1)) fs) ≡ flat_map (λ (f : List ℕ × Value). uids_in f.1) fs
field_uids [] = refl
field_uids (f ∷ fs) = ap (λ (us : List Uid). uids_in f.1 ++ us) (field_uids fs)

-- of a value that is rolled from a layer, those that the layer tells
uids_of_layer : (y : Value-F Value) → uids_in (roll-Value y) ≡ uids_step (map-Value Value (List Uid) uids_in y)
unfolding uids_in
uids_of_layer y = fold-roll-Value (List Uid) uids_step y

pub uids_Entity : (u : Uid) → uids_in (value.Entity u) ≡ u ∷ []
uids_Entity u = ap uids_in (sym (rolls-Entity u)) ∙ uids_of_layer (v.Entity u)

pub uids_Set : (xs : List Value) → uids_in (value.Set xs) ≡ flat_map uids_in xs
uids_Set xs = ap uids_in (sym (rolls-Set xs)) ∙ (uids_of_layer (v.Set xs) ∙ member_uids xs)

pub uids_Record : (fs : Fields) → uids_in (value.Record fs) ≡ flat_map (λ (f : List ℕ × Value). uids_in f.1) fs
uids_Record fs = ap uids_in (sym (rolls-Record fs)) ∙ (uids_of_layer (v.Record fs) ∙ field_uids fs)

pub uids_Bool : (b : Bool) → uids_in (value.Bool b) ≡ []
uids_Bool b = ap uids_in (sym (rolls-Bool b)) ∙ uids_of_layer (v.Bool b)

pub uids_Long : (n : _) → uids_in (value.Long n) ≡ []
uids_Long n = ap uids_in (sym (rolls-Long n)) ∙ uids_of_layer (v.Long n)

pub uids_String : (text : _) → uids_in (value.String text) ≡ []
uids_String text = ap uids_in (sym (rolls-String text)) ∙ uids_of_layer (v.String text)

pub uids_Decimal : (n : _) → uids_in (value.Decimal n) ≡ []
uids_Decimal n = ap uids_in (sym (rolls-Decimal n)) ∙ uids_of_layer (v.Decimal n)

pub uids_Ip : (ip : _) → uids_in (value.Ip ip) ≡ []
uids_Ip ip = ap uids_in (sym (rolls-Ip ip)) ∙ uids_of_layer (v.Ip ip)

-- ---- each is stored

pub all-left : {X : Type 0} (P : X → Type 0) (xs ys : List X) → AllByRecursion P (xs ++ ys) → AllByRecursion P xs
all-left P [] ys h = tt
all-left P (x ∷ xs) ys h = (h.0, all-left P xs ys h.1)

pub all-right : {X : Type 0} (P : X → Type 0) (xs ys : List X) → AllByRecursion P (xs ++ ys) → AllByRecursion P ys
all-right P [] ys h = h
all-right P (x ∷ xs) ys h = all-right P xs ys h.1

abbrev AllStored : Entities → List Uid → Type 0
AllStored es us = AllByRecursion (IsStored es) us

-- each uid that a value names is stored: said level by level, and of their list
abbrev Agrees : Entities → Value → Type 0
Agrees es x = NamesStored es x ↔ AllStored es (uids_in x)

abbrev Known : Entities → Type 0
Known es = (x : Value) × Agrees es x

abbrev forget : (es : Entities) → Value-F (Known es) → Value-F Value
forget es = map-Value (Known es) Value (λ k. k.0)

abbrev values_of : (es : Entities) → List (Known es) → List Value
values_of es ks = map (λ (k : Known es). k.0) ks

abbrev fields_of : (es : Entities) → List (List ℕ × Known es) → Fields
fields_of es ks = map (λ (k : List ℕ × Known es). (k.0, k.1.0)) ks

members_to : (es : Entities) (ks : List (Known es)) → AllByRecursion (NamesStored es) (values_of es ks) → AllStored es (flat_map uids_in (values_of es ks))
members_to es [] h = tt
members_to es (k ∷ ks) h = all_append (IsStored es) (uids_in k.0) (flat_map uids_in (values_of es ks)) (k.1.0 h.0) (members_to es ks h.1)

members_from : (es : Entities) (ks : List (Known es)) → AllStored es (flat_map uids_in (values_of es ks)) → AllByRecursion (NamesStored es) (values_of es ks)
members_from es [] h = tt
members_from es (k ∷ ks) h = (
  k.1.1 (all-left (IsStored es) (uids_in k.0) (flat_map uids_in (values_of es ks)) h),
  members_from es ks (all-right (IsStored es) (uids_in k.0) (flat_map uids_in (values_of es ks)) h),
)

abbrev FieldNames : Entities → List ℕ × Value → Type 0
FieldNames es f = NamesStored es f.1

abbrev field_names : List ℕ × Value → List Uid
field_names f = uids_in f.1

fields_to : (es : Entities) (ks : List (List ℕ × Known es)) → AllByRecursion (FieldNames es) (fields_of es ks) → AllStored es (flat_map field_names (fields_of es ks))
fields_to es [] h = tt
fields_to es (k ∷ ks) h = all_append (IsStored es) (uids_in k.1.0) (flat_map field_names (fields_of es ks)) (k.1.1.0 h.0) (fields_to es ks h.1)

fields_from : (es : Entities) (ks : List (List ℕ × Known es)) → AllStored es (flat_map field_names (fields_of es ks)) → AllByRecursion (FieldNames es) (fields_of es ks)
fields_from es [] h = tt
fields_from es (k ∷ ks) h = (
  k.1.1.1 (all-left (IsStored es) (uids_in k.1.0) (flat_map field_names (fields_of es ks)) h),
  fields_from es ks (all-right (IsStored es) (uids_in k.1.0) (flat_map field_names (fields_of es ks)) h),
)

-- a value that names none
names_none : (es : Entities) (x : Value) → NamesStored es x → uids_in x ≡ [] → Agrees es x
names_none es x h none = (λ p. subst (AllStored es) (sym none) tt, λ q. h)

layer : (es : Entities) (y : Value-F (Known es)) → Agrees es (roll-Value (forget es y))
layer es (v.Bool b) = subst (Agrees es) (sym (rolls-Bool b)) (names_none es (value.Bool b) ((level.in_Bool (NamesStoredLevel es) b).1 tt) (uids_Bool b))
layer es (v.Long n) = subst (Agrees es) (sym (rolls-Long n)) (names_none es (value.Long n) ((level.in_Long (NamesStoredLevel es) n).1 tt) (uids_Long n))
layer es (v.String text) = subst (Agrees es) (sym (rolls-String text)) (names_none es (value.String text) ((level.in_String (NamesStoredLevel es) text).1 tt) (uids_String text))
layer es (v.Entity u) = subst (Agrees es) (sym (rolls-Entity u)) (
  λ p. subst (AllStored es) (sym (uids_Entity u)) ((level.in_Entity (NamesStoredLevel es) u).0 p, tt),
  λ q. (level.in_Entity (NamesStoredLevel es) u).1 (subst (AllStored es) (uids_Entity u) q).0,
)
layer es (v.Set ks) =
    let xs = values_of es ks in
    subst (Agrees es) (sym (rolls-Set xs)) (
      λ p. subst (AllStored es) (sym (uids_Set xs)) (members_to es ks ((level.in_Set (NamesStoredLevel es) xs).0 p).1),
      λ q. (level.in_Set (NamesStoredLevel es) xs).1 (tt, members_from es ks (subst (AllStored es) (uids_Set xs) q)),
    )
layer es (v.Record ks) =
    let fs = fields_of es ks in
    subst (Agrees es) (sym (rolls-Record fs)) (
      λ p. subst (AllStored es) (sym (uids_Record fs)) (fields_to es ks ((level.in_Record (NamesStoredLevel es) fs).0 p).1),
      λ q. (level.in_Record (NamesStoredLevel es) fs).1 (tt, fields_from es ks (subst (AllStored es) (uids_Record fs) q)),
    )
layer es (v.Decimal n) = subst (Agrees es) (sym (rolls-Decimal n)) (names_none es (value.Decimal n) ((level.in_Decimal (NamesStoredLevel es) n).1 tt) (uids_Decimal n))
layer es (v.Ip ip) = subst (Agrees es) (sym (rolls-Ip ip)) (names_none es (value.Ip ip) ((level.in_Ip (NamesStoredLevel es) ip).1 tt) (uids_Ip ip))

pub names_agree : (es : Entities) (x : Value) → NamesStored es x ↔ AllByRecursion (IsStored es) (uids_in x)
names_agree es = ind-Value (Agrees es) (λ x y e. subst (λ z. Agrees es (roll-Value z)) e (layer es y))

-- ---- the least of what a value names

pub least_of_none : (es : Entities) (o : Option Uid) (x y : Value) → x ≡ y → uids_in y ≡ [] → o ≡ least_missing es o (uids_in x)
least_of_none es o x y is none = sym (ap (least_missing es o) (ap uids_in is ∙ none) ∙ least_none es o)

pub least_of_entity : (es : Entities) (o r : Option Uid) (x : Value) (u : Uid) → x ≡ value.Entity u → r ≡ lesser es o u → r ≡ least_missing es o (uids_in x)
least_of_entity es o r x u is told = told ∙ sym (ap (least_missing es o) (ap uids_in is ∙ uids_Entity u) ∙ least_one es o u)

pub least_of_set : (es : Entities) (o r : Option Uid) (x : Value) (xs : List Value) → x ≡ value.Set xs → r ≡ least_missing es o (flat_map uids_in xs) → r ≡ least_missing es o (uids_in x)
least_of_set es o r x xs is told = told ∙ sym (ap (least_missing es o) (ap uids_in is ∙ uids_Set xs))

pub least_of_record : (es : Entities) (o r : Option Uid) (x : Value) (fs : Fields) → x ≡ value.Record fs → r ≡ least_missing es o (uids_in (value.Record fs)) → r ≡ least_missing es o (uids_in x)
least_of_record es o r x fs is told = told ∙ sym (ap (least_missing es o) (ap uids_in is))

pub least_of_fields : (es : Entities) (o r : Option Uid) (fs : Fields) → r ≡ least_missing es o (flat_map (λ (f : List ℕ × Value). uids_in f.1) fs) → r ≡ least_missing es o (uids_in (value.Record fs))
least_of_fields es o r fs told = told ∙ sym (ap (least_missing es o) (uids_Record fs))
