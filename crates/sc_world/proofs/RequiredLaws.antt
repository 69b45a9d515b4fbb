-- The required fields of a record type: which names they have, and what a look-up finds.
use Rattle.std.proofs.Common.{◌≡◌, ℕ, List, [], ◌∷◌, ◌++◌, cond, Bool, true, false, Less, Option, Some, None, refl, ap, sym, ◌∙◌}
use Rattle.std.specs.List.{AllByRecursion, list_all, list_any}
use Rattle.std.specs.List.Sorted.{IsStrictlySortedBy}
use Rattle.std.specs.Map.{keys_of}
use Rattle.std.specs.Str.{bytes_eq}
use Rattle.std.proofs.lemmas.Cmp.{nat_list_cmp_total, tied_itself}
use Rattle.std.proofs.lemmas.Slice.Eq.{bytes_eq-Decides}
use Rattle.std.proofs.lemmas.Bool.{or_right, or_left}
use Rattle.sc_lists.proofs.ListLaws.{list_all_true}
use Rattle.sc_lists.proofs.TextLaws.{bytes_eq_false}
use Rattle.sc_lists.proofs.OrderingLaws.{less≢equal}
use Rattle.sc_names.specs.Uids.{text_cmp}
use Rattle.sc_schema.specs.declared.ty.Presence.{Presence}
use Rattle.sc_schema.specs.declared.ty.Presence.TheVariants.{Required, Optional}
use Rattle.sc_schema.specs.declared.ty.Ty.{Ty}
use Rattle.sc_schema.specs.Declarations.{Declarations}
use Rattle.sc_schema.specs.Lawful.{AreAscending, names_of_fields}
use Rattle.sc_values.specs.declared.value.Value.{Value}
use Rattle.sc_values.specs.Records.{Fields, field}
use Rattle.sc_world.specs.Conforms.{conforms, passes}
use Rattle.sc_world.specs.Defaults.{default_value, default_field}
use Rattle.sc_world.proofs.DefaultLaws.{Attribute, required_fields}

-- ---- what holds of each

put_field : (P : List ℕ × Value → Type 0) (p : Presence) (name : List ℕ) (x : Value) (fields : Fields) → P (name, x) → AllByRecursion P fields → AllByRecursion P (default_field p name x ++ fields)
put_field P Required name x fields h rest = (h, rest)
put_field P Optional name x fields h rest = rest

pub fields-all : (s : Declarations) (P : List ℕ × Value → Type 0) (attributes : List Attribute) → AllByRecursion (λ (a : Attribute). P (a.0, default_value s a.2)) attributes → AllByRecursion P (required_fields s attributes)
fields-all s P [] h = tt
fields-all s P (a ∷ attributes) h = put_field P a.1 a.0 (default_value s a.2) (required_fields s attributes) h.0 (fields-all s P attributes h.1)

put_name : (P : List ℕ → Type 0) (p : Presence) (name : List ℕ) (x : Value) (fields : Fields) → P name → AllByRecursion P (keys_of fields) → AllByRecursion P (keys_of (default_field p name x ++ fields))
put_name P Required name x fields h rest = (h, rest)
put_name P Optional name x fields h rest = rest

pub names-all : (s : Declarations) (P : List ℕ → Type 0) (attributes : List Attribute) → AllByRecursion P (names_of_fields attributes) → AllByRecursion P (keys_of (required_fields s attributes))
names-all s P [] h = tt
names-all s P (a ∷ attributes) h = put_name P a.1 a.0 (default_value s a.2) (required_fields s attributes) h.0 (names-all s P attributes h.1)

-- ---- names ascend

put_below : (p : Presence) (name : List ℕ) (x : Value) (fields : Fields) → AllByRecursion (λ y. text_cmp name y ≡ Less) (keys_of fields) → IsStrictlySortedBy text_cmp (keys_of fields)
    → IsStrictlySortedBy text_cmp (keys_of (default_field p name x ++ fields))
unfolding IsStrictlySortedBy
put_below Required name x fields below rest = (below, rest)
put_below Optional name x fields below rest = rest

pub names-ascend : (s : Declarations) (attributes : List Attribute) → AreAscending (names_of_fields attributes) → IsStrictlySortedBy text_cmp (keys_of (required_fields s attributes))
unfolding IsStrictlySortedBy
names-ascend s [] h = tt
names-ascend s (a ∷ attributes) h =
    put_below a.1 a.0 (default_value s a.2) (required_fields s attributes) (names-all s (λ y. text_cmp a.0 y ≡ Less) attributes h.0) (names-ascend s attributes h.1)

-- ---- what is found under a name

apart : (a b : List ℕ) → text_cmp a b ≡ Less → b ≡ a → ⊥
apart a b less same = less≢equal (sym less ∙ ap (text_cmp a) same ∙ tied_itself nat_list_cmp_total a)

skipped : (b : Bool) (x o : Option Value) → b ≡ false → cond b x o ≡ o
skipped true x o e = absurd cc
skipped false x o e = refl

-- a greater name is found among the later fields
found_later : (p : Presence) (name other : List ℕ) (x : Value) (fields : Fields) → text_cmp name other ≡ Less → field other (default_field p name x ++ fields) ≡ field other fields
found_later Required name other x fields less = skipped (bytes_eq other name) (Some x) (field other fields) (bytes_eq_false other name (apart name other less))
found_later Optional name other x fields less = refl

-- a lesser name isn't found
not_found : (name : List ℕ) (fields : Fields) → AllByRecursion (λ y. text_cmp name y ≡ Less) (keys_of fields) → field name fields ≡ None
not_found name [] h = refl
not_found name (f ∷ fields) h =
    skipped (bytes_eq name f.0) (Some f.1) (field name fields) (bytes_eq_false name f.0 (λ same. apart name f.0 h.0 (sym same))) ∙ not_found name fields h.1

abbrev Passes : Fields → List Attribute → Type 0
Passes whole attributes = AllByRecursion (λ (a : Attribute). passes a.1 (conforms a.2) (field a.0 whole) ≡ true) attributes

passes_later : (p : Presence) (name : List ℕ) (x : Value) (whole : Fields) (attributes : List Attribute) → AllByRecursion (λ y. text_cmp name y ≡ Less) (names_of_fields attributes) → Passes whole attributes
    → Passes (default_field p name x ++ whole) attributes
passes_later p name x whole [] below h = tt
passes_later p name x whole (a ∷ attributes) below h =
    (ap (passes a.1 (conforms a.2)) (found_later p name a.0 x whole below.0) ∙ h.0, passes_later p name x whole attributes below.1 h.1)

passes_first : (s : Declarations) (p : Presence) (name : List ℕ) (type : Ty) (fields : Fields) → conforms type (default_value s type) ≡ true → AllByRecursion (λ y. text_cmp name y ≡ Less) (keys_of fields)
    → passes p (conforms type) (field name (default_field p name (default_value s type) ++ fields)) ≡ true
passes_first s Required name type fields conform below =
    ap (λ b. passes Required (conforms type) (cond b (Some (default_value s type)) (field name fields))) ((bytes_eq-Decides name name).1 refl) ∙ conform
passes_first s Optional name type fields conform below = ap (passes Optional (conforms type)) (not_found name fields below)

each_passes : (s : Declarations) (attributes : List Attribute) → AreAscending (names_of_fields attributes) → AllByRecursion (λ (a : Attribute). conforms a.2 (default_value s a.2) ≡ true) attributes
    → Passes (required_fields s attributes) attributes
unfolding IsStrictlySortedBy
each_passes s [] ascend h = tt
each_passes s (a ∷ attributes) ascend h = (
  passes_first s a.1 a.0 a.2 (required_fields s attributes) h.0 (names-all s (λ y. text_cmp a.0 y ≡ Less) attributes ascend.0),
  passes_later a.1 a.0 (default_value s a.2) (required_fields s attributes) attributes ascend.0 (each_passes s attributes ascend.1 h.1),
)

-- ---- the same as tests

abbrev pub is_declared : List Attribute → List ℕ × Value → Bool
is_declared attributes f = list_any (λ (a : Attribute). bytes_eq f.0 a.0) attributes

declared_later : (a : Attribute) (attributes : List Attribute) (fields : Fields) → AllByRecursion (λ (f : List ℕ × Value). is_declared attributes f ≡ true) fields → AllByRecursion (λ (f : List ℕ × Value). is_declared (a ∷ attributes) f ≡ true) fields
declared_later a attributes [] h = tt
declared_later a attributes (f ∷ fields) h = (or_right (bytes_eq f.0 a.0) (is_declared attributes f) h.0, declared_later a attributes fields h.1)

declared_first : (a : Attribute) (attributes : List Attribute) (x : Value) → is_declared (a ∷ attributes) (a.0, x) ≡ true
declared_first a attributes x = or_left (bytes_eq a.0 a.0) (is_declared attributes (a.0, x)) ((bytes_eq-Decides a.0 a.0).1 refl)

each_declared : (s : Declarations) (attributes : List Attribute) → AllByRecursion (λ (f : List ℕ × Value). is_declared attributes f ≡ true) (required_fields s attributes)
each_declared s [] = tt
each_declared s (a ∷ attributes) =
    put_field (λ (f : List ℕ × Value). is_declared (a ∷ attributes) f ≡ true) a.1 a.0 (default_value s a.2) (required_fields s attributes)
    (declared_first a attributes (default_value s a.2)) (declared_later a attributes (required_fields s attributes) (each_declared s attributes))

pub required_pass : (s : Declarations) (attributes : List Attribute) → AreAscending (names_of_fields attributes) → AllByRecursion (λ (a : Attribute). conforms a.2 (default_value s a.2) ≡ true) attributes
    → list_all (λ (a : Attribute). passes a.1 (conforms a.2) (field a.0 (required_fields s attributes))) attributes ≡ true
required_pass s attributes ascend h = list_all_true _ attributes (each_passes s attributes ascend h)

pub required_declared : (s : Declarations) (attributes : List Attribute) → list_all (is_declared attributes) (required_fields s attributes) ≡ true
required_declared s attributes = list_all_true _ (required_fields s attributes) (each_declared s attributes)
