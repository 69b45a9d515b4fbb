-- What a file spells is well written.
use Rattle.std.proofs.Common.{◌≡◌, ◌≢◌, ◌∙◌, ◌+◌, ◌≤◌, ◌||◌, ℕ, List, [], ◌∷◌, ◌++◌, append_assoc, map, length, Bool, true, false, Option, Some, None, IfSome, codes, refl, sym, ap, subst, arith}
use Rattle.std.specs.Prelude.{option_map, option_and_then, is_some, if◌then◌else◌, take, nat_lt, ◌==◌}
use Rattle.std.specs.Option.{option_or, option_map_or}
use Rattle.std.specs.List.{AllByRecursion, IsDistinct, list_any}
use Rattle.std.specs.List.Sorted.{IsStrictlySortedBy}
use Rattle.std.specs.Str.{IsUtf8, bytes_eq}
use Rattle.std.proofs.Math.Seq.{take-append_seam}
use Rattle.std.proofs.lemmas.Bool.{ltb-false}
use Rattle.std.proofs.lemmas.List.{length-map, length_push}
use Rattle.std.proofs.lemmas.List.Folds.{list_any-append}
use Rattle.std.proofs.lemmas.Slice.Eq.{bytes_eq-Decides}
use Rattle.serde_json.specs.Data.{Data, null, boolean, number, string, array, object, Items, no_items, item, Members, no_members, member}
use Rattle.serde_json.specs.Find.{get, get_member}
use Rattle.sc_schema_syntax.specs.declared.attribute.WrittenPresence.{WrittenPresence}
use Rattle.sc_schema_syntax.specs.declared.form.Form.{Form}
use Rattle.sc_schema_syntax.specs.declared.form.Form.TheVariants as form
use Rattle.sc_schema_syntax.specs.declared.level.Level.{Level}
use Rattle.sc_schema_syntax.specs.declared.position.Position.TheVariants.{Elsewhere}
use Rattle.sc_schema_syntax.specs.declared.level.Level.TheVariants as level
use Rattle.sc_schema_syntax.specs.declared.type_word.TypeWord.{TypeWord}
use Rattle.sc_schema_syntax.specs.declared.type_word.TypeWord.TheVariants as word
use Rattle.sc_schema_syntax.specs.declared.written_type.WrittenType.{WrittenType}
use Rattle.sc_schema_syntax.specs.declared.written_type.WrittenType.TheVariants as type
use Rattle.sc_schema_syntax.specs.declared.written_action.WrittenAction.{WrittenAction}
use Rattle.sc_schema_syntax.specs.declared.written_common_type.WrittenCommonType.{WrittenCommonType}
use Rattle.sc_schema_syntax.specs.declared.written_entity_type.WrittenEntityType.{WrittenEntityType}
use Rattle.sc_schema_syntax.specs.declared.written_namespace.WrittenNamespace.{WrittenNamespace}
use Rattle.sc_schema_syntax.specs.declared.written_schema.WrittenSchema.{WrittenSchema}
use Rattle.sc_schema_syntax.specs.Pointers.{under}
use Rattle.sc_schema_syntax.specs.Forms.{item_form, elements, is_text, form_at, form_behind, entity_level, is_name, is_whole, member_form}
use Rattle.sc_schema_syntax.specs.TypeWords.{type_word}
use Rattle.sc_schema_syntax.specs.Faults.{value_fault, items_fault, members_fault, shape_fault, name_fault, first_fault}
use Rattle.sc_schema_syntax.specs.Written.{text_of, texts_of, entries, entries_of, extension_of, type_by, type_of, element_in, attributes_in, attributes_of, attributes_from, entity_type_of, applies_to, action_of, common_type_of, namespace_of, schema_of}
use Rattle.sc_schema_syntax.specs.Syntax.{Spells}
use Rattle.sc_schema_syntax.specs.WellWritten.{AreNames, attribute_names, IsWrittenLevel, IsWrittenType, AreWrittenChoices, IsWrittenBare, IsWrittenEntityType, IsWrittenNamespace, IsWritten}
use Rattle.sc_schema_syntax.proofs.FaultsLaws.{no_fault_either, no_fault_under, no_fault_item}
use Rattle.sc_schema_syntax.proofs.WrittenLaws.{get_member-first}
use Rattle.sc_schema_syntax.proofs.EveryWrittenLaws.{Attributes, every_Boolean, every_Long, every_String, every_Set, every_Record, every_Entity, every_Extension, every_EntityOrCommon, every_Common}
use Rattle.sc_json.specs.Trees.{keys, IsTidyObject, IsTidy, AreTidyItems, AreTidyMembers}
use Rattle.sc_json.proofs.TidyTreeLaws.{tree_tidy}
use Rattle.sc_laws.proofs.BoolLaws.{or_first, or_second}
use Rattle.sc_lists.proofs.ListLaws.{all_weaker}

-- ---- names of members that may have any name

any_name : (names : List (List ℕ)) → AllByRecursion (λ (name : List ℕ). true ≡ true) names
any_name [] = tt
any_name (name ∷ names) = (refl, any_name names)

no_names : (l : Level) → AreNames l []
unfolding IsStrictlySortedBy
no_names l = record { ascending = tt; texts = tt; admitted = tt }

-- ---- types

abbrev AreWritten : Attributes → Type 0
AreWritten all = AreNames level.Attributes (attribute_names all) × AllByRecursion (λ (a : List ℕ × WrittenPresence × WrittenType). IsWrittenType a.2) all

any_common : (name : List ℕ) → IsWrittenType (type.Common name)
any_common name = every_Common IsWrittenLevel name tt

written-by : (w : TypeWord) (text name : List ℕ) (element : WrittenType) (all : Attributes) → IsWrittenType element → AreWritten all → IsWrittenType (type_by w text name element all)
written-by word.Boolean text name element all e h = every_Boolean IsWrittenLevel tt
written-by word.Long text name element all e h = every_Long IsWrittenLevel tt
written-by word.String text name element all e h = every_String IsWrittenLevel tt
written-by word.Set text name element all e h = every_Set IsWrittenLevel element tt e
written-by word.Record text name element all e h = every_Record IsWrittenLevel all h.0 h.1
written-by word.Entity text name element all e h = every_Entity IsWrittenLevel name tt
written-by word.Extension text name element all e h = every_Extension IsWrittenLevel (extension_of name) tt
written-by word.EntityOrCommon text name element all e h = every_EntityOrCommon IsWrittenLevel name tt
written-by word.Common text name element all e h = any_common text

attribute_names-from : (members : Members) → attribute_names (attributes_from members) ≡ keys members
unfolding type_of
attribute_names-from no_members = refl
attribute_names-from (member name value members) = ap (λ (names : List (List ℕ)). name ∷ names) (attribute_names-from members)

attribute_names-ordered : (members : Members) → IsTidyObject members → AreNames level.Attributes (attribute_names (attributes_from members))
attribute_names-ordered members h =
    subst (AreNames level.Attributes) (sym (attribute_names-from members)) (record { ascending = h.ascending; texts = h.texts; admitted = any_name (keys members) })

no_attributes : AreWritten []
no_attributes = (no_names level.Attributes, tt)

either_type : (b : Bool) (x y : WrittenType) → IsWrittenType x → IsWrittenType y → IsWrittenType (if b then x else y)
either_type true x y p q = p
either_type false x y p q = q

either_attributes : (b : Bool) (x y : Attributes) → AreWritten x → AreWritten y → AreWritten (if b then x else y)
either_attributes true x y p q = p
either_attributes false x y p q = q

mutual
  unfolding type_of

  written-type : (d : Data) → IsTidy d → IsWrittenType (type_of d)
  written-type null h = any_common []
  written-type (boolean truth) h = any_common []
  written-type (number n) h = any_common []
  written-type (string text) h = any_common []
  written-type (array items) h = any_common []
  written-type (object members) h =
      let text = text_of (get_member (codes "type") members) in
      written-by (type_word text) text (text_of (get_member (codes "name") members)) (element_in members) (attributes_in members) (written-element members h.1) (written-attributes_in members h.1)

  written-element : (members : Members) → AreTidyMembers members → IsWrittenType (element_in members)
  written-element no_members h = any_common []
  written-element (member key value members) h =
      either_type (bytes_eq (codes "element") key) (type_of value) (element_in members) (written-type value h.0) (written-element members h.1)

  written-attributes_in : (members : Members) → AreTidyMembers members → AreWritten (attributes_in members)
  written-attributes_in no_members h = no_attributes
  written-attributes_in (member key value members) h =
      either_attributes (bytes_eq (codes "attributes") key) (attributes_of value) (attributes_in members) (written-attributes_of value h.0) (written-attributes_in members h.1)

  written-attributes_of : (d : Data) → IsTidy d → AreWritten (attributes_of d)
  written-attributes_of null h = no_attributes
  written-attributes_of (boolean truth) h = no_attributes
  written-attributes_of (number n) h = no_attributes
  written-attributes_of (string text) h = no_attributes
  written-attributes_of (array items) h = no_attributes
  written-attributes_of (object members) h = (attribute_names-ordered members h.0, written-attributes_from members h.1)

  written-attributes_from : (members : Members) → AreTidyMembers members → AllByRecursion (λ (a : List ℕ × WrittenPresence × WrittenType). IsWrittenType a.2) (attributes_from members)
  written-attributes_from no_members h = tt
  written-attributes_from (member name value members) h = (written-type value h.0, written-attributes_from members h.1)

-- ---- what is found in a tree

either_found : (P : Data → Type 0) (b : Bool) (value : Data) (later : Option Data) → (b ≡ true → P value) → IfSome later P → IfSome (if b then Some value else later) P
either_found P true value later p q = p refl
either_found P false value later p q = q

tidy-get_member : (name : List ℕ) (members : Members) → AreTidyMembers members → IfSome (get_member name members) IsTidy
tidy-get_member name no_members h = tt
tidy-get_member name (member key value members) h =
    rw (get_member-first name key value members) (either_found IsTidy (bytes_eq name key) value (get_member name members) (λ _. h.0) (tidy-get_member name members h.1))

tidy-get : (name : List ℕ) (d : Data) → IsTidy d → IfSome (get name d) IsTidy
tidy-get name null h = tt
tidy-get name (boolean truth) h = tt
tidy-get name (number n) h = tt
tidy-get name (string text) h = tt
tidy-get name (array items) h = tt
tidy-get name (object members) h = tidy-get_member name members h.1

tidy-inside : (name : List ℕ) (o : Option Data) → IfSome o IsTidy → IfSome (option_and_then (get name) o) IsTidy
tidy-inside name None h = tt
tidy-inside name (Some d) h = tidy-get name d h

written-found : (o : Option Data) → IfSome o IsTidy → IfSome (option_map type_of o) IsWrittenType
written-found None h = tt
written-found (Some d) h = written-type d h

-- ---- what has no fault

name_admitted : (b : Bool) → name_fault b ≡ None → b ≡ true
name_admitted true e = refl
name_admitted false e = absurd cc

-- the name of a member has no fault, nor has its value
record IsFaultless (l : Level) (key : List ℕ) (value : Data) : Type 0 where
  admitted : is_name l key ≡ true
  inside : option_map_or (λ form. value_fault form value) (member_form l key) None ≡ None

first_faultless : (l : Level) (key : List ℕ) (value : Data) (members : Members) → members_fault l (member key value members) ≡ None
    → IsFaultless l key value × (members_fault l members ≡ None)
unfolding value_fault
first_faultless l key value members e =
    let here = option_or (name_fault (is_name l key)) (option_map_or (λ form. value_fault form value) (member_form l key) None) in
    let parts = no_fault_either (option_map (under key) here) (members_fault l members) e in
    let both = no_fault_either (name_fault (is_name l key)) (option_map_or (λ form. value_fault form value) (member_form l key) None) (no_fault_under key here parts.0) in
    (record { admitted = name_admitted (is_name l key) both.0; inside = both.1 }, parts.1)

names_admitted : (l : Level) (members : Members) → members_fault l members ≡ None → AllByRecursion (λ name. is_name l name ≡ true) (keys members)
names_admitted l no_members e = tt
names_admitted l (member key value members) e = let parts = first_faultless l key value members e in (parts.0.admitted, names_admitted l members parts.1)

-- an object of this level, where it has to stand, has no fault
abbrev HasNoFault : Level → Data → Type 0
HasNoFault l d = value_fault (form.Object l) d ≡ None

object_members : (l : Level) (members : Members) → HasNoFault l (object members) → members_fault l members ≡ None
unfolding value_fault
object_members l members e = (no_fault_either (shape_fault (is_whole l members)) (members_fault l members) e).1

-- a value where this form has to stand
abbrev HasNone : Form → Data → Type 0
HasNone form d = value_fault form d ≡ None

-- the value of a member that has to be of this form
inside_faultless : (l : Level) (wanted : Form) (name key : List ℕ) (value : Data) → member_form l name ≡ Some wanted → IsFaultless l key value → bytes_eq name key ≡ true → HasNone wanted value
inside_faultless l wanted name key value is h same =
    let form_is : member_form l key ≡ Some wanted = ap (member_form l) (sym ((bytes_eq-Decides name key).0 same)) ∙ is in
    ap (λ (o : Option Form). option_map_or (λ f. value_fault f value) o None) (sym form_is) ∙ h.inside

-- the value at a member of this name, where this form has to stand
found_faultless : (l : Level) (wanted : Form) (name : List ℕ) (members : Members) → member_form l name ≡ Some wanted → members_fault l members ≡ None
    → IfSome (get_member name members) (HasNone wanted)
found_faultless l wanted name no_members is e = tt
found_faultless l wanted name (member key value members) is e =
    let parts = first_faultless l key value members e in
    rw (get_member-first name key value members)
    (either_found (HasNone wanted) (bytes_eq name key) value (get_member name members) (inside_faultless l wanted name key value is parts.0) (found_faultless l wanted name members is parts.1))

-- nothing stands where nothing may
nothing_stands : (d : Data) → HasNone form.Nothing d → ⊥
unfolding value_fault
nothing_stands null e = cc
nothing_stands (boolean truth) e = cc
nothing_stands (number n) e = cc
nothing_stands (string text) e = cc
nothing_stands (array items) e = cc
nothing_stands (object members) e = cc

not_found : (b : Bool) (value : Data) (later : Option Data) → (b ≡ true → ⊥) → later ≡ None → (if b then Some value else later) ≡ None
not_found true value later other is = absurd (other refl)
not_found false value later other is = is

absent : (l : Level) (name : List ℕ) (members : Members) → member_form l name ≡ Some form.Nothing → members_fault l members ≡ None → get_member name members ≡ None
absent l name no_members is e = refl
absent l name (member key value members) is e =
    let parts = first_faultless l key value members e in
    get_member-first name key value members
    ∙ not_found (bytes_eq name key) value (get_member name members) (λ same. nothing_stands value (inside_faultless l form.Nothing name key value is parts.0 same)) (absent l name members is parts.1)

found_in : (l inner : Level) (name : List ℕ) (d : Data) → member_form l name ≡ Some (form.Object inner) → HasNoFault l d → IfSome (get name d) (HasNoFault inner)
found_in l inner name null is e = tt
found_in l inner name (boolean truth) is e = tt
found_in l inner name (number n) is e = tt
found_in l inner name (string text) is e = tt
found_in l inner name (array items) is e = tt
found_in l inner name (object members) is e = found_faultless l (form.Object inner) name members is (object_members l members e)

-- ---- the names of declarations

abbrev names_of : List (List ℕ × Data) → List (List ℕ)
names_of = map (λ (e : List ℕ × Data). e.0)

names-entries : (members : Members) → names_of (entries members) ≡ keys members
names-entries no_members = refl
names-entries (member key value members) = ap (λ (names : List (List ℕ)). key ∷ names) (names-entries members)

-- the members of an object of this level, which may be absent
names_in : (l : Level) (o : Option Data) → IfSome o IsTidy → IfSome o (HasNoFault l) → AreNames l (names_of (entries_of o))
names_in l None t e = no_names l
names_in l (Some null) t e = no_names l
names_in l (Some (boolean truth)) t e = no_names l
names_in l (Some (number n)) t e = no_names l
names_in l (Some (string text)) t e = no_names l
names_in l (Some (array items)) t e = no_names l
names_in l (Some (object members)) t e =
    subst (AreNames l) (sym (names-entries members))
    (record { ascending = t.0.ascending; texts = t.0.texts; admitted = names_admitted l members (object_members l members e) })

-- the declarations have the names of their members
module _ {X : Type 0} (name : X → List ℕ) (make : List ℕ × Data → X) (named : (e : List ℕ × Data) → name (make e) ≡ e.0) where
  names-make : (es : List (List ℕ × Data)) → map name (map make es) ≡ names_of es
  names-make [] = refl
  names-make (e ∷ es) = λ i. named e i ∷ names-make es i

  names_made : (l : Level) (o : Option Data) → IfSome o IsTidy → IfSome o (HasNoFault l) → AreNames l (map name (map make (entries_of o)))
  names_made l o t e = subst (AreNames l) (sym (names-make (entries_of o))) (names_in l o t e)

-- ---- declarations

-- each member of an object of this level is of one form, and declares something
module _ {X : Type 0} (P : X → Type 0) (make : List ℕ × Data → X) (l : Level) (wanted : Form) (is : (name : List ℕ) → member_form l name ≡ Some wanted)
    (made : (e : List ℕ × Data) → IsTidy e.1 → HasNone wanted e.1 → P (make e)) where
  all_made : (members : Members) → AreTidyMembers members → members_fault l members ≡ None → AllByRecursion P (map make (entries members))
  all_made no_members t e = tt
  all_made (member key value members) t e =
      let parts = first_faultless l key value members e in
      let none : HasNone wanted value = ap (λ (o : Option Form). option_map_or (λ f. value_fault f value) o None) (sym (is key)) ∙ parts.0.inside in
      (made (key, value) t.0 none, all_made members t.1 parts.1)

  all_in : (o : Option Data) → IfSome o IsTidy → IfSome o (HasNoFault l) → AllByRecursion P (map make (entries_of o))
  all_in None t e = tt
  all_in (Some null) t e = tt
  all_in (Some (boolean truth)) t e = tt
  all_in (Some (number n)) t e = tt
  all_in (Some (string text)) t e = tt
  all_in (Some (array items)) t e = tt
  all_in (Some (object members)) t e = all_made members t.1 (object_members l members e)

-- ---- choices

-- a choice behind others is a text that none of them is
choice_text : (before : List Data) (d : Data) → HasNone (form_behind form.Choice before d) d → (text : List ℕ) × (d ≡ string text) × (list_any (is_text text) before ≡ false)
unfolding value_fault
choice_text before null e = absurd cc
choice_text before (boolean truth) e = absurd cc
choice_text before (number n) e = absurd cc
choice_text before (array items) e = absurd cc
choice_text before (object members) e = absurd cc
choice_text before (string text) e = (text, refl, at (list_any (is_text text) before) e) where
  at : (b : Bool) → HasNone (if b then form.Nothing else form.Choice) (string text) → b ≡ false
  at true h = absurd cc
  at false h = refl

abbrev ids_in : Items → List (List ℕ)
ids_in items = map (λ (d : Data). text_of (Some d)) (elements items)

abbrev AreNew : List Data → List (List ℕ) → Type 0
AreNew before ids = AllByRecursion (λ (id : List ℕ). list_any (is_text id) before ≡ false) ids

-- choices that stand behind others are texts, each once, and none of the others
record AreNewChoices (before : List Data) (ids : List (List ℕ)) : Type 0 where
  texts : AllByRecursion IsUtf8 ids
  distinct : IsDistinct bytes_eq ids
  fresh : AreNew before ids

-- no text behind these and one more is the one, or one of these
not_again : (before : List Data) (text id : List ℕ) → list_any (is_text id) (before ++ string text ∷ []) ≡ false → (list_any (is_text id) before ≡ false) × (bytes_eq text id ≡ false)
not_again before text id h =
    let both : (list_any (is_text id) before || (bytes_eq text id || false)) ≡ false = sym (list_any-append (is_text id) before (string text ∷ [])) ∙ h in
    (or_first (list_any (is_text id) before) (bytes_eq text id || false) both, or_first (bytes_eq text id) false (or_second (list_any (is_text id) before) (bytes_eq text id || false) both))

one_choice_more : (before : List Data) (text : List ℕ) (ids : List (List ℕ)) → IsUtf8 text → list_any (is_text text) before ≡ false → AreNewChoices (before ++ string text ∷ []) ids
    → AreNewChoices before (text ∷ ids)
unfolding IsDistinct
one_choice_more before text ids t new h = record {
  texts = (t, h.texts);
  distinct = (all_weaker (λ id. list_any (is_text id) (before ++ string text ∷ []) ≡ false) (λ id. bytes_eq text id ≡ false) (λ id none. (not_again before text id none).1) ids h.fresh, h.distinct);
  fresh = (new, all_weaker (λ id. list_any (is_text id) (before ++ string text ∷ []) ≡ false) (λ id. list_any (is_text id) before ≡ false) (λ id none. (not_again before text id none).0) ids h.fresh);
}

module _ (whole : Items) where
  new_choices : (items : Items) (before : List Data) (n : ℕ) → n ≡ length before → elements whole ≡ before ++ elements items → AreTidyItems items → items_fault (form_at form.Choice whole) n items ≡ None
      → AreNewChoices before (ids_in items)
  unfolding IsDistinct
  new_choices no_items before n count is t e = record { texts = tt; distinct = tt; fresh = tt }
  new_choices (item d items) before n count is t e =
      let parts = no_fault_item (form_at form.Choice whole) n d items e in
      let front : take n (elements whole) ≡ before = ap (λ (m : ℕ). take m (elements whole)) count ∙ (ap (take (length before)) is ∙ take-append_seam before (d ∷ elements items)) in
      let here = choice_text before d (subst (λ (ds : List Data). HasNone (form_behind form.Choice ds d) d) front parts.0) in
      let later = new_choices items (before ++ d ∷ []) (n + 1) (ap (λ (m : ℕ). m + 1) count ∙ sym (length_push before d)) (is ∙ sym (append_assoc before (d ∷ []) (elements items))) t.1 parts.1 in
      let text : ids_in (item d items) ≡ here.0 ∷ ids_in items = ap (λ (v : Data). text_of (Some v) ∷ ids_in items) here.1 in
      subst (AreNewChoices before) (sym text)
      (one_choice_more before here.0 (ids_in items) (subst IsTidy here.1 t.0) here.2 (subst (λ (v : Data). AreNewChoices (before ++ v ∷ []) (ids_in items)) here.1 later))

few_choices : (n : ℕ) (each : Form) → item_form form.Choices n ≡ Some each → (n ≤ 1000) × (each ≡ form.Choice)
few_choices n each = at (n == 0) (nat_lt 1000 n) refl where
  at : (a b : Bool) → nat_lt 1000 n ≡ b → (if a || b then None else Some form.Choice) ≡ Some each → (n ≤ 1000) × (each ≡ form.Choice)
  at true b is e = absurd cc
  at false true is e = absurd cc
  at false false is e = (ltb-false 1000 n is, cc)

-- a list of choices without a fault
choices_in : (d : Data) → IsTidy d → HasNone form.Choices d → AreWrittenChoices (texts_of (Some d))
unfolding value_fault
choices_in null t e = absurd cc
choices_in (boolean truth) t e = absurd cc
choices_in (number n) t e = absurd cc
choices_in (string text) t e = absurd cc
choices_in (object members) t e = absurd cc
choices_in (array items) t e = at (item_form form.Choices (length (elements items))) refl e where
  at : (o : Option Form) → item_form form.Choices (length (elements items)) ≡ o → option_map_or (λ each. items_fault (form_at each items) 0 items) o (shape_fault false) ≡ None
      → AreWrittenChoices (ids_in items)
  at None is none = absurd cc
  at (Some each) is none =
      let wanted = few_choices (length (elements items)) each is in
      let new = new_choices items items [] 0 refl refl t (subst (λ (f : Form). items_fault (form_at f items) 0 items ≡ None) wanted.1 none) in
      record { texts = new.texts; distinct = new.distinct; few = omega (arith, wanted.0, length-map (elements items) (λ (d : Data). text_of (Some d))) }

no_choices : AreWrittenChoices []
unfolding IsDistinct
no_choices = record { texts = tt; distinct = tt; few = omega arith }

enumerated_ids : (o : Option Data) → IfSome o IsTidy → IfSome o (HasNone form.Choices) → AreWrittenChoices (texts_of o)
enumerated_ids None t e = no_choices
enumerated_ids (Some d) t e = choices_in d t e

written-action : (e : List ℕ × Data) → IsTidy e.1 → HasNoFault level.Action e.1 → IfSome (action_of e).context IsWrittenType
written-action e t none = written-found (applies_to (codes "context") e.1) (tidy-inside (codes "context") (get (codes "appliesTo") e.1) (tidy-get (codes "appliesTo") e.1 t))

written-common_type : (e : List ℕ × Data) → IsTidy e.1 → HasNone (form.Type Elsewhere) e.1 → IsWrittenType (common_type_of e).body
written-common_type e t none = written-type e.1 t

-- what an entity type without a fault says of its choices
record IsEnumerated (d : Data) : Type 0 where
  ids : AreWrittenChoices (texts_of (get (codes "enum") d))
  bare : texts_of (get (codes "enum") d) ≢ [] → (get (codes "shape") d ≡ None) × (get (codes "tags") d ≡ None) × (get (codes "memberOfTypes") d ≡ None)

enumerated : (d : Data) → IsTidy d → HasNone form.EntityType d → IsEnumerated d
unfolding value_fault
enumerated null t e = record { ids = no_choices; bare = λ some. (refl, refl, refl) }
enumerated (boolean truth) t e = record { ids = no_choices; bare = λ some. (refl, refl, refl) }
enumerated (number n) t e = record { ids = no_choices; bare = λ some. (refl, refl, refl) }
enumerated (string text) t e = record { ids = no_choices; bare = λ some. (refl, refl, refl) }
enumerated (array items) t e = record { ids = no_choices; bare = λ some. (refl, refl, refl) }
enumerated (object members) t e = at (get_member (codes "enum") members) refl where
  none : members_fault (entity_level members) members ≡ None
  none = (no_fault_either (shape_fault (is_whole (entity_level members) members)) (members_fault (entity_level members) members) e).1

  at : (o : Option Data) → get_member (codes "enum") members ≡ o → IsEnumerated (object members)
  at None is = record { ids = subst (λ (o : Option Data). AreWrittenChoices (texts_of o)) (sym is) no_choices; bare = λ some. absurd (some (ap texts_of is)) }
  at (Some found) is =
      let level_is : entity_level members ≡ level.Enumerated = ap (λ (o : Option Data). if is_some o then level.Enumerated else level.EntityType) is in
      let inside : members_fault level.Enumerated members ≡ None = subst (λ (l : Level). members_fault l members ≡ None) level_is none in
      record {
        ids = enumerated_ids (get_member (codes "enum") members) (tidy-get_member (codes "enum") members t.1) (found_faultless level.Enumerated form.Choices (codes "enum") members refl inside);
        bare = λ some. (
          absent level.Enumerated (codes "shape") members refl inside,
          absent level.Enumerated (codes "tags") members refl inside,
          absent level.Enumerated (codes "memberOfTypes") members refl inside,
        );
      }

written-entity_type : (e : List ℕ × Data) → IsTidy e.1 → HasNone form.EntityType e.1 → IsWrittenEntityType (entity_type_of e)
written-entity_type e t none =
    let known = enumerated e.1 t none in
    record {
      shape_type = written-found (get (codes "shape") e.1) (tidy-get (codes "shape") e.1 t);
      tag_type = written-found (get (codes "tags") e.1) (tidy-get (codes "tags") e.1 t);
      ids = known.ids;
      bare = λ some. (let bare = known.bare some in record { attributes = ap (option_map type_of) bare.0; tagless = ap (option_map type_of) bare.1; apart = ap texts_of bare.2 });
    }

written-namespace : (name : List ℕ) (d : Data) → IsTidy d → HasNoFault level.Namespace d → IsWrittenNamespace (namespace_of (name, d))
written-namespace name d t e =
    let actions = tidy-get (codes "actions") d t in
    let commons = tidy-get (codes "commonTypes") d t in
    let types = tidy-get (codes "entityTypes") d t in
    let whole_actions = found_in level.Namespace level.Actions (codes "actions") d refl e in
    let whole_commons = found_in level.Namespace level.CommonTypes (codes "commonTypes") d refl e in
    let whole_types = found_in level.Namespace level.EntityTypes (codes "entityTypes") d refl e in
    record {
      ids = names_made (λ (a : WrittenAction). a.id) action_of (λ _. refl) level.Actions (get (codes "actions") d) actions whole_actions;
      common_names = names_made (λ (c : WrittenCommonType). c.name) common_type_of (λ _. refl) level.CommonTypes (get (codes "commonTypes") d) commons whole_commons;
      entity_names = names_made (λ (t : WrittenEntityType). t.name) entity_type_of (λ _. refl) level.EntityTypes (get (codes "entityTypes") d) types whole_types;
      each_action = all_in (λ (a : WrittenAction). IfSome a.context IsWrittenType) action_of level.Actions (form.Object level.Action) (λ _. refl) written-action (get (codes "actions") d) actions whole_actions;
      each_common = all_in (λ (c : WrittenCommonType). IsWrittenType c.body) common_type_of level.CommonTypes (form.Type Elsewhere) (λ _. refl) written-common_type (get (codes "commonTypes") d) commons whole_commons;
      each_entity = all_in IsWrittenEntityType entity_type_of level.EntityTypes form.EntityType (λ _. refl) written-entity_type (get (codes "entityTypes") d) types whole_types;
    }

written-namespaces : (members : Members) → AreTidyMembers members → members_fault level.Schema members ≡ None → AllByRecursion IsWrittenNamespace (map namespace_of (entries members))
written-namespaces no_members t e = tt
written-namespaces (member name value members) t e =
    let parts = first_faultless level.Schema name value members e in
    (written-namespace name value t.0 parts.0.inside, written-namespaces members t.1 parts.1)

written-schema : (d : Data) → IsTidy d → first_fault d ≡ None → IsWritten (schema_of d)
unfolding value_fault
written-schema null t e = absurd cc
written-schema (boolean truth) t e = absurd cc
written-schema (number n) t e = absurd cc
written-schema (string text) t e = absurd cc
written-schema (array items) t e = absurd cc
written-schema (object members) t e = record {
  names = names_made (λ (n : WrittenNamespace). n.name) namespace_of (λ _. refl) level.Schema (Some (object members)) t e;
  each_namespace = written-namespaces members t.1 (object_members level.Schema members e);
}

pub well_written : (bytes : List ℕ) (w : WrittenSchema) → Spells bytes w → IsWritten w
well_written bytes w s = subst IsWritten (sym s.meant) (written-schema s.d (tree_tidy bytes s.d s.tree) s.no_fault)
