-- The type that a tree says, by its members.
use Rattle.std.proofs.Common.{◌≡◌, ◌∙◌, ℕ, List, [], ◌∷◌, ◌++◌, append_assoc, append-nil, Bool, true, false, Option, Some, None, Ordering, Less, Equal, Greater, codes, refl, sym, ap}
use Rattle.std.specs.Prelude.{if◌then◌else◌, option_and_then}
use Rattle.std.specs.Ordering.{nat_cmp, match_ordering, is_eq}
use Rattle.std.specs.Cmp.Lexicographic.{slice_cmp}
use Rattle.std.specs.Str.{bytes_eq}
use Rattle.std.proofs.lemmas.Map.Text.{is_eq-slice_cmp}
use Rattle.serde_json.specs.Data.{Data, null, boolean, number, string, array, object, Members, no_members, member}
use Rattle.serde_json.specs.Find.{get, get_member, as_bool, as_object}
use Rattle.sc_schema_syntax.specs.declared.type_word.TypeWord.{TypeWord}
use Rattle.sc_schema_syntax.specs.declared.written_type.WrittenType.{WrittenType}
use Rattle.sc_schema_syntax.specs.TypeWords.{type_word}
use Rattle.sc_schema_syntax.specs.declared.attribute.WrittenPresence.{WrittenPresence}
use Rattle.sc_schema_syntax.specs.Written.{text_of, presence_of, type_by, type_with, type_of, attributes_of, attributes_from, element_in, attributes_in, type_at, attributes_at}

either : (o : Ordering) (found : Data) (later : Option Data) → match_ordering o later (Some found) later ≡ (if is_eq o then Some found else later)
either Less found later = refl
either Equal found later = refl
either Greater found later = refl

-- a look-up takes the first member of the name
pub get_member-first : (name key : List ℕ) (value : Data) (members : Members) → get_member name (member key value members) ≡ (if bytes_eq name key then Some value else get_member name members)
get_member-first name key value members = either (slice_cmp nat_cmp name key) value (get_member name members) ∙ rw (is_eq-slice_cmp name key) refl

type_at-first : (b : Bool) (value : Data) (t : WrittenType) (later : Option Data) → t ≡ type_at later → (if b then type_of value else t) ≡ type_at (if b then Some value else later)
type_at-first true value t later is = refl
type_at-first false value t later is = is

element_in-get : (members : Members) → element_in members ≡ type_at (get_member (codes "element") members)
unfolding type_of
element_in-get no_members = refl
element_in-get (member key value members) =
    rw (get_member-first (codes "element") key value members)
    (type_at-first (bytes_eq (codes "element") key) value (element_in members) (get_member (codes "element") members) (element_in-get members))

abbrev Attributes : Type 0
Attributes = List (List ℕ × WrittenPresence × WrittenType)

attributes_at-first : (b : Bool) (value : Data) (xs : Attributes) (later : Option Data) → xs ≡ attributes_at later
    → (if b then attributes_of value else xs) ≡ attributes_at (if b then Some value else later)
attributes_at-first true value xs later is = refl
attributes_at-first false value xs later is = is

attributes_in-get : (members : Members) → attributes_in members ≡ attributes_at (get_member (codes "attributes") members)
unfolding type_of
attributes_in-get no_members = refl
attributes_in-get (member key value members) =
    rw (get_member-first (codes "attributes") key value members)
    (attributes_at-first (bytes_eq (codes "attributes") key) value (attributes_in members) (get_member (codes "attributes") members) (attributes_in-get members))

-- the type that a tree says, whatever the tree is
type_of-get : (d : Data)
    → type_of d ≡ type_with (text_of (get (codes "type") d)) (text_of (get (codes "name") d)) (type_at (get (codes "element") d)) (attributes_at (get (codes "attributes") d))
unfolding type_of
type_of-get null = refl
type_of-get (boolean truth) = refl
type_of-get (number n) = refl
type_of-get (string text) = refl
type_of-get (array items) = refl
type_of-get (object members) = rw (element_in-get members, attributes_in-get members) refl

-- the same, the word and its meaning being known
pub type_of_word : (d : Data) (w : TypeWord) (text : List ℕ) (found : Option Data) → w ≡ type_word text → text ≡ text_of found → found ≡ get (codes "type") d
    → type_by w text (text_of (get (codes "name") d)) (type_at (get (codes "element") d)) (attributes_at (get (codes "attributes") d)) ≡ type_of d
type_of_word d w text found means is at_type =
    let name = text_of (get (codes "name") d) in
    let element = type_at (get (codes "element") d) in
    let attributes = attributes_at (get (codes "attributes") d) in
    let word : text ≡ text_of (get (codes "type") d) = is ∙ ap text_of at_type in
    ap (λ (v : TypeWord). type_by v text name element attributes) means
    ∙ (ap (λ (t : List ℕ). type_with t name element attributes) word ∙ sym (type_of-get d))

-- ---- the attributes so far, and those to come

pub object_is : (d : Data) (ms : Members) → Some ms ≡ as_object d → d ≡ object ms
object_is null ms is = absurd cc
object_is (boolean truth) ms is = absurd cc
object_is (number n) ms is = absurd cc
object_is (string text) ms is = absurd cc
object_is (array items) ms is = absurd cc
object_is (object found) ms is = cc

pub no_attributes : (d : Data) (xs : Attributes) → xs ≡ [] → None ≡ as_object d → xs ≡ attributes_of d
unfolding type_of
no_attributes null xs none is = none
no_attributes (boolean truth) xs none is = none
no_attributes (number n) xs none is = none
no_attributes (string text) xs none is = none
no_attributes (array items) xs none is = none
no_attributes (object found) xs none is = absurd cc

pub attributes_start : (d : Data) (ms : Members) (xs : Attributes) → xs ≡ [] → d ≡ object ms → xs ++ attributes_from ms ≡ attributes_of d
unfolding type_of
attributes_start d ms xs none is = rw (none, is) refl

pub attributes_next : (d : Data) (xs new : Attributes) (key : List ℕ) (value : Data) (ms : Members) (name : List ℕ) (presence : WrittenPresence) (type : WrittenType)
    → name ≡ key → presence ≡ presence_of (option_and_then as_bool (get (codes "required") value)) → type ≡ type_of value
    → new ≡ xs ++ (name, presence, type) ∷ []
    → xs ++ attributes_from (member key value ms) ≡ attributes_of d → new ++ attributes_from ms ≡ attributes_of d
unfolding type_of
attributes_next d xs new key value ms name presence type is_key is_presence is_type pushed so_far =
    rw (pushed, is_key, is_presence, is_type, append_assoc) so_far

pub attributes_end : (d : Data) (xs : Attributes) → xs ++ attributes_from no_members ≡ attributes_of d → xs ≡ attributes_of d
unfolding type_of
attributes_end d xs so_far = sym (append-nil xs) ∙ so_far
