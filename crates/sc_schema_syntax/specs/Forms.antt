-- What may stand at each place of a schema file (Cedar's JSON schema format).
use Rattle.std.specs.Prelude.{ℕ, List, [], ◌∷◌, ◌++◌, length, take, ◌==◌, nat_lt, ◌&&◌, ◌||◌, Bool, true, false, not, Option, Some, None, option_map, option_and_then, is_some, if◌then◌else◌, codes}
use Rattle.std.specs.List.{list_any}
use Rattle.std.specs.Option.{option_map_or}
use Rattle.std.specs.Str.{bytes_eq}
use Rattle.serde_json.specs.Data.{Data, Items, no_items, item, Members, no_members, member}
use Rattle.serde_json.specs.Find.{get_member, as_str}
use Rattle.sc_names.specs.Names.{is_ident}
use Rattle.sc_names.specs.Paths.{is_path}
use Rattle.sc_schema_syntax.specs.declared.form.Form.{Form}
use Rattle.sc_schema_syntax.specs.declared.form.Form.TheVariants as form
use Rattle.sc_schema_syntax.specs.declared.level.Level.{Level}
use Rattle.sc_schema_syntax.specs.declared.level.Level.TheVariants as level
use Rattle.sc_schema_syntax.specs.declared.position.Position.{Position}
use Rattle.sc_schema_syntax.specs.declared.position.Position.TheVariants.{Attribute, Elsewhere}
use Rattle.sc_schema_syntax.specs.declared.type_word.TypeWord.{TypeWord}
use Rattle.sc_schema_syntax.specs.declared.type_word.TypeWord.TheVariants as word
use Rattle.sc_schema_syntax.specs.TypeWords.{type_word, is_reserved, is_extension}

-- ---- what each kind of value may be

abbrev pub admits_truth : Form → Bool → Bool
admits_truth form.Truth truth = true
admits_truth form.False truth = not truth
admits_truth _ truth = false

abbrev pub admits_text : Form → List ℕ → Bool
admits_text form.Text text = true
admits_text form.Choice text = true
admits_text form.ExtensionName text = is_extension text
admits_text _ text = false

-- how many choices an enumerated type may have at most
abbrev pub most_choices : ℕ
most_choices = 1000

-- what each item of a list has to be, if a list of so many items may stand there; there is at least one choice
abbrev pub item_form : Form → ℕ → Option Form
item_form form.Texts count = Some form.Text
item_form form.Parents count = Some (form.Object level.Parent)
item_form form.Choices count = if (count == 0) || nat_lt most_choices count then None else Some form.Choice
item_form _ count = None

abbrev pub elements : Items → List Data
elements no_items = []
elements (item value items) = value ∷ elements items

-- a value is this text
abbrev pub is_text : List ℕ → Data → Bool
is_text text value = option_map_or (λ other. bytes_eq other text) (as_str value) false

-- a value is a text that one of the values before it is
abbrev pub is_repeated : List Data → Data → Bool
is_repeated before value = option_map_or (λ text. list_any (is_text text) before) (as_str value) false

-- what an item behind these has to be: no choice is wanted twice
abbrev pub form_behind : Form → List Data → Data → Form
form_behind form.Choice before value = if is_repeated before value then form.Nothing else form.Choice
form_behind each before value = each

-- what the item with this number has to be, by the items before it
abbrev pub form_at : Form → Items → ℕ → Data → Form
form_at each items n = form_behind each (take n (elements items))

-- the word of a type, if it is a text
abbrev pub word_of : Members → Option TypeWord
word_of ms = option_map type_word (option_and_then as_str (get_member (codes "type") ms))

-- an entity type that has `enum` is enumerated
abbrev pub entity_level : Members → Level
entity_level ms = if is_some (get_member (codes "enum") ms) then level.Enumerated else level.EntityType

-- which object has to stand there, if one may
abbrev pub level_of : Form → Members → Option Level
level_of (form.Object level) ms = Some level
level_of form.EntityType ms = Some (entity_level ms)
level_of (form.Type position) ms = Some (level.Type position (word_of ms))
level_of _ ms = None

-- ---- the names of members

-- whether a member may have the name, where members are declarations: namespaces have paths or the empty text, entity
-- types and common types have identifiers
abbrev pub is_name : Level → List ℕ → Bool
is_name level.Schema name = is_path name || (length name == 0)
is_name level.EntityTypes name = is_ident name && not (bytes_eq name (codes "Action"))
is_name level.CommonTypes name = is_ident name && not (is_reserved name)
is_name _ name = true

-- the member that a type with this word has to have
abbrev pub required_by : TypeWord → Option (List ℕ)
required_by word.Set = Some (codes "element")
required_by word.Record = Some (codes "attributes")
required_by word.Entity = Some (codes "name")
required_by word.Extension = Some (codes "name")
required_by word.EntityOrCommon = Some (codes "name")
required_by _ = None

-- the member that an object has to have
abbrev pub required : Level → Option (List ℕ)
required level.Parent = Some (codes "id")
required (level.Type position None) = Some (codes "type")
required (level.Type position (Some w)) = required_by w
required _ = None

abbrev pub is_empty : Members → Bool
is_empty no_members = true
is_empty (member key value ms) = false

-- whether an object has the member that it has to have; no attributes of actions are read
abbrev pub is_whole : Level → Members → Bool
is_whole level.NoAttributes ms = is_empty ms
is_whole l ms = option_map_or (λ key. is_some (get_member key ms)) (required l) true

-- ---- what stands at each member

-- members of these names and no others
abbrev pub among : List (List ℕ × Form) → List ℕ → Form
among [] key = form.Nothing
among (m ∷ ms) key = if bytes_eq key m.0 then m.1 else among ms key

-- annotations aren't looked at
abbrev pub fixed : List (List ℕ × Form) → List ℕ → Option Form
fixed admitted key = if bytes_eq key (codes "annotations") then None else Some (among admitted key)

abbrev pub namespace_members : List (List ℕ × Form)
namespace_members =
    (codes "actions", form.Object level.Actions)
    ∷ (codes "commonTypes", form.Object level.CommonTypes)
    ∷ (codes "entityTypes", form.Object level.EntityTypes) ∷ []

abbrev pub entity_type_members : List (List ℕ × Form)
entity_type_members =
    (codes "memberOfTypes", form.Texts)
    ∷ (codes "shape", form.Type Elsewhere)
    ∷ (codes "tags", form.Type Elsewhere) ∷ []

abbrev pub enumerated_members : List (List ℕ × Form)
enumerated_members = (codes "enum", form.Choices) ∷ []

abbrev pub action_members : List (List ℕ × Form)
action_members =
    (codes "appliesTo", form.Object level.AppliesTo)
    ∷ (codes "attributes", form.Object level.NoAttributes)
    ∷ (codes "memberOf", form.Parents) ∷ []

abbrev pub parent_members : List (List ℕ × Form)
parent_members = (codes "id", form.Text) ∷ (codes "type", form.Text) ∷ []

abbrev pub applies_to_members : List (List ℕ × Form)
applies_to_members =
    (codes "context", form.Type Elsewhere)
    ∷ (codes "principalTypes", form.Texts)
    ∷ (codes "resourceTypes", form.Texts) ∷ []

abbrev pub word_members : TypeWord → List (List ℕ × Form)
word_members word.Set = (codes "element", form.Type Elsewhere) ∷ []
word_members word.Record = (codes "attributes", form.Object level.Attributes)
    ∷ (codes "additionalAttributes", form.False) ∷ []
word_members word.Entity = (codes "name", form.Text) ∷ []
word_members word.Extension = (codes "name", form.ExtensionName) ∷ []
word_members word.EntityOrCommon = (codes "name", form.Text) ∷ []
word_members _ = []

abbrev pub position_members : Position → List (List ℕ × Form)
position_members Attribute = (codes "required", form.Truth) ∷ []
position_members Elsewhere = []

-- whose word isn't a text: no other member is looked at
abbrev pub unread_type_member : List ℕ → Option Form
unread_type_member key = if bytes_eq key (codes "type") then Some form.Text else None

abbrev pub type_member : Position → Option TypeWord → List ℕ → Option Form
type_member position None = unread_type_member
type_member position (Some w) = fixed ((codes "type", form.Text) ∷ (position_members position ++ word_members w))

-- what has to stand at a member, if it is looked at
abbrev pub member_form : Level → List ℕ → Option Form
member_form level.Schema key = Some (form.Object level.Namespace)
member_form level.Namespace key = fixed namespace_members key
member_form level.EntityTypes key = Some form.EntityType
member_form level.EntityType key = fixed entity_type_members key
member_form level.Enumerated key = fixed enumerated_members key
member_form level.Actions key = Some (form.Object level.Action)
member_form level.Action key = fixed action_members key
member_form level.Parent key = fixed parent_members key
member_form level.AppliesTo key = fixed applies_to_members key
member_form level.NoAttributes key = Some form.Nothing
member_form level.CommonTypes key = Some (form.Type Elsewhere)
member_form level.Attributes key = Some (form.Type Attribute)
member_form (level.Type position w) key = type_member position w key
