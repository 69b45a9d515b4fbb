-- What the tree of a schema file says. What it is where the tree has a fault doesn't matter.
use Rattle.std.specs.Prelude.{ℕ, List, [], ◌∷◌, map, Bool, true, false, Option, Some, None, option_map, option_and_then, unwrap_or, if◌then◌else◌, codes}
use Rattle.std.specs.Str.{bytes_eq}
use Rattle.serde_json.specs.Data.{Data, null, boolean, number, string, array, object, Members, no_members, member}
use Rattle.serde_json.specs.Find.{get, get_member, as_bool, as_str, as_array, as_object}
use Rattle.sc_schema_syntax.specs.declared.attribute.WrittenPresence.{WrittenPresence}
use Rattle.sc_schema_syntax.specs.declared.attribute.WrittenPresence.TheVariants.{Required, Optional}
use Rattle.sc_schema_syntax.specs.declared.extension.ExtensionKind.{ExtensionKind}
use Rattle.sc_schema_syntax.specs.declared.extension.ExtensionKind.TheVariants.{Ipaddr, Decimal}
use Rattle.sc_schema_syntax.specs.declared.type_word.TypeWord.{TypeWord}
use Rattle.sc_schema_syntax.specs.declared.type_word.TypeWord.TheVariants as word
use Rattle.sc_schema_syntax.specs.declared.written_type.WrittenType.{WrittenType}
use Rattle.sc_schema_syntax.specs.declared.written_type.WrittenType.TheVariants as type
use Rattle.sc_schema_syntax.specs.declared.written_action.WrittenParent.{WrittenParent}
use Rattle.sc_schema_syntax.specs.declared.written_action.WrittenAction.{WrittenAction}
use Rattle.sc_schema_syntax.specs.declared.written_common_type.WrittenCommonType.{WrittenCommonType}
use Rattle.sc_schema_syntax.specs.declared.written_entity_type.WrittenEntityType.{WrittenEntityType}
use Rattle.sc_schema_syntax.specs.declared.written_namespace.WrittenNamespace.{WrittenNamespace}
use Rattle.sc_schema_syntax.specs.declared.written_schema.WrittenSchema.{WrittenSchema}
use Rattle.sc_schema_syntax.specs.Forms.{elements}
use Rattle.sc_schema_syntax.specs.TypeWords.{type_word}

-- ---- parts of a tree, each of which may be absent

abbrev pub entries : Members → List (List ℕ × Data)
entries no_members = []
entries (member key value members) = (key, value) ∷ entries members

-- the members of an object, by their names
abbrev pub entries_of : Option Data → List (List ℕ × Data)
entries_of value = unwrap_or (option_map entries (option_and_then as_object value)) []

-- the items of a list
abbrev pub elements_of : Option Data → List Data
elements_of value = unwrap_or (option_map elements (option_and_then as_array value)) []

abbrev pub text_of : Option Data → List ℕ
text_of value = unwrap_or (option_and_then as_str value) []

abbrev pub texts_of : Option Data → List (List ℕ)
texts_of value = map (λ d. text_of (Some d)) (elements_of value)

-- ---- types

abbrev pub extension_of : List ℕ → ExtensionKind
extension_of name = if bytes_eq name (codes "ipaddr") then Ipaddr else Decimal

-- an attribute is required, unless its member `required` is false
abbrev pub presence_of : Option Bool → WrittenPresence
presence_of None = Required
presence_of (Some true) = Required
presence_of (Some false) = Optional

-- the type with this word, whose member `name` is a text, whose member `element` is a type, and whose member
-- `attributes` are attributes; the word itself names a common type, if it has no other meaning
abbrev pub type_by : TypeWord → List ℕ → List ℕ → WrittenType → List (List ℕ × WrittenPresence × WrittenType)
    → WrittenType
type_by word.Boolean w name element attributes = type.Boolean
type_by word.Long w name element attributes = type.Long
type_by word.String w name element attributes = type.String
type_by word.Set w name element attributes = type.Set element
type_by word.Record w name element attributes = type.Record attributes
type_by word.Entity w name element attributes = type.Entity name
type_by word.Extension w name element attributes = type.Extension (extension_of name)
type_by word.EntityOrCommon w name element attributes = type.EntityOrCommon name
type_by word.Common w name element attributes = type.Common w

abbrev pub type_with : List ℕ → List ℕ → WrittenType → List (List ℕ × WrittenPresence × WrittenType) → WrittenType
type_with w = type_by (type_word w) w

unfoldable mutual
  pub type_of : Data → WrittenType
  type_of null = type.Common []
  type_of (boolean truth) = type.Common []
  type_of (number n) = type.Common []
  type_of (string text) = type.Common []
  type_of (array items) = type.Common []
  type_of (object members) =
      type_with (text_of (get_member (codes "type") members)) (text_of (get_member (codes "name") members))
      (element_in members) (attributes_in members)

  -- the type at the member `element`
  pub element_in : Members → WrittenType
  element_in no_members = type.Common []
  element_in (member key value members) = if bytes_eq (codes "element") key then type_of value else element_in members

  -- the attributes at the member `attributes`
  pub attributes_in : Members → List (List ℕ × WrittenPresence × WrittenType)
  attributes_in no_members = []
  attributes_in (member key value members) = if bytes_eq (codes "attributes") key then attributes_of value
      else attributes_in members

  pub attributes_of : Data → List (List ℕ × WrittenPresence × WrittenType)
  attributes_of null = []
  attributes_of (boolean truth) = []
  attributes_of (number n) = []
  attributes_of (string text) = []
  attributes_of (array items) = []
  attributes_of (object members) = attributes_from members

  pub attributes_from : Members → List (List ℕ × WrittenPresence × WrittenType)
  attributes_from no_members = []
  attributes_from (member name value members) =
      (name, presence_of (option_and_then as_bool (get (codes "required") value)), type_of value)
      ∷ attributes_from members

abbrev pub type_at : Option Data → WrittenType
type_at value = unwrap_or (option_map type_of value) (type.Common [])

abbrev pub attributes_at : Option Data → List (List ℕ × WrittenPresence × WrittenType)
attributes_at value = unwrap_or (option_map attributes_of value) []

-- ---- declarations

abbrev pub entity_type_of : List ℕ × Data → WrittenEntityType
entity_type_of (name, d) =
    record {
      name = name;
      parents = texts_of (get (codes "memberOfTypes") d);
      shape = option_map type_of (get (codes "shape") d);
      tags = option_map type_of (get (codes "tags") d);
      choices = texts_of (get (codes "enum") d);
    }

abbrev pub parent_of : Data → WrittenParent
parent_of d =
    record {
      id = text_of (get (codes "id") d);
      type_name = option_and_then as_str (get (codes "type") d);
    }

-- what an action says of the requests that it is for
abbrev pub applies_to : List ℕ → Data → Option Data
applies_to key d = option_and_then (get key) (get (codes "appliesTo") d)

abbrev pub action_of : List ℕ × Data → WrittenAction
action_of (id, d) =
    record {
      id = id;
      parents = map parent_of (elements_of (get (codes "memberOf") d));
      principals = texts_of (applies_to (codes "principalTypes") d);
      resources = texts_of (applies_to (codes "resourceTypes") d);
      context = option_map type_of (applies_to (codes "context") d);
    }

abbrev pub common_type_of : List ℕ × Data → WrittenCommonType
common_type_of (name, d) = record { name = name; body = type_of d }

abbrev pub namespace_of : List ℕ × Data → WrittenNamespace
namespace_of (name, d) =
    record {
      name = name;
      actions = map action_of (entries_of (get (codes "actions") d));
      common_types = map common_type_of (entries_of (get (codes "commonTypes") d));
      entity_types = map entity_type_of (entries_of (get (codes "entityTypes") d));
    }

abbrev pub schema_of : Data → WrittenSchema
schema_of d = record { namespaces = map namespace_of (entries_of (Some d)) }
