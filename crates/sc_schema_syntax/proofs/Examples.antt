-- Files, and what they say or the faults that they have.
use Rattle.std.proofs.Common.{◌≡◌, arith, [], ◌∷◌, Some, None, true, codes, refl}
use lib.Utf8.{encode}
use Rattle.serde_json.specs.Data.{Data, boolean, string, array, object, no_items, no_members, member}
use Rattle.serde_json.proofs.OnLiterals.{serde_json_on_literals}
use Rattle.sc_json.specs.Steps.{to_member, to_item, pointer, first_member}
use Rattle.sc_json.specs.Trees.{no_tree, in_tree}
use Rattle.sc_names.specs.Paths.{parts}
use Rattle.sc_schema_syntax.specs.declared.fault.SchemaFault.TheVariants.{NotJson, BadShape, BadName}
use Rattle.sc_schema_syntax.specs.declared.written_schema.WrittenSchema.{WrittenSchema}
use Rattle.sc_schema_syntax.specs.declared.written_type.WrittenType.TheVariants as type
use Rattle.sc_json.specs.Pointers.{escaped}
use Rattle.sc_schema_syntax.specs.Faults.{value_fault}
use Rattle.sc_schema_syntax.specs.declared.form.Form.TheVariants.{Object}
use Rattle.sc_schema_syntax.specs.declared.level.Level.TheVariants.{Schema}
use Rattle.sc_schema_syntax.specs.Places.{Kind, bad_name as of_name, bad_shape, misshapen, in_member, misnamed, in_value, SchemaFaultAt, IsBefore, name_first, outside, earlier, further}
use Rattle.sc_schema_syntax.specs.Written.{type_of}
use Rattle.sc_schema_syntax.specs.Syntax.{Spells, HasFault}

-- an object that isn't closed
unclosed : HasFault (codes "{") NotJson
unfolding serde_json_on_literals
unclosed = no_tree (λ d h. let none : None ≡ Some d = h.tree in cc)

-- the root is no object
no_object : HasFault (codes "[]") (BadShape [])
unfolding serde_json_on_literals value_fault encode
no_object = in_tree (array no_items) (BadShape []) (record { text = (codes "[]", (refl, refl)); tree = refl }) refl

-- a name comes before the value that it names, and is escaped in a path
bad_name : HasFault (codes "{\"a/~\":[]}") (BadName (codes "/a~1~0"))
unfolding serde_json_on_literals value_fault escaped encode parts
bad_name =
    in_tree (object (member (codes "a/~") (array no_items) no_members)) (BadName (codes "/a~1~0"))
    (record { text = (codes "{\"a/~\":[]}", (refl, refl)); tree = refl }) refl

-- {"":{"entityTypes":{"U":{"shape":{"type":"Record","attributes":{},"additionalAttributes":true}}}}}
open_record : Data
open_record =
    object (member [] (object (member (codes "entityTypes") (object (member (codes "U") (object (member (codes "shape") (object
    (member (codes "additionalAttributes") (boolean true)
    (member (codes "attributes") (object no_members)
    (member (codes "type") (string (codes "Record")) no_members)))) no_members)) no_members)) no_members)) no_members)

-- records have no attributes but those that are declared
no_open_record : HasFault (codes "{\"\":{\"entityTypes\":{\"U\":{\"shape\":{\"type\":\"Record\",\"attributes\":{},\"additionalAttributes\":true}}}}}") (BadShape (codes "//entityTypes/U/shape/additionalAttributes"))
unfolding serde_json_on_literals value_fault escaped encode parts open_record
no_open_record =
    in_tree open_record (BadShape (codes "//entityTypes/U/shape/additionalAttributes"))
    (record { text = (codes "{\"\":{\"entityTypes\":{\"U\":{\"shape\":{\"type\":\"Record\",\"attributes\":{},\"additionalAttributes\":true}}}}}", (refl, refl)); tree = refl }) refl

-- {"N":{"commonTypes":{"T":{"type":"Set","element":{"type":"U"}}}}}
set_type : Data
set_type =
    object (member (codes "N") (object (member (codes "commonTypes") (object (member (codes "T") (object
    (member (codes "element") (object (member (codes "type") (string (codes "U")) no_members))
    (member (codes "type") (string (codes "Set")) no_members))) no_members)) no_members)) no_members)

-- one namespace, which declares one common type
set_schema : WrittenSchema
set_schema = record {
  namespaces = record {
    name = codes "N";
    actions = [];
    common_types = record { name = codes "T"; body = type.Set (type.Common (codes "U")) } ∷ [];
    entity_types = [];
  } ∷ [];
}

spelled : Spells (codes "{\"N\":{\"commonTypes\":{\"T\":{\"type\":\"Set\",\"element\":{\"type\":\"U\"}}}}}") set_schema
unfolding serde_json_on_literals value_fault type_of encode parts set_type set_schema
spelled = record {
  d = set_type;
  tree = record { text = (codes "{\"N\":{\"commonTypes\":{\"T\":{\"type\":\"Set\",\"element\":{\"type\":\"U\"}}}}}", (refl, refl)); tree = refl };
  no_fault = refl;
  meant = refl;
}

-- ---- places of faults

named_list : Data
named_list = object (member (codes "a/~") (array no_items) no_members)

-- the namespace has a name that can't be declared, and is no object
misnamed_namespace : SchemaFaultAt named_list of_name (to_member (codes "a/~") ∷ [])
unfolding named_list parts
misnamed_namespace =
    in_member (Object Schema) Schema (member (codes "a/~") (array no_items) no_members) (codes "a/~") (array no_items) of_name [] refl
    (first_member (codes "a/~") (array no_items) no_members) (misnamed Schema (codes "a/~") (array no_items) refl)

misshapen_namespace : SchemaFaultAt named_list bad_shape (to_member (codes "a/~") ∷ [])
unfolding named_list parts
misshapen_namespace =
    in_member (Object Schema) Schema (member (codes "a/~") (array no_items) no_members) (codes "a/~") (array no_items) bad_shape [] refl
    (first_member (codes "a/~") (array no_items) no_members) (in_value Schema (codes "a/~") _ (array no_items) bad_shape [] refl (misshapen _ (array no_items) refl))

-- the name comes first
name_before_value : IsBefore of_name (to_member (codes "a/~") ∷ []) bad_shape (to_member (codes "a/~") ∷ [])
name_before_value = further of_name bad_shape (to_member (codes "a/~")) [] [] name_first

-- capitals before small letters, item 2 before item 10, and an object before what is in it
capitals_first : (k l : Kind) → IsBefore k (to_member (codes "Z") ∷ to_member (codes "a") ∷ []) l (to_member (codes "a") ∷ [])
capitals_first k l = earlier k l (to_member (codes "Z")) (to_member (codes "a")) (to_member (codes "a") ∷ []) [] refl

by_number : (k l : Kind) → IsBefore k (to_item 2 ∷ []) l (to_item 10 ∷ [])
by_number k l = earlier k l (to_item 2) (to_item 10) [] [] (omega arith)

object_first : (k l : Kind) → IsBefore k [] l (to_member (codes "a") ∷ [])
object_first k l = outside k l (to_member (codes "a")) []

-- slashes and tildes are escaped
escaped_pointer : pointer (to_member (codes "a/~") ∷ to_member [] ∷ []) ≡ codes "/a~1~0/"
unfolding escaped
escaped_pointer = refl
