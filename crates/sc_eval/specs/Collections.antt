-- Sets and records of values.
use Rattle.std.specs.Prelude.{ℕ, List, [], fold, Bool}
use Rattle.std.specs.List.{list_any}
use Rattle.std.specs.Ordering.{is_eq}
use Rattle.std.specs.BTreeMap.{insert_entry}
use Rattle.std.specs.BTreeSet.{insert_key}
use Rattle.sc_names.specs.Uids.{text_cmp}
use Rattle.sc_values.specs.declared.value.Value.{Value}
use Rattle.sc_values.specs.declared.value.Value.TheVariants as value
use Rattle.sc_values.specs.Order.{value_cmp}
use Rattle.sc_values.specs.Records.{Fields}

-- two values are one; values of two kinds never are
abbrev pub is_same : Value → Value → Bool
is_same x y = is_eq (value_cmp x y)

abbrev pub is_member : List Value → Value → Bool
is_member members x = list_any (is_same x) members

-- the members one after the other, each put in its place in the order of values unless it is there
abbrev pub members_of : List Value → List Value
members_of values = fold (insert_key value_cmp) [] values

abbrev pub set_value : List Value → Value
set_value values = value.Set (members_of values)

abbrev pub with_field : Fields → List ℕ × Value → Fields
with_field fields f = insert_entry text_cmp fields f.0 f.1

-- the fields one after the other, each put in its place in the order of names; of two fields of one name the last stays
abbrev pub fields_of : Fields → Fields
fields_of pairs = fold with_field [] pairs

abbrev pub record_value : Fields → Value
record_value pairs = value.Record (fields_of pairs)
