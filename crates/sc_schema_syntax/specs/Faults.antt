-- The first fault of the form of a schema file, in a walk that takes the members of an object in the order of their
-- bytes and an object before its members.
use Rattle.std.specs.Prelude.{ℕ, ◌+◌, List, [], length, Bool, true, false, Option, Some, None, option_map}
use Rattle.std.specs.Option.{option_or, option_map_or}
use Rattle.std.specs.Fmt.{decimal}
use Rattle.serde_json.specs.Data.{Data, null, boolean, number, string, array, object, Items, no_items, item, Members, no_members, member}
use Rattle.sc_schema_syntax.specs.declared.fault.SchemaFault.{SchemaFault}
use Rattle.sc_schema_syntax.specs.declared.fault.SchemaFault.TheVariants.{BadShape, BadName}
use Rattle.sc_schema_syntax.specs.declared.form.Form.{Form}
use Rattle.sc_schema_syntax.specs.declared.form.Form.TheVariants.{Object}
use Rattle.sc_schema_syntax.specs.declared.level.Level.{Level}
use Rattle.sc_schema_syntax.specs.declared.level.Level.TheVariants.{Schema}
use Rattle.sc_schema_syntax.specs.Pointers.{under}
use Rattle.sc_schema_syntax.specs.Forms.{admits_truth, admits_text, item_form, elements, form_at, level_of, is_name, is_whole, member_form}

-- the fault that the value itself isn't of its form, unless it is
abbrev pub shape_fault : Bool → Option SchemaFault
shape_fault true = None
shape_fault false = Some (BadShape [])

-- the fault that the member can't have its name, unless it can
abbrev pub name_fault : Bool → Option SchemaFault
name_fault true = None
name_fault false = Some (BadName [])

unfoldable mutual
  -- the first fault of a value, where this form has to stand
  pub value_fault : Form → Data → Option SchemaFault
  value_fault form null = shape_fault false
  value_fault form (boolean truth) = shape_fault (admits_truth form truth)
  value_fault form (number n) = shape_fault false
  value_fault form (string text) = shape_fault (admits_text form text)
  value_fault form (array items) =
      option_map_or (λ each. items_fault (form_at each items) 0 items) (item_form form (length (elements items)))
      (shape_fault false)
  value_fault form (object members) =
      option_map_or (λ level. option_or (shape_fault (is_whole level members)) (members_fault level members))
      (level_of form members) (shape_fault false)

  -- the first fault of the items of a list from this number on, each of which has its form by its number
  pub items_fault : (ℕ → Data → Form) → ℕ → Items → Option SchemaFault
  items_fault form n no_items = None
  items_fault form n (item value items) =
      option_or (option_map (under (decimal n)) (value_fault (form n value) value)) (items_fault form (n + 1) items)

  -- the first fault of the members of an object
  pub members_fault : Level → Members → Option SchemaFault
  members_fault level no_members = None
  members_fault level (member key value members) =
      option_or
      (option_map (under key) (option_or (name_fault (is_name level key))
      (option_map_or (λ form. value_fault form value) (member_form level key) None)))
      (members_fault level members)

-- the first fault of a member: of its name, and then of its value, if that is looked at
abbrev pub member_fault : Level → List ℕ → Data → Option SchemaFault
member_fault level key value =
    option_or (name_fault (is_name level key))
    (option_map_or (λ form. value_fault form value) (member_form level key) None)

-- the first fault of a schema file with this tree
abbrev pub first_fault : Data → Option SchemaFault
first_fault = value_fault (Object Schema)
