-- The first place of a world's JSON that isn't of the form, in a walk that takes the members of an object in the
-- order of their bytes and an object before its members.
use Rattle.std.specs.Prelude.{ℕ, ◌+◌, List, [], ◌∷◌, Bool, true, false, not, Option, Some, None, option_map, option_and_then, codes}
use Rattle.std.specs.Option.{option_or, option_map_or}
use Rattle.std.specs.BTreeSet.{insert_key}
use Rattle.std.specs.Fmt.{decimal}
use Rattle.serde_json.specs.Data.{Data, null, boolean, number, string, array, object, Items, no_items, item, Members, no_members, member}
use Rattle.serde_json.specs.Find.{get, as_array, as_object}
use Rattle.sc_lists.specs.Ordered.{is_in}
use Rattle.sc_names.specs.declared.uid.Uid.{Uid}
use Rattle.sc_names.specs.Uids.{uid_cmp}
use Rattle.sc_json.specs.Pointers.{below}
use Rattle.sc_world_json.specs.declared.fault.WorldFault.{WorldFault}
use Rattle.sc_world_json.specs.declared.fault.WorldFault.TheVariants.{NotJson, BadWorld}
use Rattle.sc_world_json.specs.declared.form.Form.{Form}
use Rattle.sc_world_json.specs.declared.form.Form.TheVariants.{Object}
use Rattle.sc_world_json.specs.declared.level.Level.{Level}
use Rattle.sc_world_json.specs.declared.level.Level.TheVariants.{Entity, Request}
use Rattle.sc_world_json.specs.Forms.{admits_truth, admits_number, admits_text, item_form, level_of, has_just, has_members, member_form}
use Rattle.sc_world_json.specs.Worlds.{uid_of}

-- the fault that a value itself isn't of its form, unless it is
abbrev pub fault_unless : Bool → Option WorldFault
fault_unless true = None
fault_unless false = Some (BadWorld [])

-- the fault of a value, as one of the value whose member or item it is
abbrev pub under : List ℕ → WorldFault → WorldFault
under key NotJson = NotJson
under key (BadWorld path) = BadWorld (below key path)

-- ---- the parts of a world

unfoldable mutual
  -- the first fault of a value, where this form has to stand
  pub value_fault : Form → Data → Option WorldFault
  value_fault form null = fault_unless false
  value_fault form (boolean truth) = fault_unless (admits_truth form)
  value_fault form (number n) = fault_unless (admits_number form n)
  value_fault form (string text) = fault_unless (admits_text form text)
  value_fault form (array ds) = option_map_or (λ each. items_fault each 0 ds) (item_form form) (fault_unless false)
  value_fault form (object ms) =
      option_map_or (λ level. option_or (fault_unless (has_members level ms)) (members_fault level ms))
      (level_of form ms) (fault_unless false)

  -- the first fault of the items of a list from this number on
  pub items_fault : Form → ℕ → Items → Option WorldFault
  items_fault form n no_items = None
  items_fault form n (item d ds) =
      option_or (option_map (under (decimal n)) (value_fault form d)) (items_fault form (n + 1) ds)

  -- the first fault of the members of an object
  pub members_fault : Level → Members → Option WorldFault
  members_fault level no_members = None
  members_fault level (member key d ms) =
      option_or (option_map (under key) (option_map_or (λ form. value_fault form d) (member_form level key) None))
      (members_fault level ms)

-- the first fault of one member of an object
abbrev pub member_fault : Level → List ℕ → Data → Option WorldFault
member_fault level key d = option_map_or (λ form. value_fault form d) (member_form level key) None

-- ---- the whole

-- the fault of a uid that is among those before, unless it isn't
abbrev pub repeat_fault : List Uid → Uid → Option WorldFault
repeat_fault before uid = option_map (under (codes "uid")) (fault_unless (not (is_in uid_cmp uid before)))

-- the first fault of an entity, where these uids are stored before: of its form, or that its uid is one of these
abbrev pub entity_fault : List Uid → Data → Option WorldFault
entity_fault before d = option_or (value_fault (Object Entity) d) (repeat_fault before (uid_of (get (codes "uid") d)))

-- the first fault of the entities from this number on, where these uids are stored before
unfoldable pub entities_fault : List Uid → ℕ → Items → Option WorldFault
entities_fault before n no_items = None
entities_fault before n (item d ds) =
    option_or (option_map (under (decimal n)) (entity_fault before d))
    (entities_fault (insert_key uid_cmp before (uid_of (get (codes "uid") d))) (n + 1) ds)

abbrev pub store_fault : Data → Option WorldFault
store_fault d = option_map_or (λ ds. entities_fault [] 0 ds) (as_array d) (fault_unless false)

-- the first fault of what stands at a member, if the object has it
abbrev pub fault_at : List ℕ → (Data → Option WorldFault) → Data → Option WorldFault
fault_at key fault d = option_map (under key) (option_and_then fault (get key d))

-- an object with just the two members of a world
abbrev pub is_world : Data → Bool
is_world d = option_map_or (has_just (codes "entities" ∷ codes "request" ∷ [])) (as_object d) false

-- the first fault of a world with this tree
abbrev pub first_fault : Data → Option WorldFault
first_fault d =
    option_or (fault_unless (is_world d))
    (option_or (fault_at (codes "entities") store_fault d)
    (fault_at (codes "request") (value_fault (Object Request)) d))
