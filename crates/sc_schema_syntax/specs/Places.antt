-- Where a file has faults of form, each seen from the value alone at which it stands, and which of them comes first.
use Rattle.std.specs.Prelude.{◌≡◌, ◌↔◌, ℕ, ◌<◌, List, [], ◌∷◌, length, Bool, false, is_some, Some}
use Rattle.std.specs.Option.{option_map_or}
use Rattle.std.specs.declared.cmp.Ordering.TheVariants.{Less}
use Rattle.serde_json.specs.Data.{Data, null, boolean, number, string, array, object, Items, Members}
use Rattle.sc_json.specs.Steps.{Step, to_member, to_item, pointer, HasMember, HasItem, LeadsTo}
use Rattle.sc_json.specs.Trees.{HasTree}
use Rattle.sc_names.specs.Uids.{text_cmp}
use Rattle.sc_schema_syntax.specs.declared.fault.SchemaFault.{SchemaFault}
use Rattle.sc_schema_syntax.specs.declared.fault.SchemaFault.TheVariants.{NotJson, BadShape, BadName}
use Rattle.sc_schema_syntax.specs.declared.form.Form.{Form}
use Rattle.sc_schema_syntax.specs.declared.form.Form.TheVariants.{Object}
use Rattle.sc_schema_syntax.specs.declared.level.Level.{Level}
use Rattle.sc_schema_syntax.specs.declared.level.Level.TheVariants.{Schema}
use Rattle.sc_schema_syntax.specs.Formed.{IsSchemaTree}
use Rattle.sc_schema_syntax.specs.Forms.{admits_truth, admits_text, item_form, elements, form_at, level_of, is_name, is_whole, member_form}
use Rattle.sc_schema_syntax.specs.declared.written_schema.WrittenSchema.{WrittenSchema}
use Rattle.sc_schema_syntax.specs.Syntax.{Spells, HasFault}

-- ---- faults

-- what a fault says of its place: that the name can't be declared, or that the value isn't of its form
pub data Kind : Type 0 where
  bad_name : Kind
  bad_shape : Kind

abbrev pub told : Kind → List ℕ → SchemaFault
told bad_name path = BadName path
told bad_shape path = BadShape path

-- whether a value, what is inside of it set aside, may stand where this form is wanted
abbrev pub is_shaped : Form → Data → Bool
is_shaped form null = false
is_shaped form (boolean truth) = admits_truth form truth
is_shaped form (number n) = false
is_shaped form (string text) = admits_text form text
is_shaped form (array items) = is_some (item_form form (length (elements items)))
is_shaped form (object members) = option_map_or (λ level. is_whole level members) (level_of form members) false

mutual
  -- a value, where this form is wanted, has a fault of this kind at these steps: its own, or that of an item or of a
  -- member
  pub data FaultAt : Form → Data → Kind → List Step → Type 0 where
    misshapen : (form : Form) (d : Data) → is_shaped form d ≡ false → FaultAt form d bad_shape []
    in_item : (form each : Form) (items : Items) (place : ℕ) (value : Data) (kind : Kind) (steps : List Step)
        → item_form form (length (elements items)) ≡ Some each → HasItem 0 items place value
        → FaultAt (form_at each items place value) value kind steps
        → FaultAt form (array items) kind (to_item place ∷ steps)
    in_member : (form : Form) (level : Level) (members : Members) (name : List ℕ) (value : Data) (kind : Kind)
        (steps : List Step)
        → level_of form members ≡ Some level → HasMember members name value → MemberFaultAt level name value kind steps
        → FaultAt form (object members) kind (to_member name ∷ steps)

  -- the same of a member of an object of this level: its name can't be declared, or its value has the fault
  pub data MemberFaultAt : Level → List ℕ → Data → Kind → List Step → Type 0 where
    misnamed : (level : Level) (name : List ℕ) (value : Data) → is_name level name ≡ false
        → MemberFaultAt level name value bad_name []
    in_value : (level : Level) (name : List ℕ) (form : Form) (value : Data) (kind : Kind) (steps : List Step)
        → member_form level name ≡ Some form → FaultAt form value kind steps → MemberFaultAt level name value kind steps

-- ---- which comes first

-- members in the order of their names' bytes, and items in that of their numbers
abbrev pub IsEarlier : Step → Step → Type 0
IsEarlier (to_member a) (to_member b) = text_cmp a b ≡ Less
IsEarlier (to_item m) (to_item n) = m < n
IsEarlier _ _ = ⊥

-- one fault comes before another: a name before what it names, a value before what is inside, and earlier steps
-- before later ones
pub data IsBefore : Kind → List Step → Kind → List Step → Type 0 where
  name_first : IsBefore bad_name [] bad_shape []
  outside : (k l : Kind) (step : Step) (steps : List Step) → IsBefore k [] l (step ∷ steps)
  earlier : (k l : Kind) (s t : Step) (ss ts : List Step) → IsEarlier s t → IsBefore k (s ∷ ss) l (t ∷ ts)
  further : (k l : Kind) (step : Step) (ss ts : List Step) → IsBefore k ss l ts → IsBefore k (step ∷ ss) l (step ∷ ts)

-- a fault that is told: at a value of the tree, a fault there, and none before it
pub record IsFirst (Fault : Kind → List Step → Type 0) (fault : SchemaFault) : Type 0 where
  pub kind : Kind
  pub steps : List Step
  pub is : fault ≡ told kind (pointer steps)
  pub there : Fault kind steps
  pub first : (k : Kind) (ss : List Step) → Fault k ss → ¬ IsBefore k ss kind steps

-- the faults of a schema file with this tree
abbrev pub SchemaFaultAt : Data → Kind → List Step → Type 0
SchemaFaultAt = FaultAt (Object Schema)

-- the bytes are the text of no tree, or this is their tree's first fault, and its path leads to a value of the tree
pub data IsFirstOf (bytes : List ℕ) : SchemaFault → Type 0 where
  of_no_tree : ((d : Data) → ¬ HasTree bytes d) → IsFirstOf bytes NotJson
  of_tree : (d : Data) (fault : SchemaFault) → HasTree bytes d → (first : IsFirst (SchemaFaultAt d) fault)
      → (end : Data) × LeadsTo d first.steps end → IsFirstOf bytes fault

-- the fault of a file is the first one of its tree, and just the trees without a fault spell schemas, which are those
-- of the form
pub record ArePlaced (bytes : List ℕ) : Type 0 where
  pub first : (fault : SchemaFault) → HasFault bytes fault ↔ IsFirstOf bytes fault
  pub none : (d : Data) → HasTree bytes d → ((w : WrittenSchema) × Spells bytes w)
      ↔ ((k : Kind) (steps : List Step) → ¬ SchemaFaultAt d k steps)
  pub formed : (d : Data) → HasTree bytes d → ((w : WrittenSchema) × Spells bytes w) ↔ IsSchemaTree d
