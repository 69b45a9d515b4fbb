-- Which trees are of the form of a schema file: at each place stands what may stand there.
use Rattle.std.specs.Prelude.{◌≡◌, ℕ, List, length, Bool, true, Some, None}
use Rattle.serde_json.specs.Data.{Data, boolean, string, array, object, Items, Members}
use Rattle.sc_json.specs.Steps.{HasMember, HasItem}
use Rattle.sc_schema_syntax.specs.declared.form.Form.{Form}
use Rattle.sc_schema_syntax.specs.declared.form.Form.TheVariants.{Object}
use Rattle.sc_schema_syntax.specs.declared.level.Level.{Level}
use Rattle.sc_schema_syntax.specs.declared.level.Level.TheVariants.{Schema}
use Rattle.sc_schema_syntax.specs.Forms.{admits_truth, admits_text, item_form, elements, form_at, level_of, is_name, is_whole, member_form}

mutual
  -- a value, with all that is inside of it, is of this form: a truth value or a text that it admits, a list that may
  -- have so many items, each of which is of the form that items have there, or an object that lacks no member and whose
  -- members are as they may be there
  pub data IsOf : Form → Data → Type 0 where
    of_truth : (form : Form) (truth : Bool) → admits_truth form truth ≡ true → IsOf form (boolean truth)
    of_text : (form : Form) (text : List ℕ) → admits_text form text ≡ true → IsOf form (string text)
    of_list : (form each : Form) (items : Items)
        → item_form form (length (elements items)) ≡ Some each
        → ((place : ℕ) (value : Data) → HasItem 0 items place value → IsOf (form_at each items place value) value)
        → IsOf form (array items)
    of_object : (form : Form) (level : Level) (members : Members)
        → level_of form members ≡ Some level → is_whole level members ≡ true
        → ((name : List ℕ) (value : Data) → HasMember members name value → IsMemberOf level name value)
        → IsOf form (object members)

  -- a member of an object of this level: it may have its name, and its value is of the form that stands there, or isn't
  -- looked at
  pub data IsMemberOf : Level → List ℕ → Data → Type 0 where
    not_read : (level : Level) (name : List ℕ) (value : Data)
        → is_name level name ≡ true → member_form level name ≡ None → IsMemberOf level name value
    of_form : (level : Level) (name : List ℕ) (form : Form) (value : Data)
        → is_name level name ≡ true → member_form level name ≡ Some form → IsOf form value → IsMemberOf level name value

-- the tree of a schema file
abbrev pub IsSchemaTree : Data → Type 0
IsSchemaTree = IsOf (Object Schema)
