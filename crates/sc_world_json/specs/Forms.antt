-- What may stand at each place of a world's JSON.
use Rattle.std.specs.Prelude.{ℕ, List, [], ◌∷◌, map, length, ◌==◌, ◌&&◌, Bool, true, false, Option, Some, None, option_and_then, is_some, if◌then◌else◌, codes}
use Rattle.std.specs.List.{list_all}
use Rattle.std.specs.Str.{bytes_eq}
use Rattle.serde_json.specs.Data.{Num, Members}
use Rattle.serde_json.specs.Events.{members_len}
use Rattle.serde_json.specs.Find.{get_member, as_str, as_i64}
use Rattle.sc_world_json.specs.declared.form.Form.{Form}
use Rattle.sc_world_json.specs.declared.form.Form.TheVariants as form
use Rattle.sc_world_json.specs.declared.level.Level.{Level}
use Rattle.sc_world_json.specs.declared.level.Level.TheVariants as level
use Rattle.sc_world_json.specs.declared.function.Function.{Function}
use Rattle.sc_world_json.specs.declared.mark.Mark.{Mark}
use Rattle.sc_world_json.specs.declared.mark.Mark.TheVariants.{Entity, Extension}
use Rattle.sc_world_json.specs.Marks.{mark_of, function_named, value_by}

-- ---- what each kind of value may be

abbrev pub admits_truth : Form → Bool
admits_truth form.Value = true
admits_truth _ = false

-- whole numbers of 64 bits
abbrev pub admits_number : Form → Num → Bool
admits_number form.Value n = is_some (as_i64 n)
admits_number _ n = false

abbrev pub admits_text : Form → List ℕ → Bool
admits_text form.Text text = true
admits_text form.Value text = true
admits_text form.FunctionName text = is_some (function_named text)
admits_text (form.Argument None) text = true
admits_text (form.Argument (Some f)) text = is_some (value_by f text)
admits_text _ text = false

-- what each item of a list has to be, if a list may stand there
abbrev pub item_form : Form → Option Form
item_form form.Value = Some form.Value
item_form form.Uids = Some (form.Object level.Uid)
item_form _ = None

-- ---- which object may stand there

-- the function that a call names, if there is such a one
abbrev pub function_in : Members → Option Function
function_in ms = option_and_then function_named (option_and_then as_str (get_member (codes "fn") ms))

-- the object that stands for a value: a record, unless it is marked
abbrev pub value_level : Option Mark → Level
value_level None = level.Fields
value_level (Some Entity) = level.Reference
value_level (Some Extension) = level.Extension

-- a record may stand there, and nothing that is marked
abbrev pub record_level : Option Mark → Option Level
record_level None = Some level.Fields
record_level (Some mark) = None

abbrev pub level_of : Form → Members → Option Level
level_of (form.Object level) ms = Some level
level_of form.Value ms = Some (value_level (mark_of ms))
level_of form.Record ms = record_level (mark_of ms)
level_of form.Call ms = Some (level.Call (function_in ms))
level_of _ ms = None

-- ---- the members of objects

-- the members of an object of fixed form, each with what has to stand there; those of a record have any names
abbrev pub fixed_members : Level → List (List ℕ × Form)
fixed_members level.Entity =
    (codes "attrs", form.Record)
    ∷ (codes "parents", form.Uids)
    ∷ (codes "tags", form.Record)
    ∷ (codes "uid", form.Object level.Uid) ∷ []
fixed_members level.Request =
    (codes "action", form.Object level.Uid)
    ∷ (codes "context", form.Record)
    ∷ (codes "principal", form.Object level.Uid)
    ∷ (codes "resource", form.Object level.Uid) ∷ []
fixed_members level.Uid = (codes "id", form.Text) ∷ (codes "type", form.Text) ∷ []
fixed_members level.Reference = (codes "__entity", form.Object level.Uid) ∷ []
fixed_members level.Extension = (codes "__extn", form.Call) ∷ []
fixed_members (level.Call f) = (codes "arg", form.Argument f) ∷ (codes "fn", form.FunctionName) ∷ []
fixed_members level.Fields = []

-- an object has members of these names, which differ, and no others
abbrev pub has_just : List (List ℕ) → Members → Bool
has_just names ms = (members_len ms == length names) && list_all (λ name. is_some (get_member name ms)) names

-- an object has just the members of its level
abbrev pub has_members : Level → Members → Bool
has_members level.Fields ms = true
has_members l ms = has_just (map (λ (m : List ℕ × Form). m.0) (fixed_members l)) ms

-- what has to stand at the member of this name, if it is one of these
abbrev pub among : List (List ℕ × Form) → List ℕ → Option Form
among [] key = None
among (m ∷ ms) key = if bytes_eq key m.0 then Some m.1 else among ms key

-- what has to stand at a member, if an object of the level may have it
abbrev pub member_form : Level → List ℕ → Option Form
member_form level.Fields key = Some form.Value
member_form l key = among (fixed_members l) key
