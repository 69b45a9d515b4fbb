-- The names of sorts, and the lines that declare them. The datatypes of a script are a list; each is known by its
-- number among those of its kind.
use Rattle.std.specs.Prelude.{◌==◌, ℕ, suc, List, [], ◌∷◌, map, if◌then◌else◌}
use Rattle.std.specs.List.{flat_map}
use Rattle.std.specs.Fmt.{decimal}
use Rattle.sc_names.specs.declared.uid.Uid.{Uid}
use Rattle.sc_smtlib_forms.specs.Forms.{plain, with_one, with_two, with_three}
use Rattle.sc_smtlib_forms.specs.declared.form.Form.TheVariants as form
use Rattle.sc_smtlib_forms.specs.Characters.{label_text, inner_text}
use Rattle.sc_sorts.specs.declared.sort.Sort.{Sort, Sort-F, out-Sort}
use Rattle.sc_sorts.specs.declared.sort.Sort.TheOpen as s
use Rattle.sc_sorts.specs.contracts.sort.SortPartialEq.TheImpl.{ghosts as sorts}
use Rattle.sc_sorts.specs.Order.{kind}
use Rattle.sc_smtlib_terms.specs.Seen.{Seen, told_by}
use Rattle.sc_smtlib_terms.specs.Sets.{set_text}

-- ---- numbers

abbrev pub kind_of : Sort → ℕ
kind_of x = kind (out-Sort x)

-- how many of a sort's kind stand before it
abbrev pub number_among : Sort → List Sort → ℕ
number_among x [] = 0
number_among x (d ∷ ds) = if sorts.eq d x then 0
    else (if kind_of d == kind_of x then suc (number_among x ds) else number_among x ds)

-- in decimal
unfoldable pub number : List Sort → Sort → List ℕ
number ds x = decimal (number_among x ds)

-- the name of the datatype of a sort of entities, records or options
abbrev pub entity_name : List Sort → Sort → List ℕ
entity_name ds x = with_one form.EntityName (number ds x)

abbrev pub record_name : List Sort → Sort → List ℕ
record_name ds x = with_one form.RecordName (number ds x)

abbrev pub option_name : List Sort → Sort → List ℕ
option_name ds x = with_one form.OptionName (number ds x)

-- ---- sorts, each sort inside seen beside its text

-- of the sort itself and what it is made of
abbrev pub text_step : List Sort → Sort → Sort-F (Seen (List ℕ)) → List ℕ
text_step ds x s.Bool = plain form.Bool
text_step ds x s.Long = plain form.Long
text_step ds x s.String = plain form.String
text_step ds x s.Decimal = plain form.Decimal
text_step ds x s.Ip = plain form.Ip
text_step ds x (s.Entity name choices) = entity_name ds x
text_step ds x (s.Set member) = with_one form.SetSort member.1
text_step ds x (s.Record fields) = record_name ds x
text_step ds x (s.Option held) = option_name ds x

-- a sort as a script writes it
unfoldable pub sort_text : List Sort → Sort → List ℕ
sort_text ds = told_by (List ℕ) (text_step ds)

-- ---- lines that declare

-- the word of a type's constructor: whether its ids are listed
abbrev pub constructor_word : List Uid → List ℕ
constructor_word [] = plain form.Open
constructor_word (u ∷ us) = plain form.Listed

abbrev pub field_data : List Sort → Sort → List ℕ × Sort → List ℕ
field_data ds x f = with_three form.FieldData (record_name ds x) (label_text f.0) (sort_text ds f.1)

abbrev pub entity_data : List Sort → Sort → List ℕ → List Uid → List ℕ
entity_data ds x name choices = with_three form.EntityData (entity_name ds x) name (constructor_word choices)

abbrev pub record_data : List Sort → Sort → List (List ℕ × Sort) → List ℕ
record_data ds x fields = with_two form.RecordData (record_name ds x) (flat_map (field_data ds x) fields)

abbrev pub option_data : List Sort → Sort → Sort → List ℕ
option_data ds x held = with_two form.OptionData (option_name ds x) (sort_text ds held)

abbrev pub data_level : List Sort → Sort → Sort-F Sort → List ℕ
data_level ds x s.Ip = plain form.AddressData
data_level ds x (s.Entity name choices) = entity_data ds x name choices
data_level ds x (s.Record fields) = record_data ds x fields
data_level ds x (s.Option held) = option_data ds x held
data_level ds x _ = []

-- the line that declares the datatype of a sort; no text where it has none
unfoldable pub data_line : List Sort → Sort → List ℕ
data_line ds x = data_level ds x (out-Sort x)

abbrev pub id_text : Uid → List ℕ
id_text u = with_one form.Text (inner_text u.id)

-- the line of the ids that the entities of a sort have
abbrev pub choice_line : List Sort → Sort → List Uid → List ℕ
choice_line ds x choices =
    with_two form.Choices (entity_name ds x)
    (set_text (with_one form.SetSort (plain form.String)) (map id_text choices))
