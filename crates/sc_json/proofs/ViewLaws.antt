-- What each kind of value stands for.
use Rattle.std.proofs.Common.{◌≡◌, ◌∙◌, Bool, String, Global, string_bytes, ap, rules}
use Rattle.serde_json.specs.Data.{null, boolean, number, string}
use Rattle.serde_json.specs.View.{view, number_view}
use Rattle.serde_json.specs.declared.number.Number.{Number as JsonNumber}
use Rattle.serde_json.specs.declared.value.Value.{Value, Null, Bool as Truth, Number, String as Text, the_lemmas}

null_view : view Null ≡ null
null_view = search (rules, the_lemmas)

truth_view : (b : Bool) → view (Truth b) ≡ boolean b
truth_view b = search (rules, the_lemmas)

number_view_of : (n : JsonNumber) → view (Number n) ≡ number (number_view n)
number_view_of n = search (rules, the_lemmas)

text_view : (s : String Global) → view (Text s) ≡ string (string_bytes s)
text_view s = search (rules, the_lemmas)

pub view_null : (v : Value) → v ≡ Null → view v ≡ null
view_null v is = ap view is ∙ null_view

pub view_truth : (v : Value) (b : Bool) → v ≡ Truth b → view v ≡ boolean b
view_truth v b is = ap view is ∙ truth_view b

pub view_number : (v : Value) (n : JsonNumber) → v ≡ Number n → view v ≡ number (number_view n)
view_number v n is = ap view is ∙ number_view_of n

pub view_text : (v : Value) (s : String Global) → v ≡ Text s → view v ≡ string (string_bytes s)
view_text v s is = ap view is ∙ text_view s
