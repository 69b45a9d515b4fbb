-- What the items of a list have to be, by the values of which it is the view.
use Rattle.std.proofs.Common.{◌≡◌, ◌∙◌, ◌||◌, ℕ, List, [], ◌∷◌, map, length, take, Bool, false, Option, refl, sym, ap}
use Rattle.std.specs.List.{list_any}
use Rattle.std.specs.Option.{option_map_or}
use Rattle.std.proofs.lemmas.List.{length-map, take-map}
use Rattle.serde_json.specs.Data.{Data, array}
use Rattle.serde_json.specs.View.{view, items_view}
use Rattle.serde_json.specs.declared.value.Value.{Value}
use Rattle.sc_schema_syntax.specs.declared.fault.SchemaFault.{SchemaFault}
use Rattle.sc_schema_syntax.specs.declared.form.Form.{Form}
use Rattle.sc_schema_syntax.specs.Forms.{item_form, elements, is_text, form_behind, form_at}
use Rattle.sc_schema_syntax.specs.Faults.{shape_fault, value_fault, items_fault}

any_viewed : (text : List ℕ) (vs : List Value) → list_any (λ v. is_text text (view v)) vs ≡ list_any (is_text text) (map view vs)
any_viewed text [] = refl
any_viewed text (v ∷ vs) = ap (λ b. is_text text (view v) || b) (any_viewed text vs)

-- whether a text stands among values
pub text_among : (text : List ℕ) (vs : List Value) (b : Bool) → b ≡ list_any (λ v. is_text text (view v)) vs → b ≡ list_any (is_text text) (map view vs)
text_among text vs b is = is ∙ any_viewed text vs

elements-items_view : (vs : List Value) → elements (items_view vs) ≡ map view vs
elements-items_view [] = refl
elements-items_view (v ∷ vs) = ap (λ (ds : List Data). view v ∷ ds) (elements-items_view vs)

elements_counted : (vs : List Value) → length (elements (items_view vs)) ≡ length vs
elements_counted vs = ap (λ (ds : List Data). length ds) (elements-items_view vs) ∙ length-map vs view

-- the form of an item by the values before it
pub form_here : (each form : Form) (vs front : List Value) (n : ℕ) (d : Data) → front ≡ take n vs → form ≡ form_behind each (map view front) d → form ≡ form_at each (items_view vs) n d
form_here each form vs front n d is told =
    let before : map view front ≡ take n (elements (items_view vs)) = ap (map view) is ∙ (sym (take-map view n vs) ∙ ap (take n) (sym (elements-items_view vs))) in
    told ∙ ap (λ (ds : List Data). form_behind each ds d) before

abbrev told_by : List Value → Option Form → Option SchemaFault
told_by vs o = option_map_or (λ each. items_fault (form_at each (items_view vs)) 0 (items_view vs)) o (shape_fault false)

-- a list by what each item has to be
pub list_told : (form : Form) (o : Option Form) (vs : List Value) (n : ℕ) → n ≡ length vs → o ≡ item_form form n → told_by vs o ≡ value_fault form (array (items_view vs))
unfolding value_fault
list_told form o vs n count is = ap (told_by vs) (is ∙ ap (item_form form) (count ∙ sym (elements_counted vs)))
