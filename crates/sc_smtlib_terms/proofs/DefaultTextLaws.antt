-- The default of each sort, written out.
use Rattle.std.proofs.Common.{◌≡◌, ℕ, List, [], ◌∷◌, map, false, pos, refl, sym, ap, ◌∙◌}
use Rattle.sc_ip.specs.declared.ip.Ip.TheVariants.{V4}
use Rattle.sc_names.specs.declared.uid.Uid.{Uid}
use Rattle.sc_sorts.specs.declared.sort.Sort.{Sort, Sort-F, roll-Sort, map-Sort}
use Rattle.sc_sorts.specs.declared.sort.Sort.TheVariants as sort
use Rattle.sc_sorts.specs.declared.sort.Sort.TheVariants.{rolls-Bool, rolls-Long, rolls-String, rolls-Decimal, rolls-Ip, rolls-Entity, rolls-Set, rolls-Record, rolls-Option}
use Rattle.sc_sorts.specs.declared.sort.Sort.TheOpen as s
use Rattle.sc_smtlib_forms.specs.Forms.{with_one}
use Rattle.sc_smtlib_forms.specs.declared.form.Form.TheVariants as form
use Rattle.sc_smtlib_terms.specs.Seen.{Seen, told_by}
use Rattle.sc_smtlib_terms.specs.Sorts.{record_name}
use Rattle.sc_smtlib_terms.specs.Literals.{truth_text, long_text, ip_text}
use Rattle.sc_smtlib_terms.specs.Defaults.{default_step, default_text, entity_default, empty_set, record_text, none_text}
use Rattle.sc_smtlib_terms.proofs.SeenLaws.{seen, told_roll}

roll : (ds : List Sort) (y : Sort-F Sort) (x : Sort) → roll-Sort y ≡ x
    → default_text ds x ≡ default_step ds x (map-Sort Sort (Seen (List ℕ)) (seen (List ℕ) (default_step ds)) y)
unfolding default_text
roll ds y x e = ap (default_text ds) (sym e) ∙ told_roll (List ℕ) (default_step ds) y ∙ ap (λ z. default_step ds z (map-Sort Sort (Seen (List ℕ)) (seen (List ℕ) (default_step ds)) y)) e

pub default_Bool : (ds : List Sort) → default_text ds sort.Bool ≡ truth_text false
default_Bool ds = roll ds s.Bool _ rolls-Bool

pub default_Long : (ds : List Sort) → default_text ds sort.Long ≡ long_text (pos 0)
default_Long ds = roll ds s.Long _ rolls-Long

pub default_String : (ds : List Sort) → default_text ds sort.String ≡ with_one form.Text []
default_String ds = roll ds s.String _ rolls-String

pub default_Decimal : (ds : List Sort) → default_text ds sort.Decimal ≡ long_text (pos 0)
default_Decimal ds = roll ds s.Decimal _ rolls-Decimal

pub default_Ip : (ds : List Sort) → default_text ds sort.Ip ≡ ip_text (V4 0 32)
default_Ip ds = roll ds s.Ip _ rolls-Ip

pub default_Entity : (ds : List Sort) (name : List ℕ) (choices : List Uid)
    → default_text ds (sort.Entity name choices) ≡ entity_default name choices
default_Entity ds name choices = roll ds (s.Entity name choices) _ (rolls-Entity name choices)

pub default_Set : (ds : List Sort) (member : Sort) → default_text ds (sort.Set member) ≡ empty_set ds (sort.Set member)
default_Set ds member = roll ds (s.Set member) _ (rolls-Set member)

abbrev text_at : List Sort → List ℕ × Sort → List ℕ
text_at ds f = default_text ds f.1

texts : (ds : List Sort) (fields : List (List ℕ × Sort))
    → map (λ (f : List ℕ × Seen (List ℕ)). f.1.1) (map (λ (f : List ℕ × Sort). (f.0, seen (List ℕ) (default_step ds) f.1)) fields) ≡ map (text_at ds) fields
unfolding default_text told_by
texts ds [] = refl
texts ds (f ∷ fields) = ap (λ ts. default_text ds f.1 ∷ ts) (texts ds fields)

pub default_Record : (ds : List Sort) (fields : List (List ℕ × Sort))
    → default_text ds (sort.Record fields) ≡ record_text (record_name ds (sort.Record fields)) (map (text_at ds) fields)
default_Record ds fields =
    roll ds (s.Record fields) _ (rolls-Record fields) ∙ ap (record_text (record_name ds (sort.Record fields))) (texts ds fields)

pub default_Option : (ds : List Sort) (held : Sort) → default_text ds (sort.Option held) ≡ none_text ds (sort.Option held)
default_Option ds held = roll ds (s.Option held) _ (rolls-Option held)
