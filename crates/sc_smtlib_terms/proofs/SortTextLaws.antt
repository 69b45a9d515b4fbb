-- The text of each sort.
use Rattle.std.proofs.Common.{◌≡◌, ℕ, List, sym, ap, ◌∙◌}
use Rattle.sc_names.specs.declared.uid.Uid.{Uid}
use Rattle.sc_sorts.specs.declared.sort.Sort.{Sort, Sort-F, roll-Sort, map-Sort}
use Rattle.sc_sorts.specs.declared.sort.Sort.TheVariants as sort
use Rattle.sc_sorts.specs.declared.sort.Sort.TheVariants.{rolls-Bool, rolls-Long, rolls-String, rolls-Decimal, rolls-Ip, rolls-Entity, rolls-Set, rolls-Record, rolls-Option}
use Rattle.sc_sorts.specs.declared.sort.Sort.TheOpen as s
use Rattle.sc_smtlib_forms.specs.Forms.{plain, with_one}
use Rattle.sc_smtlib_forms.specs.declared.form.Form.TheVariants as form
use Rattle.sc_smtlib_terms.specs.Seen.{Seen, told_by}
use Rattle.sc_smtlib_terms.specs.Sorts.{text_step, sort_text, entity_name, record_name, option_name}
use Rattle.sc_smtlib_terms.proofs.SeenLaws.{seen, told_roll}

roll : (ds : List Sort) (y : Sort-F Sort) (x : Sort) → roll-Sort y ≡ x → sort_text ds x ≡ text_step ds x (map-Sort Sort (Seen (List ℕ)) (seen (List ℕ) (text_step ds)) y)
unfolding sort_text
roll ds y x e = ap (sort_text ds) (sym e) ∙ told_roll (List ℕ) (text_step ds) y ∙ ap (λ z. text_step ds z (map-Sort Sort (Seen (List ℕ)) (seen (List ℕ) (text_step ds)) y)) e

pub text_Bool : (ds : List Sort) → sort_text ds sort.Bool ≡ plain form.Bool
text_Bool ds = roll ds s.Bool _ rolls-Bool

pub text_Long : (ds : List Sort) → sort_text ds sort.Long ≡ plain form.Long
text_Long ds = roll ds s.Long _ rolls-Long

pub text_String : (ds : List Sort) → sort_text ds sort.String ≡ plain form.String
text_String ds = roll ds s.String _ rolls-String

pub text_Decimal : (ds : List Sort) → sort_text ds sort.Decimal ≡ plain form.Decimal
text_Decimal ds = roll ds s.Decimal _ rolls-Decimal

pub text_Ip : (ds : List Sort) → sort_text ds sort.Ip ≡ plain form.Ip
text_Ip ds = roll ds s.Ip _ rolls-Ip

pub text_Entity : (ds : List Sort) (name : List ℕ) (choices : List Uid)
    → sort_text ds (sort.Entity name choices) ≡ entity_name ds (sort.Entity name choices)
text_Entity ds name choices = roll ds (s.Entity name choices) _ (rolls-Entity name choices)

pub text_Set : (ds : List Sort) (member : Sort) → sort_text ds (sort.Set member) ≡ with_one form.SetSort (sort_text ds member)
unfolding sort_text told_by
text_Set ds member = roll ds (s.Set member) _ (rolls-Set member)

pub text_Record : (ds : List Sort) (fields : List (List ℕ × Sort))
    → sort_text ds (sort.Record fields) ≡ record_name ds (sort.Record fields)
text_Record ds fields = roll ds (s.Record fields) _ (rolls-Record fields)

pub text_Option : (ds : List Sort) (held : Sort) → sort_text ds (sort.Option held) ≡ option_name ds (sort.Option held)
text_Option ds held = roll ds (s.Option held) _ (rolls-Option held)
