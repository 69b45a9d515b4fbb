-- The value of a term is what it shows, and `false` where its sort is one of options.
use Rattle.std.proofs.Common.{◌≡◌, ℕ, List, [], Bool, true, false, Option, Some, None, unwrap_or, refl, sym, ap, ◌∙◌}
use Rattle.sc_schema.specs.declared.ty.Ty.{Ty}
use Rattle.sc_schema.specs.Declarations.{Declarations, attrs_of}
use Rattle.sc_values.specs.declared.value.Value.{Value, Value-F, out-Value, roll-Value, roll-out-Value}
use Rattle.sc_values.specs.declared.value.Value.TheOpen as w
use Rattle.sc_values.specs.declared.value.Value.TheVariants.{rolls-Record}
use Rattle.sc_values.specs.Records.{Fields}
use Rattle.sc_values.proofs.OutLaws.{out_Record}
use Rattle.sc_world.specs.Defaults.{default_value, default_attrs, default_fields, fields_in}
use Rattle.sc_values.specs.declared.value.Value.TheVariants as value
use Rattle.sc_sorts.specs.declared.sort.Sort.{Sort, Sort-F, map-Sort, out-Sort}
use Rattle.sc_sorts.specs.declared.sort.Sort.TheOpen as s
use Rattle.sc_sorts.specs.Defaults.{is_option, is_option_level}
use Rattle.sc_terms.specs.Trees.{Tree}
use Rattle.sc_terms.specs.Folds.{present_term, held_term}
use Rattle.sc_terms.specs.Values.{Val, value_in, fields_seen}
use Rattle.sc_model_values.proofs.SortedVals.{val_at}
use Rattle.sc_model_laws.specs.Assignments.{lit}
use Rattle.sc_model_laws.specs.Vals.{Model, val_of, val_step, held_by}
use Rattle.sc_model_values.specs.Values.{shown}

module _ (m : Model) where
  held_false : (b : Bool) (v : Val) → value.Bool false ≡ value_in (held_by b v)
  held_false true v = refl
  held_false false v = refl

  plain_at : (y : Sort-F Sort) (x : Tree) (v : Val) → v ≡ val_step m (map-Sort Sort (Tree → Val) (val_of m) y) x → is_option_level Sort y ≡ false → unwrap_or (shown v) (value.Bool false) ≡ value_in v
  plain_at s.Bool x v e h = rw e refl
  plain_at s.Long x v e h = rw e refl
  plain_at s.String x v e h = rw e refl
  plain_at s.Decimal x v e h = rw e refl
  plain_at s.Ip x v e h = rw e refl
  plain_at (s.Entity name us) x v e h = rw e refl
  plain_at (s.Set j) x v e h = rw e refl
  plain_at (s.Record fs) x v e h = rw e refl
  plain_at (s.Option j) x v e h = absurd cc

  option_at : (y : Sort-F Sort) (x : Tree) (v : Val) → v ≡ val_step m (map-Sort Sort (Tree → Val) (val_of m) y) x → is_option_level Sort y ≡ true → value.Bool false ≡ value_in v
  option_at (s.Option j) x v e h = held_false (lit m.truths (present_term x)) (val_of m j (held_term x)) ∙ sym (ap value_in e)
  option_at _ x v e h = absurd cc

  pub of_plain : (k : Sort) (x : Tree) (o : Option Value) (b : Bool) → b ≡ is_option k → b ≡ false → o ≡ shown (val_of m k x) → unwrap_or o (value.Bool false) ≡ value_in (val_of m k x)
  of_plain k x o b is h e = ap (λ (z : Option Value). unwrap_or z (value.Bool false)) e ∙ plain_at (out-Sort k) x (val_of m k x) (val_at m k (out-Sort k) x refl) (sym is ∙ h)

  pub of_option : (k : Sort) (x : Tree) (b : Bool) → b ≡ is_option k → b ≡ true → value.Bool false ≡ value_in (val_of m k x)
  of_option k x b is h = option_at (out-Sort k) x (val_of m k x) (val_at m k (out-Sort k) x refl) (sym is ∙ h)

-- ---- the fields of a record

pub of_record : (v : Value) (fs : Fields) → v ≡ value.Record fs → fs ≡ fields_seen (out-Value v)
of_record v fs e = sym (ap (λ (x : Value). fields_seen (out-Value x)) e ∙ ap fields_seen (out_Record fs))

other_at : (y : Value-F Value) → ((fs : Fields) → y ≡ w.Record fs → ⊥) → [] ≡ fields_seen y
other_at (w.Record fs) h = absurd (h fs refl)
other_at _ h = refl

pub of_other : (x : Value) → ((fs : Fields) → x ≡ value.Record fs → ⊥) → [] ≡ fields_seen (out-Value x)
of_other x h = other_at (out-Value x) (λ fs e. h fs (sym (roll-out-Value x) ∙ ap roll-Value e ∙ rolls-Record fs))

same_fields : (y : Value-F Value) → fields_seen y ≡ fields_in y
same_fields (w.Record fs) = refl
same_fields _ = refl

-- ---- by default

pub default_there : (d : Declarations) (name : List ℕ) (t : Ty) → attrs_of d name ≡ Some t → fields_seen (out-Value (default_value d t)) ≡ default_attrs d name
default_there d name t e = same_fields (out-Value (default_value d t)) ∙ sym (ap (default_fields d) e)

pub default_nowhere : (d : Declarations) (name : List ℕ) → attrs_of d name ≡ None → [] ≡ default_attrs d name
default_nowhere d name e = sym (ap (default_fields d) e)
