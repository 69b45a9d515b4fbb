-- The default of a sort, by those of the sorts inside it.
use Rattle.std.proofs.Common.{◌≡◌, ℕ, List, [], false, pos, refl, sym, ap, ◌∙◌}
use Rattle.std.specs.List.{flat_map}
use Rattle.std.proofs.lemmas.List.Folds.{flat_map-map}
use Rattle.sc_ip.specs.declared.ip.Ip.TheVariants.{V4}
use Rattle.sc_names.specs.declared.uid.Uid.{Uid}
use Rattle.sc_values.specs.declared.value.Value.TheVariants as value
use Rattle.sc_values.specs.Records.{Fields}
use Rattle.sc_sorts.specs.declared.sort.Sort.{Sort, Sort-F, out-Sort, roll-Sort, map-Sort, fold-Sort, fold-roll-Sort, fold_out-Sort}
use Rattle.sc_sorts.specs.declared.sort.Sort.TheVariants as sort
use Rattle.sc_sorts.specs.declared.sort.Sort.TheVariants.{rolls-Bool, rolls-Long, rolls-String, rolls-Decimal, rolls-Ip, rolls-Entity, rolls-Set, rolls-Record, rolls-Option}
use Rattle.sc_sorts.specs.declared.sort.Sort.TheOpen as s
use Rattle.sc_sorts.specs.Defaults.{is_option_level, is_option, default_uid, default_field, Seen, default_step, seen_step, default_of}

pub seen : Sort → Seen
seen = fold-Sort Seen seen_step

pub level_map : (x : Sort-F Sort) → is_option_level Seen (map-Sort Sort Seen seen x) ≡ is_option_level Sort x
level_map s.Bool = refl
level_map s.Long = refl
level_map s.String = refl
level_map s.Decimal = refl
level_map s.Ip = refl
level_map (s.Entity name choices) = refl
level_map (s.Set member) = refl
level_map (s.Record fields) = refl
level_map (s.Option held) = refl

seen_option : (x : Sort) → (seen x).0 ≡ is_option x
unfolding seen
seen_option x = ap (λ (z : Seen). z.0) (fold_out-Sort Seen seen_step x) ∙ level_map (out-Sort x)

-- ---- the default of each sort

default_roll : (y : Sort-F Sort) → default_of (roll-Sort y) ≡ default_step (map-Sort Sort Seen seen y)
unfolding seen default_of
default_roll y = ap (λ (z : Seen). z.1) (fold-roll-Sort Seen seen_step y)

pub default_Bool : default_of sort.Bool ≡ value.Bool false
default_Bool = ap default_of (sym rolls-Bool) ∙ default_roll s.Bool

pub default_Long : default_of sort.Long ≡ value.Long (pos 0)
default_Long = ap default_of (sym rolls-Long) ∙ default_roll s.Long

pub default_String : default_of sort.String ≡ value.String []
default_String = ap default_of (sym rolls-String) ∙ default_roll s.String

pub default_Decimal : default_of sort.Decimal ≡ value.Decimal (pos 0)
default_Decimal = ap default_of (sym rolls-Decimal) ∙ default_roll s.Decimal

pub default_Ip : default_of sort.Ip ≡ value.Ip (V4 0 32)
default_Ip = ap default_of (sym rolls-Ip) ∙ default_roll s.Ip

pub default_Entity : (name : List ℕ) (choices : List Uid) → default_of (sort.Entity name choices) ≡ value.Entity (default_uid name choices)
default_Entity name choices = ap default_of (sym (rolls-Entity name choices)) ∙ default_roll (s.Entity name choices)

pub default_Set : (member : Sort) → default_of (sort.Set member) ≡ value.Set []
default_Set member = ap default_of (sym (rolls-Set member)) ∙ default_roll (s.Set member)

-- the fields of a record sort's default
abbrev pub default_fields : List (List ℕ × Sort) → Fields
default_fields fields = flat_map (λ (f : List ℕ × Sort). default_field f.0 (is_option f.1) (default_of f.1)) fields

as_seen : (fields : List (List ℕ × Sort)) → flat_map (λ (f : List ℕ × Sort). default_field f.0 (seen f.1).0 (seen f.1).1) fields ≡ default_fields fields
unfolding seen default_of
as_seen fields = ap (λ (g : List ℕ × Sort → Fields). flat_map g fields) (λ i f. default_field f.0 (seen_option f.1 i) (default_of f.1))

pub default_Record : (fields : List (List ℕ × Sort)) → default_of (sort.Record fields) ≡ value.Record (default_fields fields)
default_Record fields =
    ap default_of (sym (rolls-Record fields))
    ∙ default_roll (s.Record fields)
    ∙ ap value.Record (flat_map-map (λ (f : List ℕ × Seen). default_field f.0 f.1.0 f.1.1) (λ (f : List ℕ × Sort). (f.0, seen f.1)) fields ∙ as_seen fields)

pub default_Option : (held : Sort) → default_of (sort.Option held) ≡ default_of held
unfolding seen default_of
default_Option held = ap default_of (sym (rolls-Option held)) ∙ default_roll (s.Option held)
