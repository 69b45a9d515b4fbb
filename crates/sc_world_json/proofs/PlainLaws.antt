-- Plain values, kind by kind.
use Rattle.std.proofs.Common.{◌≡◌, ◌&&◌, ℕ, List, [], ◌∷◌, map, Bool, refl, ap, sym, ◌∙◌}
use Rattle.std.specs.List.{list_all}
use Rattle.sc_values.specs.declared.value.Value.{Value, fold-roll-Value}
use Rattle.sc_values.specs.declared.value.Value.TheOpen as v
use Rattle.sc_values.specs.declared.value.Value.TheVariants as value
use Rattle.sc_values.specs.declared.value.Value.TheVariants.{rolls-Set, rolls-Record}
use Rattle.sc_values.specs.Records.{Fields}
use Rattle.sc_world_json.specs.PlainKeys.{is_plain_name, plain_step, is_plain, are_plain}

all_plain : (xs : List Value) → list_all (λ plain. plain) (map is_plain xs) ≡ list_all is_plain xs
all_plain [] = refl
all_plain (x ∷ xs) = ap (λ (b : Bool). is_plain x && b) (all_plain xs)

pub is_plain-Set : (xs : List Value) → is_plain (value.Set xs) ≡ list_all is_plain xs
unfolding is_plain
is_plain-Set xs = ap is_plain (sym (rolls-Set xs)) ∙ (fold-roll-Value Bool plain_step (v.Set xs) ∙ all_plain xs)

all_fields_plain : (fs : Fields) → list_all (λ (f : List ℕ × Bool). is_plain_name f.0 && f.1) (map (λ (f : List ℕ × Value). (f.0, is_plain f.1)) fs) ≡ are_plain fs
all_fields_plain [] = refl
all_fields_plain (f ∷ fs) = ap (λ (b : Bool). (is_plain_name f.0 && is_plain f.1) && b) (all_fields_plain fs)

pub is_plain-Record : (fs : Fields) → is_plain (value.Record fs) ≡ are_plain fs
unfolding is_plain
is_plain-Record fs = ap is_plain (sym (rolls-Record fs)) ∙ (fold-roll-Value Bool plain_step (v.Record fs) ∙ all_fields_plain fs)

pub plain_set : (b : Bool) (x : Value) (xs : List Value) → x ≡ value.Set xs → b ≡ list_all is_plain xs → b ≡ is_plain x
plain_set b x xs is told = told ∙ (sym (is_plain-Set xs) ∙ ap is_plain (sym is))

pub plain_record : (b : Bool) (x : Value) (fs : Fields) → x ≡ value.Record fs → b ≡ are_plain fs → b ≡ is_plain x
plain_record b x fs is told = told ∙ (sym (is_plain-Record fs) ∙ ap is_plain (sym is))
