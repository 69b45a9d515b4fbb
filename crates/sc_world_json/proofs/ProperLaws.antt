-- The parts of a proper value are proper.
use Rattle.std.proofs.Common.{◌≡◌, ℕ, zero, suc, ◌<◌, List, [], ◌∷◌, length, get_or, map, sym, ◌∙◌, subst, arith}
use Rattle.std.specs.List.{AllByRecursion}
use Rattle.std.specs.List.Sorted.{IsStrictlySortedBy}
use Rattle.std.specs.Map.{keys_of}
use Rattle.sc_names.specs.Uids.{text_cmp}
use Rattle.sc_values.specs.declared.value.Value.{Value, Value-F, roll-Value, map-Value, every_here-Value, every_held-Value, out-roll-Value}
use Rattle.sc_values.specs.declared.value.Value.TheOpen as v
use Rattle.sc_values.specs.declared.value.Value.TheVariants as value
use Rattle.sc_values.specs.declared.value.Value.TheVariants.{rolls-Set, rolls-Record}
use Rattle.sc_values.specs.Proper.{IsProperLevel, IsProper}

abbrev Proper : Type 0
Proper = (x : Value) × IsProper x

abbrev forget : Value-F Proper → Value-F Value
forget = map-Value Proper Value (λ p. p.0)

-- what the value itself keeps, and its parts with their proofs
pub held : (x : Value-F Value) → IsProper (roll-Value x) → IsProperLevel x × ((y : Value-F Proper) × (forget y ≡ x))
held x h =
    let p = every_held-Value IsProperLevel (roll-Value x) h in
    (subst IsProperLevel (out-roll-Value x) (every_here-Value IsProperLevel (roll-Value x) h), (p.0, p.1 ∙ out-roll-Value x))

each : (ps : List Proper) → AllByRecursion IsProper (map (λ p. p.0) ps)
each [] = tt
each (p ∷ ps) = (p.1, each ps)

each_field : (ps : List (List ℕ × Proper)) → AllByRecursion (λ (f : List ℕ × Value). IsProper f.1) (map (λ (p : List ℕ × Proper). (p.0, p.1.0)) ps)
each_field [] = tt
each_field (p ∷ ps) = (p.1.1, each_field ps)

members_of : (xs : List Value) (y : Value-F Proper) → forget y ≡ v.Set xs → AllByRecursion IsProper xs
members_of xs (v.Bool b) e = cc
members_of xs (v.Long n) e = cc
members_of xs (v.String text) e = cc
members_of xs (v.Entity u) e = cc
members_of xs (v.Set ps) e = let h : map (λ (p : Proper). p.0) ps ≡ xs = cc in subst (AllByRecursion IsProper) h (each ps)
members_of xs (v.Record ps) e = cc
members_of xs (v.Decimal n) e = cc
members_of xs (v.Ip ip) e = cc

pub proper_members : (xs : List Value) → IsProper (value.Set xs) → AllByRecursion IsProper xs
proper_members xs h = let p = held (v.Set xs) (subst IsProper (sym (rolls-Set xs)) h) in members_of xs p.1.0 p.1.1

fields_of : (fs : List (List ℕ × Value)) (y : Value-F Proper) → forget y ≡ v.Record fs → AllByRecursion (λ (f : List ℕ × Value). IsProper f.1) fs
fields_of fs (v.Bool b) e = cc
fields_of fs (v.Long n) e = cc
fields_of fs (v.String text) e = cc
fields_of fs (v.Entity u) e = cc
fields_of fs (v.Set ps) e = cc
fields_of fs (v.Record ps) e = let h : map (λ (p : List ℕ × Proper). (p.0, p.1.0)) ps ≡ fs = cc in subst (AllByRecursion (λ (f : List ℕ × Value). IsProper f.1)) h (each_field ps)
fields_of fs (v.Decimal n) e = cc
fields_of fs (v.Ip ip) e = cc

pub proper_fields : (fs : List (List ℕ × Value)) → IsProper (value.Record fs) → AllByRecursion (λ (f : List ℕ × Value). IsProper f.1) fs
proper_fields fs h = let p = held (v.Record fs) (subst IsProper (sym (rolls-Record fs)) h) in fields_of fs p.1.0 p.1.1

pub ascending_fields : (fs : List (List ℕ × Value)) → IsProper (value.Record fs) → IsStrictlySortedBy text_cmp (keys_of fs)
ascending_fields fs h = (held (v.Record fs) (subst IsProper (sym (rolls-Record fs)) h)).0.0

field_at : (fs : List (List ℕ × Value)) (i : ℕ) (f : List ℕ × Value) → i < length fs → AllByRecursion (λ (g : List ℕ × Value). IsProper g.1) fs → IsProper (get_or fs i f).1
field_at [] i f h all = absurd (omega arith)
field_at (g ∷ fs) zero f h all = all.0
field_at (g ∷ fs) (suc i) f h all = field_at fs i f (omega arith) all.1

pub proper_field : (fs : List (List ℕ × Value)) (i : ℕ) (f : List ℕ × Value) → f ≡ get_or fs i f → i < length fs → IsProper (value.Record fs) → IsProper f.1
proper_field fs i f here h proper = subst (λ (g : List ℕ × Value). IsProper g.1) (sym here) (field_at fs i f h (proper_fields fs proper))
