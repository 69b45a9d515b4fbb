-- The JSON of a value with plain names has no fault, and says the value.
use Rattle.std.proofs.Common.{◌≡◌, ◌∙◌, ◌^◌, ◌+◌, ℕ, ℤ, pos, negsuc, List, [], ◌∷◌, map, true, Option, Some, None, IsTrue, FitsSigned, w64, nat_lt, is_none, codes, refl, sym, ap, ap₂, subst, arith}
use Rattle.std.proofs.lemmas.Bool.Decides.{nat_tests}
use Rattle.std.specs.List.{AllByRecursion, list_all}
use Rattle.std.specs.List.Sorted.{IsStrictlySortedBy}
use Rattle.std.proofs.lemmas.Bool.{and_parts}
use Rattle.serde_json.specs.Data.{Data, array, object}
use Rattle.serde_json.specs.Find.{as_i64, of_integer}
use Rattle.serde_json.specs.View.{items_of}
use Rattle.sc_decimal.specs.DecimalText.{decimal_text}
use Rattle.sc_decimal.specs.DecimalValue.{decimal_of}
use Rattle.sc_decimal.proofs.ValueLaws.{decimal_of_decides}
use Rattle.sc_decimal.proofs.WrittenLaws.{text_reads}
use Rattle.sc_ip.specs.declared.ip.Ip.{Ip}
use Rattle.sc_ip.specs.IpText.{ip_text}
use Rattle.sc_ip.specs.IpValue.{ip_of}
use Rattle.sc_ip.proofs.ValueLaws.{ip_of_decides}
use Rattle.sc_ip.proofs.WrittenLaws.{text_reads as ip_text_reads}
use Rattle.sc_names.specs.declared.uid.Uid.{Uid}
use Rattle.sc_values.specs.declared.value.Value.{Value, Value-F, roll-Value, map-Value, ind-Value, fold-roll-Value}
use Rattle.sc_values.specs.declared.value.Value.TheOpen as v
use Rattle.sc_values.specs.declared.value.Value.TheVariants as value
use Rattle.sc_values.specs.declared.value.Value.TheVariants.{rolls-Bool, rolls-Long, rolls-String, rolls-Entity, rolls-Set, rolls-Record, rolls-Decimal, rolls-Ip}
use Rattle.sc_values.specs.Order.{value_cmp}
use Rattle.sc_values.specs.Proper.{IsProper, IsProperRecord}
use Rattle.sc_values.specs.Records.{Fields}
use Rattle.sc_values.proofs.OrderLaws.{value_cmp_total, value_cmp_exact}
use Rattle.sc_world_json.specs.declared.form.Form.TheVariants as form
use Rattle.sc_world_json.specs.declared.level.Level.TheVariants as level
use Rattle.sc_world_json.specs.declared.mark.Mark.{Mark}
use Rattle.sc_world_json.specs.Marks.{mark_named, mark_of}
use Rattle.sc_world_json.specs.Faults.{value_fault, items_fault, members_fault}
use Rattle.sc_world_json.specs.PlainKeys.{is_plain, are_plain}
use Rattle.sc_world_json.specs.Text.{value_step, value_data, fields_data, reference_data, extension_data}
use Rattle.sc_world_json.specs.Worlds.{in_order, value_of, values_of, fields_of}
use Rattle.sc_world_json.proofs.InOrderLaws.{in_order-same}
use Rattle.sc_world_json.proofs.PlainLaws.{is_plain-Set, is_plain-Record}
use Rattle.sc_world_json.proofs.ProperLaws.{held, proper_members, proper_fields}
use Rattle.sc_world_json.proofs.TextLaws.{Field}

-- ---- values that hold no values

-- the data has no fault where a value has to stand, and says the value
pub record ReadsAs (d : Data) (x : Value) : Type 0 where
  pub no_fault : value_fault form.Value d ≡ None
  pub said : value_of d ≡ x

long_read : (n : ℤ) → FitsSigned w64 n → as_i64 (of_integer n) ≡ Some n
long_read (pos n) h = let within : nat_lt n (2 ^ 63) ≡ true = grind (arith, nat_tests) in rw within refl
long_read (negsuc n) h = refl

reads-Long : (n : ℤ) → FitsSigned w64 n → ReadsAs (value_step (v.Long n)) (value.Long n)
unfolding value_fault value_of
reads-Long n h = record { no_fault = rw (long_read n h) refl; said = rw (long_read n h) refl }

reads-Entity : (u : Uid) → ReadsAs (reference_data u) (value.Entity u)
unfolding value_fault value_of
reads-Entity u = record { no_fault = refl; said = refl }

reads-Decimal : (n : ℤ) (text : List ℕ) → decimal_of text ≡ Some n → ReadsAs (extension_data (codes "decimal") text) (value.Decimal n)
unfolding value_fault value_of
reads-Decimal n text is = record { no_fault = rw is refl; said = rw is refl }

reads-Ip : (ip : Ip) (text : List ℕ) → ip_of text ≡ Some ip → ReadsAs (extension_data (codes "ip") text) (value.Ip ip)
unfolding value_fault value_of
reads-Ip ip text is = record { no_fault = rw is refl; said = rw is refl }

-- ---- sets

abbrev AllRead : List Value → Type 0
AllRead = AllByRecursion (λ x. ReadsAs (value_data x) x)

members-no_fault : (xs : List Value) (n : ℕ) → AllRead xs → items_fault form.Value n (items_of (map value_data xs)) ≡ None
unfolding value_fault
members-no_fault [] n all = refl
members-no_fault (x ∷ xs) n all = rw (all.0.no_fault, members-no_fault xs (n + 1) all.1) refl

members-said : (xs : List Value) → AllRead xs → values_of (items_of (map value_data xs)) ≡ xs
unfolding value_of
members-said [] all = refl
members-said (x ∷ xs) all = rw (all.0.said, members-said xs all.1) refl

reads-Set : (xs : List Value) → IsStrictlySortedBy value_cmp xs → AllRead xs → ReadsAs (array (items_of (map value_data xs))) (value.Set xs)
unfolding value_fault value_of
reads-Set xs ascending all = record {
  no_fault = members-no_fault xs 0 all;
  said = ap value.Set (ap (in_order value_cmp) (members-said xs all) ∙ in_order-same value_cmp_total value_cmp_exact xs ascending);
}

-- ---- records

no_mark : (o : Option Mark) → IsTrue (is_none o) → o ≡ None
no_mark None h = refl
no_mark (Some mark) h = absurd cc

pub unmarked : (fs : Fields) → IsTrue (are_plain fs) → mark_of (fields_data fs) ≡ None
unmarked [] h = refl
unmarked (f ∷ []) h = no_mark (mark_named f.0) (and_parts _ _ (and_parts _ _ h).0).0
unmarked (f ∷ g ∷ fs) h = refl

abbrev FieldsRead : Fields → Type 0
FieldsRead = AllByRecursion (λ (f : Field). ReadsAs (value_data f.1) f.1)

fields-no_fault : (fs : Fields) → FieldsRead fs → members_fault level.Fields (fields_data fs) ≡ None
unfolding value_fault
fields-no_fault [] all = refl
fields-no_fault (f ∷ fs) all = rw (all.0.no_fault, fields-no_fault fs all.1) refl

fields-said : (fs : Fields) → FieldsRead fs → fields_of (fields_data fs) ≡ fs
unfolding value_of
fields-said [] all = refl
fields-said (f ∷ fs) all = ap₂ (λ (x : Value) (gs : Fields). (f.0, x) ∷ gs) all.0.said (fields-said fs all.1)

reads-Record : (fs : Fields) → IsTrue (are_plain fs) → FieldsRead fs → ReadsAs (object (fields_data fs)) (value.Record fs)
unfolding value_fault value_of
reads-Record fs plain all = record {
  no_fault = rw (unmarked fs plain) (fields-no_fault fs all);
  said = rw (unmarked fs plain) (ap value.Record (fields-said fs all));
}

-- ---- all values

abbrev ReadsBack : Value → Type 0
ReadsBack x = IsProper x → IsTrue (is_plain x) → ReadsAs (value_data x) x

abbrev Known : Type 0
Known = (x : Value) × ReadsBack x

abbrev forget : Value-F Known → Value-F Value
forget = map-Value Known Value (λ k. k.0)

members-read : (ks : List Known) → AllByRecursion IsProper (map (λ (k : Known). k.0) ks) → IsTrue (list_all is_plain (map (λ (k : Known). k.0) ks)) → AllRead (map (λ (k : Known). k.0) ks)
members-read [] h p = tt
members-read (k ∷ ks) h p = let parts = and_parts _ _ p in (k.1 h.0 parts.0, members-read ks h.1 parts.1)

abbrev known_fields : List (List ℕ × Known) → Fields
known_fields ks = map (λ (k : List ℕ × Known). (k.0, k.1.0)) ks

fields-read : (ks : List (List ℕ × Known)) → AllByRecursion (λ (f : Field). IsProper f.1) (known_fields ks) → IsTrue (are_plain (known_fields ks)) → FieldsRead (known_fields ks)
fields-read [] h p = tt
fields-read (k ∷ ks) h p = let parts = and_parts _ _ p in (k.1.1 h.0 (and_parts _ _ parts.0).1, fields-read ks h.1 parts.1)

-- the data of a layer reads as the value that is rolled from it
abbrev LayerReads : Value-F Value → Type 0
LayerReads y = ReadsAs (value_step (map-Value Value Data value_data y)) (roll-Value y)

rolled : (d : Data) (x z : Value) → z ≡ x → ReadsAs d x → ReadsAs d z
rolled d x z is reads = subst (ReadsAs d) (sym is) reads

layer : (y : Value-F Known) → IsProper (roll-Value (forget y)) → IsTrue (is_plain (roll-Value (forget y))) → LayerReads (forget y)
unfolding value_fault value_of
layer (v.Bool b) h p = rolled _ _ _ (rolls-Bool b) (record { no_fault = refl; said = refl })
layer (v.Long n) h p = rolled _ _ _ (rolls-Long n) (reads-Long n (held (v.Long n) h).0)
layer (v.String text) h p = rolled _ _ _ (rolls-String text) (record { no_fault = refl; said = refl })
layer (v.Entity u) h p = rolled _ _ _ (rolls-Entity u) (reads-Entity u)
layer (v.Set ks) h p =
    let xs = map (λ (k : Known). k.0) ks in
    let plain : IsTrue (list_all is_plain xs) = subst IsTrue (ap is_plain (rolls-Set xs) ∙ is_plain-Set xs) p in
    rolled _ _ _ (rolls-Set xs) (reads-Set xs (held (v.Set xs) h).0 (members-read ks (proper_members xs (subst IsProper (rolls-Set xs) h)) plain))
layer (v.Record ks) h p =
    let fs = known_fields ks in
    let plain : IsTrue (are_plain fs) = subst IsTrue (ap is_plain (rolls-Record fs) ∙ is_plain-Record fs) p in
    let all = fields-read ks (proper_fields fs (subst IsProper (rolls-Record fs) h)) plain in
    rolled _ _ _ (rolls-Record fs) (reads-Record fs plain all)
layer (v.Decimal n) h p = rolled _ _ _ (rolls-Decimal n) (reads-Decimal n (decimal_text n) ((decimal_of_decides (decimal_text n) n).1 (text_reads n (held (v.Decimal n) h).0)))
layer (v.Ip ip) h p = rolled _ _ _ (rolls-Ip ip) (reads-Ip ip (ip_text ip) ((ip_of_decides (ip_text ip) ip).1 (ip_text_reads ip (held (v.Ip ip) h).0)))

pub reads_back : (x : Value) → ReadsBack x
unfolding value_data
reads_back = ind-Value ReadsBack (λ x y e. subst (λ z. ReadsBack (roll-Value z)) e (λ h p. subst (λ d. ReadsAs d (roll-Value (forget y))) (sym (fold-roll-Value Data value_step (forget y))) (layer y h p)))

-- ---- records, where a record has to stand

fields_back : (fs : Fields) → AllByRecursion (λ (f : Field). IsProper f.1) fs → IsTrue (are_plain fs) → FieldsRead fs
fields_back [] h p = tt
fields_back (f ∷ fs) h p = let parts = and_parts _ _ p in (reads_back f.1 h.0 (and_parts _ _ parts.0).1, fields_back fs h.1 parts.1)

pub record_no_fault : (fs : Fields) → IsProperRecord fs → IsTrue (are_plain fs) → value_fault form.Record (object (fields_data fs)) ≡ None
unfolding value_fault
record_no_fault fs h p = rw (unmarked fs p) (fields-no_fault fs (fields_back fs (proper_fields fs h) p))

pub record_said : (fs : Fields) → IsProperRecord fs → IsTrue (are_plain fs) → fields_of (fields_data fs) ≡ fs
record_said fs h p = fields-said fs (fields_back fs (proper_fields fs h) p)
