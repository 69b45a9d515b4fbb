-- A proper value of a type is determined by its JSON.
use Rattle.std.proofs.Common.{◌≡◌, ℕ, List, [], ◌∷◌, map, Bool, true, false, Some, bytes_eq, ◌||◌, IsTrue, ℤ, pos, negsuc, refl, sym, ap, ◌∙◌, subst}
use Rattle.std.proofs.lemmas.Slice.Eq.{bytes_eq-Decides}
use Rattle.std.specs.List.{AllByRecursion, list_all, list_any}
use Rattle.std.proofs.lemmas.Bool.{and_parts, false≢true}
use Rattle.serde_json.specs.Data.{Data}
use Rattle.serde_json.specs.Find.{of_integer}
use Rattle.serde_json.specs.View.{items_of}
use Rattle.sc_names.specs.declared.uid.Uid.{Uid}
use Rattle.sc_decimal.specs.DecimalText.{IsDecimalText, decimal_text}
use Rattle.sc_decimal.proofs.DecimalLaws.{decimal_only}
use Rattle.sc_decimal.proofs.WrittenLaws.{text_reads}
use Rattle.sc_ip.specs.declared.ip.Ip.{Ip}
use Rattle.sc_ip.specs.IpText.{IsIpText, ip_text}
use Rattle.sc_ip.proofs.PrefixLaws.{ip_only}
use Rattle.sc_ip.proofs.WrittenLaws.{text_reads as ip_text_reads}
use Rattle.sc_schema.specs.declared.ty.EntityKind.{EntityKind}
use Rattle.sc_schema.specs.declared.ty.Presence.{Presence}
use Rattle.sc_schema.specs.declared.ty.Ty.{Ty, Ty-F, roll-Ty, map-Ty, ind-Ty, fold-roll-Ty}
use Rattle.sc_schema.specs.declared.ty.Ty.TheOpen as t
use Rattle.sc_values.specs.declared.value.Value.{Value, Value-F, out-Value, roll-Value, map-Value, fold_out-Value, roll-out-Value}
use Rattle.sc_values.specs.declared.value.Value.TheOpen as v
use Rattle.sc_values.specs.declared.value.Value.TheVariants.{rolls-Set, rolls-Record}
use Rattle.sc_values.specs.Proper.{IsProper}
use Rattle.sc_values.specs.Records.{Fields, field}
use Rattle.sc_world.specs.Conforms.{Test, Shape, is_bool, is_truth, is_long, is_string, is_decimal, is_ip, is_entity_of, is_set_of, is_record_of, passes, conforms_step, conforms, shape_of}
use Rattle.sc_world.proofs.DeclaredLaws.{Gets, gets_itself}
use Rattle.sc_world_json.specs.Text.{value_step, value_data, fields_data, uid_data}
use Rattle.sc_world_json.proofs.ProperLaws.{held, proper_members, proper_fields, ascending_fields}
use Rattle.sc_world_json.proofs.TextLaws.{Field}
use Rattle.sc_world.proofs.ConformsLaws.{truth_is_bool}

-- ---- uids and whole numbers

abbrev uid_of : List ℕ → List ℕ → Uid
uid_of type_name id = record { type_name = type_name; id = id }

pub uid-same : (u w : Uid) → uid_data u ≡ uid_data w → u ≡ w
uid-same u w e =
    let types : u.type_name ≡ w.type_name = cc in
    let ids : u.id ≡ w.id = cc in
    ap (λ n. uid_of n u.id) types ∙ ap (uid_of w.type_name) ids

integer-same : (m n : ℤ) → of_integer m ≡ of_integer n → m ≡ n
integer-same (pos m) (pos n) e = let h : m ≡ n = cc in ap pos h
integer-same (pos m) (negsuc n) e = absurd cc
integer-same (negsuc m) (pos n) e = absurd cc
integer-same (negsuc m) (negsuc n) e = cc

-- ---- the data of a layer

abbrev pub layer_data : Value-F Value → Data
layer_data a = value_step (map-Value Value Data value_data a)

pub data_at : (x : Value) (a : Value-F Value) → out-Value x ≡ a → value_data x ≡ layer_data a
unfolding value_data
data_at x a e = fold_out-Value Data value_step x ∙ ap layer_data e

-- proper layers that pass the test are determined by their data
abbrev LayersDetermined : (Value-F Value → Bool) → Type 0
LayersDetermined test = (a b : Value-F Value) → IsProper (roll-Value a) → IsProper (roll-Value b) → IsTrue (test a) → IsTrue (test b) → layer_data a ≡ layer_data b → a ≡ b

-- proper values that pass the test are determined by their data
abbrev pub Determined : Test → Type 0
Determined test = (x y : Value) → IsProper x → IsProper y → IsTrue (test x) → IsTrue (test y) → value_data x ≡ value_data y → x ≡ y

from_layers : (test : Value-F Value → Bool) → LayersDetermined test → Determined (λ x. test (out-Value x))
from_layers test layers x y p q h k e =
    let proper = λ (z : Value) (r : IsProper z). subst IsProper (sym (roll-out-Value z)) r in
    let same = sym (data_at x (out-Value x) refl) ∙ (e ∙ data_at y (out-Value y) refl) in
    sym (roll-out-Value x) ∙ (ap roll-Value (layers (out-Value x) (out-Value y) (proper x p) (proper y q) h k same) ∙ roll-out-Value y)

-- ---- kinds that hold no values

bool-same : LayersDetermined is_bool
bool-same (v.Bool c) (v.Bool d) p q h k e = let s : c ≡ d = cc in ap v.Bool s
bool-same (v.Bool c) _ p q h k e = absurd (false≢true k)
bool-same _ b p q h k e = absurd (false≢true h)

truth-same : (c : Bool) → LayersDetermined (is_truth c)
truth-same c a b p q h k e = bool-same a b p q (truth_is_bool c a h) (truth_is_bool c b k) e

long-same : LayersDetermined is_long
long-same (v.Long m) (v.Long n) p q h k e = let s : of_integer m ≡ of_integer n = cc in ap v.Long (integer-same m n s)
long-same (v.Long m) _ p q h k e = absurd (false≢true k)
long-same _ b p q h k e = absurd (false≢true h)

string-same : LayersDetermined is_string
string-same (v.String m) (v.String n) p q h k e = let s : m ≡ n = cc in ap v.String s
string-same (v.String m) _ p q h k e = absurd (false≢true k)
string-same _ b p q h k e = absurd (false≢true h)

decimal-same : LayersDetermined is_decimal
decimal-same (v.Decimal m) (v.Decimal n) p q h k e =
    let texts : decimal_text m ≡ decimal_text n = cc in
    let reads = λ (z : ℤ) (r : IsProper (roll-Value (v.Decimal z))). text_reads z (held (v.Decimal z) r).0 in
    ap v.Decimal (decimal_only (decimal_text n) m n (subst (λ text. IsDecimalText text m) texts (reads m p)) (reads n q))
decimal-same (v.Decimal m) _ p q h k e = absurd (false≢true k)
decimal-same _ b p q h k e = absurd (false≢true h)

ip-same : LayersDetermined is_ip
ip-same (v.Ip m) (v.Ip n) p q h k e =
    let texts : ip_text m ≡ ip_text n = cc in
    let reads = λ (a : Ip) (r : IsProper (roll-Value (v.Ip a))). ip_text_reads a (held (v.Ip a) r).0 in
    ap v.Ip (ip_only (ip_text n) m n (subst (λ text. IsIpText text m) texts (reads m p)) (reads n q))
ip-same (v.Ip m) _ p q h k e = absurd (false≢true k)
ip-same _ b p q h k e = absurd (false≢true h)

entity-same : (kind : EntityKind) → LayersDetermined (is_entity_of kind)
entity-same kind (v.Entity u) (v.Entity w) p q h k e = let s : uid_data u ≡ uid_data w = cc in ap v.Entity (uid-same u w s)
entity-same kind (v.Entity u) _ p q h k e = absurd (false≢true k)
entity-same kind _ b p q h k e = absurd (false≢true h)

-- ---- sets

pub members-same : (test : Test) → Determined test → (xs ys : List Value) → AllByRecursion IsProper xs → AllByRecursion IsProper ys → IsTrue (list_all test xs) → IsTrue (list_all test ys)
    → items_of (map value_data xs) ≡ items_of (map value_data ys) → xs ≡ ys
members-same test d [] [] p q h k e = refl
members-same test d [] (y ∷ ys) p q h k e = absurd cc
members-same test d (x ∷ xs) [] p q h k e = absurd cc
members-same test d (x ∷ xs) (y ∷ ys) p q h k e =
    let here = and_parts _ _ h in
    let there = and_parts _ _ k in
    let first : x ≡ y = d x y p.0 q.0 here.0 there.0 cc in
    let rest : xs ≡ ys = members-same test d xs ys p.1 q.1 here.1 there.1 cc in
    cc

set-same : (test : Test) → Determined test → LayersDetermined (is_set_of test)
set-same test d (v.Set xs) (v.Set ys) p q h k e =
    let proper = λ (zs : List Value) (r : IsProper (roll-Value (v.Set zs))). proper_members zs (subst IsProper (rolls-Set zs) r) in
    ap v.Set (members-same test d xs ys (proper xs p) (proper ys q) h k cc)
set-same test d (v.Set xs) _ p q h k e = absurd (false≢true k)
set-same test d _ b p q h k e = absurd (false≢true h)

-- ---- records

-- the fields that are there are of the types
abbrev pub AllPass : Shape → Fields → Type 0
AllPass shape fs = IsTrue (list_all (λ (a : List ℕ × Presence × Test). passes a.1 a.2 (field a.0 fs)) shape)

-- the type declares the name
abbrev pub is_declared : Shape → List ℕ → Bool
is_declared shape name = list_any (λ (a : List ℕ × Presence × Test). bytes_eq name a.0) shape

abbrev Known : Type 0
Known = (t : Ty) × Determined (conforms t)

abbrev KnownAttributes : Type 0
KnownAttributes = List (List ℕ × Presence × Known)

abbrev tests : KnownAttributes → Shape
tests ks = shape_of (map (λ (a : List ℕ × Presence × Known). (a.0, a.1, a.2.0)) ks)

attribute-same : (ks : KnownAttributes) (fs gs : Fields) (name : List ℕ) (x y : Value) → IsTrue (is_declared (tests ks) name) → AllPass (tests ks) fs → AllPass (tests ks) gs → field name fs ≡ Some x → field name gs ≡ Some y
    → IsProper x → IsProper y → value_data x ≡ value_data y → x ≡ y
attribute-same [] fs gs name x y d h k f g p q e = absurd cc
attribute-same (a ∷ ks) fs gs name x y d h k f g p q e =
    elim (bytes_eq name a.0) as (λ b. bytes_eq name a.0 ≡ b → x ≡ y) [
      | true ↦ λ is.
          let same : name ≡ a.0 = (bytes_eq-Decides name a.0).0 is in
          let here = subst (λ o. IsTrue (passes a.1 (conforms a.2.0) o)) (ap (λ n. field n fs) (sym same) ∙ f) (and_parts _ _ h).0 in
          let there = subst (λ o. IsTrue (passes a.1 (conforms a.2.0) o)) (ap (λ n. field n gs) (sym same) ∙ g) (and_parts _ _ k).0 in
          a.2.1 x y p q here there e
      | false ↦ λ is. attribute-same ks fs gs name x y (subst (λ b. IsTrue (b || is_declared (tests ks) name)) is d) (and_parts _ _ h).1 (and_parts _ _ k).1 f g p q e
    ] refl

fields-same : (ks : KnownAttributes) (whole other : Fields) → AllPass (tests ks) whole → AllPass (tests ks) other → (fs gs : Fields) → Gets whole fs → Gets other gs
    → IsTrue (list_all (λ (f : Field). is_declared (tests ks) f.0) fs) → AllByRecursion (λ (f : Field). IsProper f.1) fs → AllByRecursion (λ (f : Field). IsProper f.1) gs → fields_data fs ≡ fields_data gs → fs ≡ gs
fields-same ks whole other h k [] [] f g d p q e = refl
fields-same ks whole other h k [] (y ∷ gs) f g d p q e = absurd cc
fields-same ks whole other h k (x ∷ fs) [] f g d p q e = absurd cc
fields-same ks whole other h k (x ∷ fs) (y ∷ gs) f g d p q e =
    let names : x.0 ≡ y.0 = cc in
    let declared = and_parts _ _ d in
    let values : x.1 ≡ y.1 = attribute-same ks whole other x.0 x.1 y.1 declared.0 h k f.0 (ap (λ n. field n other) names ∙ g.0) p.0 q.0 cc in
    let rest : fs ≡ gs = fields-same ks whole other h k fs gs f.1 g.1 declared.1 p.1 q.1 cc in
    let first : ◌≡◌ {A = Field} x y = λ i. (names i, values i) in
    cc

record-same : (ks : KnownAttributes) → LayersDetermined (is_record_of (tests ks))
record-same ks (v.Record fs) (v.Record gs) p q h k e =
    let proper = λ (zs : Fields) (r : IsProper (roll-Value (v.Record zs))). subst IsProper (rolls-Record zs) r in
    let here = and_parts _ _ h in
    let there = and_parts _ _ k in
    ap v.Record (fields-same ks fs gs here.0 there.0 fs gs (gets_itself fs (ascending_fields fs (proper fs p))) (gets_itself gs (ascending_fields gs (proper gs q)))
    here.1 (proper_fields fs (proper fs p)) (proper_fields gs (proper gs q)) cc)
record-same ks (v.Record fs) _ p q h k e = absurd (false≢true k)
record-same ks _ b p q h k e = absurd (false≢true h)

-- ---- all types

abbrev forget : Ty-F Known → Ty-F Ty
forget = map-Ty Known Ty (λ k. k.0)

step-same : (z : Ty-F Known) → Determined (conforms_step (map-Ty Ty Test conforms (forget z)))
step-same t.True = from_layers (is_truth true) (truth-same true)
step-same t.False = from_layers (is_truth false) (truth-same false)
step-same t.Bool = from_layers is_bool bool-same
step-same t.Long = from_layers is_long long-same
step-same t.String = from_layers is_string string-same
step-same t.Decimal = from_layers is_decimal decimal-same
step-same t.Ip = from_layers is_ip ip-same
step-same (t.Entity kind) = from_layers (is_entity_of kind) (entity-same kind)
step-same (t.Set k) = from_layers (is_set_of (conforms k.0)) (set-same (conforms k.0) k.1)
step-same (t.Record ks) = from_layers (is_record_of (tests ks)) (record-same ks)

-- proper values of one type with one JSON are one
pub typed-same : (t : Ty) → Determined (conforms t)
unfolding conforms
typed-same = ind-Ty (λ t. Determined (conforms t)) (λ x y e. subst (λ z. Determined (conforms (roll-Ty z))) e (subst Determined (sym (fold-roll-Ty Test conforms_step (forget y))) (step-same y)))
