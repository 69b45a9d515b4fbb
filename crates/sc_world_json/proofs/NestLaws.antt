-- The JSON of a value nests at most one level deeper than the types of the value do, since an entity and the value of a
-- function, whose types have one level, are objects in objects.
use Rattle.std.proofs.Common.{◌≡◌, ◌≤◌, ◌+◌, ℕ, List, [], ◌∷◌, map, Bool, true, false, Some, bytes_eq, ◌||◌, IsTrue, refl, sym, ap, ◌∙◌, subst, arith}
use Rattle.std.proofs.lemmas.Bool.{and_parts, false≢true}
use Rattle.std.proofs.lemmas.Slice.Eq.{bytes_eq-Decides}
use Rattle.std.specs.List.{AllByRecursion, list_all}
use Rattle.serde_json.specs.Data.{depth, items_depth, members_depth}
use Rattle.serde_json.specs.View.{items_of}
use Rattle.sc_schema.specs.declared.ty.EntityKind.{EntityKind}
use Rattle.sc_schema.specs.declared.ty.Presence.{Presence}
use Rattle.sc_schema.specs.declared.ty.Ty.{Ty, Ty-F, roll-Ty, map-Ty, ind-Ty, fold-roll-Ty}
use Rattle.sc_schema.specs.declared.ty.Ty.TheOpen as t
use Rattle.sc_schema.specs.Sizes.{deepest, levels_step, levels}
use Rattle.sc_schema.proofs.SizesLaws.{levels-roll}
use Rattle.sc_values.specs.declared.value.Value.{Value, Value-F, out-Value, roll-Value, roll-out-Value}
use Rattle.sc_values.specs.declared.value.Value.TheOpen as v
use Rattle.sc_values.specs.declared.value.Value.TheVariants.{rolls-Set, rolls-Record}
use Rattle.sc_values.specs.Proper.{IsProper}
use Rattle.sc_values.specs.Records.{Fields, field}
use Rattle.sc_world.specs.Conforms.{Test, Shape, is_bool, is_truth, is_long, is_string, is_decimal, is_ip, is_entity_of, is_set_of, is_record_of, passes, conforms_step, conforms, shape_of}
use Rattle.sc_world.proofs.DeclaredLaws.{Gets, gets_itself}
use Rattle.sc_world_json.specs.Text.{value_data, fields_data}
use Rattle.sc_world_json.proofs.ProperLaws.{proper_members, proper_fields, ascending_fields}
use Rattle.sc_world_json.proofs.TextLaws.{Field}
use Rattle.sc_world_json.proofs.TypedLaws.{layer_data, data_at, AllPass, is_declared}
use Rattle.sc_world.proofs.ConformsLaws.{truth_is_bool}

-- proper values that pass the test nest at most so deep
abbrev pub Nests : Test → ℕ → Type 0
Nests test n = (x : Value) → IsProper x → IsTrue (test x) → depth (value_data x) ≤ n

-- the same of layers
abbrev LayersNest : (Value-F Value → Bool) → ℕ → Type 0
LayersNest test n = (a : Value-F Value) → IsProper (roll-Value a) → IsTrue (test a) → depth (layer_data a) ≤ n

from_layers : (test : Value-F Value → Bool) (n : ℕ) → LayersNest test n → Nests (λ x. test (out-Value x)) n
from_layers test n layers x p h =
    subst (λ d. depth d ≤ n) (sym (data_at x (out-Value x) refl)) (layers (out-Value x) (subst IsProper (sym (roll-out-Value x)) p) h)

-- ---- kinds that hold no values

bool-nests : LayersNest is_bool 2
bool-nests (v.Bool c) p h = omega arith
bool-nests _ p h = absurd (false≢true h)

truth-nests : (c : Bool) → LayersNest (is_truth c) 2
truth-nests c a p h = bool-nests a p (truth_is_bool c a h)

long-nests : LayersNest is_long 2
long-nests (v.Long n) p h = omega arith
long-nests _ p h = absurd (false≢true h)

string-nests : LayersNest is_string 2
string-nests (v.String text) p h = omega arith
string-nests _ p h = absurd (false≢true h)

decimal-nests : LayersNest is_decimal 2
decimal-nests (v.Decimal n) p h = omega arith
decimal-nests _ p h = absurd (false≢true h)

ip-nests : LayersNest is_ip 2
ip-nests (v.Ip ip) p h = omega arith
ip-nests _ p h = absurd (false≢true h)

entity-nests : (kind : EntityKind) → LayersNest (is_entity_of kind) 2
entity-nests kind (v.Entity u) p h = omega arith
entity-nests kind _ p h = absurd (false≢true h)

-- ---- sets

members-nest : (test : Test) (n : ℕ) → Nests test n → (xs : List Value) → AllByRecursion IsProper xs → IsTrue (list_all test xs) → items_depth (items_of (map value_data xs)) ≤ n
members-nest test n nests [] p h = omega arith
members-nest test n nests (x ∷ xs) p h =
    let parts = and_parts (test x) (list_all test xs) h in
    omega (arith, nests x p.0 parts.0, members-nest test n nests xs p.1 parts.1)

set-nests : (test : Test) (n : ℕ) → Nests test n → LayersNest (is_set_of test) (n + 1)
set-nests test n nests (v.Set xs) p h = omega (arith, members-nest test n nests xs (proper_members xs (subst IsProper (rolls-Set xs) p)) h)
set-nests test n nests _ p h = absurd (false≢true h)

-- ---- records

abbrev NestsAsTyped : Ty → Type 0
NestsAsTyped t = Nests (conforms t) (levels t + 1)

abbrev Known : Type 0
Known = (t : Ty) × NestsAsTyped t

abbrev KnownAttributes : Type 0
KnownAttributes = List (List ℕ × Presence × Known)

abbrev attributes_of : KnownAttributes → List (List ℕ × Presence × Ty)
attributes_of ks = map (λ (a : List ℕ × Presence × Known). (a.0, a.1, a.2.0)) ks

abbrev tests : KnownAttributes → Shape
tests ks = shape_of (attributes_of ks)

-- the most levels of an attribute
abbrev most : KnownAttributes → ℕ
most ks = deepest (map (λ (a : List ℕ × Presence × Ty). (a.0, a.1, levels a.2)) (attributes_of ks))

attribute-nests : (ks : KnownAttributes) (fs : Fields) (name : List ℕ) (x : Value) → IsTrue (is_declared (tests ks) name) → AllPass (tests ks) fs → field name fs ≡ Some x → IsProper x → depth (value_data x) ≤ most ks + 1
attribute-nests [] fs name x d h f p = absurd cc
attribute-nests (a ∷ ks) fs name x d h f p =
    elim (bytes_eq name a.0) as (λ b. bytes_eq name a.0 ≡ b → depth (value_data x) ≤ most (a ∷ ks) + 1) [
      | true ↦ λ is.
          let same : name ≡ a.0 = (bytes_eq-Decides name a.0).0 is in
          let here = subst (λ o. IsTrue (passes a.1 (conforms a.2.0) o)) (ap (λ n. field n fs) (sym same) ∙ f) (and_parts _ _ h).0 in
          omega (arith, a.2.1 x p here)
      | false ↦ λ is. omega (arith, attribute-nests ks fs name x (subst (λ b. IsTrue (b || is_declared (tests ks) name)) is d) (and_parts _ _ h).1 f p)
    ] refl

fields-nest : (ks : KnownAttributes) (whole : Fields) → AllPass (tests ks) whole → (fs : Fields) → Gets whole fs → IsTrue (list_all (λ (f : Field). is_declared (tests ks) f.0) fs)
    → AllByRecursion (λ (f : Field). IsProper f.1) fs → members_depth (fields_data fs) ≤ most ks + 1
fields-nest ks whole h [] g d p = omega arith
fields-nest ks whole h (f ∷ fs) g d p =
    let declared = and_parts (is_declared (tests ks) f.0) (list_all (λ (g : Field). is_declared (tests ks) g.0) fs) d in
    omega (arith, attribute-nests ks whole f.0 f.1 declared.0 h g.0 p.0, fields-nest ks whole h fs g.1 declared.1 p.1)

record-nests : (ks : KnownAttributes) → LayersNest (is_record_of (tests ks)) (most ks + 1 + 1)
record-nests ks (v.Record fs) p h =
    let proper = subst IsProper (rolls-Record fs) p in
    let parts = and_parts _ _ h in
    let inside : members_depth (fields_data fs) ≤ most ks + 1 =
    fields-nest ks fs parts.0 fs (gets_itself fs (ascending_fields fs proper)) parts.1 (proper_fields fs proper)
    in
    omega (arith, inside)
record-nests ks _ p h = absurd (false≢true h)

-- ---- all types

abbrev forget : Ty-F Known → Ty-F Ty
forget = map-Ty Known Ty (λ k. k.0)

step-nests : (z : Ty-F Known) → Nests (conforms_step (map-Ty Ty Test conforms (forget z))) (levels_step (map-Ty Ty ℕ levels (forget z)) + 1)
step-nests t.True = from_layers (is_truth true) 2 (truth-nests true)
step-nests t.False = from_layers (is_truth false) 2 (truth-nests false)
step-nests t.Bool = from_layers is_bool 2 bool-nests
step-nests t.Long = from_layers is_long 2 long-nests
step-nests t.String = from_layers is_string 2 string-nests
step-nests t.Decimal = from_layers is_decimal 2 decimal-nests
step-nests t.Ip = from_layers is_ip 2 ip-nests
step-nests (t.Entity kind) = from_layers (is_entity_of kind) 2 (entity-nests kind)
step-nests (t.Set k) = from_layers (is_set_of (conforms k.0)) (levels k.0 + 1 + 1) (set-nests (conforms k.0) (levels k.0 + 1) k.1)
step-nests (t.Record ks) = from_layers (is_record_of (tests ks)) (most ks + 1 + 1) (record-nests ks)

layer-nests : (z : Ty-F Known) → NestsAsTyped (roll-Ty (forget z))
unfolding conforms
layer-nests z =
    subst (λ (test : Test). Nests test (levels (roll-Ty (forget z)) + 1)) (sym (fold-roll-Ty Test conforms_step (forget z)))
    (subst (λ (n : ℕ). Nests (conforms_step (map-Ty Ty Test conforms (forget z))) (n + 1)) (sym (levels-roll (forget z))) (step-nests z))

-- proper values of a type nest at most one level deeper than the type
pub typed-nests : (t : Ty) → Nests (conforms t) (levels t + 1)
typed-nests = ind-Ty NestsAsTyped (λ x y e. subst (λ z. NestsAsTyped (roll-Ty z)) e (layer-nests y))
