-- A value of one of two types is of the type that they join to.
use Rattle.std.proofs.Common.{◌≡◌, ◌&&◌, ◌||◌, ℕ, List, [], ◌∷◌, map, Bool, true, false, if◌then◌else◌, IsTrue, Option, Some, None, option_map, refl, sym, ap, subst, subst₂, ◌∙◌}
use Rattle.std.specs.List.{list_all, list_any}
use Rattle.std.specs.Option.{option_and_then}
use Rattle.std.specs.Cmp.Lexicographic.{pointwise}
use Rattle.std.specs.Str.{bytes_eq}
use Rattle.std.proofs.lemmas.Slice.Eq.{bytes_eq-Decides}
use Rattle.std.proofs.lemmas.Bool.{and_from, and_parts}
use Rattle.sc_schema.specs.declared.ty.EntityKind.{EntityKind}
use Rattle.sc_schema.specs.declared.ty.Presence.{Presence}
use Rattle.sc_schema.specs.declared.ty.Presence.TheVariants.{Required, Optional}
use Rattle.sc_schema.specs.declared.ty.Ty.{Ty, Ty-F, out-Ty, roll-Ty, map-Ty, ind-Ty, fold-roll-Ty}
use Rattle.sc_schema.specs.declared.ty.Ty.TheVariants as types
use Rattle.sc_schema.specs.declared.ty.Ty.TheVariants.{rolls-True, rolls-False, rolls-Bool, rolls-Long, rolls-String, rolls-Decimal, rolls-Ip, rolls-Entity, rolls-Set, rolls-Record}
use Rattle.sc_schema.specs.declared.ty.Ty.TheOpen as t
use Rattle.sc_values.specs.declared.value.Value.{Value, Value-F, out-Value}
use Rattle.sc_values.specs.declared.value.Value.TheOpen as v
use Rattle.sc_values.specs.Records.{Fields, field}
use Rattle.sc_world.specs.Conforms.{Test, conforms, is_set_of, is_record_of, passes, has_shape, shape_of}
use Rattle.sc_typed.specs.Types.{Field, is_true_in, is_false_in, is_boolean_in, is_long_in, is_string_in, is_decimal_in, is_ip_in, entity_kind_in, member_in, record_fields_in, only_if, same_kind, same_presence, with_front, join_fields, join_step, join}
use Rattle.sc_typed.proofs.KindLaws.{one_kind}
use Rattle.sc_soundness_laws.proofs.ValueLaws.{fits, conforms-out, conforms-roll}
use Rattle.sc_world.proofs.ConformsLaws.{truth_is_bool}

-- what conforms to the first type conforms to the second one
abbrev pub IsWithin : Ty → Ty → Type 0
IsWithin a u = (x : Value) → IsTrue (conforms a x) → IsTrue (conforms u x)

pub record Joins (a b u : Ty) : Type 0 where
  pub first : IsWithin a u
  pub second : IsWithin b u

abbrev IsJoined : Ty → Type 0
IsJoined a = (b u : Ty) → join a b ≡ Some u → Joins a b u

abbrev Known : Type 0
Known = (a : Ty) × IsJoined a

-- the same of two types one level deep
abbrev FitsIn : Ty-F Ty → Ty → Type 0
FitsIn y u = (x : Value) → IsTrue (fits y x) → IsTrue (conforms u x)

abbrev BothFit : Ty-F Ty → Ty-F Ty → Ty → Type 0
BothFit y z u = FitsIn y u × FitsIn z u

named : (type u : Ty) (y : Ty-F Ty) → roll-Ty y ≡ type → type ≡ u → FitsIn y u
named type u y at is x h = subst (λ z. IsTrue (conforms z x)) is (conforms-roll type y at x ∙ h)

-- ---- truth values

in_bool : (u : Ty) → types.Bool ≡ u → FitsIn t.Bool u
in_bool u is = named types.Bool u t.Bool rolls-Bool is

true_in_bool : (u : Ty) → types.Bool ≡ u → FitsIn t.True u
true_in_bool u is x h = in_bool u is x (truth_is_bool true (out-Value x) h)

false_in_bool : (u : Ty) → types.Bool ≡ u → FitsIn t.False u
false_in_bool u is x h = in_bool u is x (truth_is_bool false (out-Value x) h)

true_row : (z : Ty-F Ty) (u : Ty) → (if is_true_in z then Some types.True else only_if (is_boolean_in z) types.Bool) ≡ Some u → BothFit t.True z u
true_row t.True u e = let is : types.True ≡ u = cc in (named types.True u t.True rolls-True is, named types.True u t.True rolls-True is)
true_row t.False u e = let is : types.Bool ≡ u = cc in (true_in_bool u is, false_in_bool u is)
true_row t.Bool u e = let is : types.Bool ≡ u = cc in (true_in_bool u is, in_bool u is)
true_row _ u e = absurd cc

false_row : (z : Ty-F Ty) (u : Ty) → (if is_false_in z then Some types.False else only_if (is_boolean_in z) types.Bool) ≡ Some u → BothFit t.False z u
false_row t.True u e = let is : types.Bool ≡ u = cc in (false_in_bool u is, true_in_bool u is)
false_row t.False u e = let is : types.False ≡ u = cc in (named types.False u t.False rolls-False is, named types.False u t.False rolls-False is)
false_row t.Bool u e = let is : types.Bool ≡ u = cc in (false_in_bool u is, in_bool u is)
false_row _ u e = absurd cc

bool_row : (z : Ty-F Ty) (u : Ty) → only_if (is_boolean_in z) types.Bool ≡ Some u → BothFit t.Bool z u
bool_row t.True u e = let is : types.Bool ≡ u = cc in (in_bool u is, true_in_bool u is)
bool_row t.False u e = let is : types.Bool ≡ u = cc in (in_bool u is, false_in_bool u is)
bool_row t.Bool u e = let is : types.Bool ≡ u = cc in (in_bool u is, in_bool u is)
bool_row _ u e = absurd cc

-- ---- types with nothing inside

twice : (type u : Ty) (y : Ty-F Ty) → roll-Ty y ≡ type → type ≡ u → BothFit y y u
twice type u y at is = (named type u y at is, named type u y at is)

long_row : (z : Ty-F Ty) (u : Ty) → only_if (is_long_in z) types.Long ≡ Some u → BothFit t.Long z u
long_row t.Long u e = let is : types.Long ≡ u = cc in twice types.Long u t.Long rolls-Long is
long_row _ u e = absurd cc

string_row : (z : Ty-F Ty) (u : Ty) → only_if (is_string_in z) types.String ≡ Some u → BothFit t.String z u
string_row t.String u e = let is : types.String ≡ u = cc in twice types.String u t.String rolls-String is
string_row _ u e = absurd cc

decimal_row : (z : Ty-F Ty) (u : Ty) → only_if (is_decimal_in z) types.Decimal ≡ Some u → BothFit t.Decimal z u
decimal_row t.Decimal u e = let is : types.Decimal ≡ u = cc in twice types.Decimal u t.Decimal rolls-Decimal is
decimal_row _ u e = absurd cc

ip_row : (z : Ty-F Ty) (u : Ty) → only_if (is_ip_in z) types.Ip ≡ Some u → BothFit t.Ip z u
ip_row t.Ip u e = let is : types.Ip ≡ u = cc in twice types.Ip u t.Ip rolls-Ip is
ip_row _ u e = absurd cc

same_entity : (a n : EntityKind) (u : Ty) (b : Bool) → (bytes_eq a.name n.name && pointwise bytes_eq a.choices n.choices) ≡ b → only_if b (types.Entity n) ≡ Some u → BothFit (t.Entity a) (t.Entity n) u
same_entity a n u true at e =
    let is : types.Entity n ≡ u = cc in
    let second : FitsIn (t.Entity n) u = named (types.Entity n) u (t.Entity n) (rolls-Entity n) is in
    (subst (λ m. FitsIn (t.Entity m) u) (sym (one_kind a n at)) second, second)
same_entity a n u false at e = absurd cc

entity_row : (a : EntityKind) (z : Ty-F Ty) (u : Ty) → option_and_then (same_kind a) (entity_kind_in z) ≡ Some u → BothFit (t.Entity a) z u
entity_row a (t.Entity n) u e = same_entity a n u _ refl e
entity_row a _ u e = absurd cc

-- ---- sets

each : (a j : Ty) → IsWithin a j → (xs : List Value) → IsTrue (list_all (conforms a) xs) → IsTrue (list_all (conforms j) xs)
each a j f [] h = refl
each a j f (x ∷ xs) h = let p = and_parts (conforms a x) (list_all (conforms a) xs) h in and_from (conforms j x) (list_all (conforms j) xs) (f x p.0) (each a j f xs p.1)

in_set : (a j : Ty) → IsWithin a j → (z : Value-F Value) → IsTrue (is_set_of (conforms a) z) → IsTrue (is_set_of (conforms j) z)
in_set a j f (v.Set xs) h = each a j f xs h
in_set a j f _ h = absurd cc

set_in : (a j u : Ty) → IsWithin a j → types.Set j ≡ u → FitsIn (t.Set a) u
set_in a j u f is x h = named (types.Set j) u (t.Set j) (rolls-Set j) is x (in_set a j f (out-Value x) h)

joined_set : (k : Known) (m u : Ty) (o : Option Ty) → join k.0 m ≡ o → option_map types.Set o ≡ Some u → BothFit (t.Set k.0) (t.Set m) u
joined_set k m u (Some j) at e =
    let is : types.Set j ≡ u = cc in
    let p = k.1 m j at in
    (set_in k.0 j u p.first is, set_in m j u p.second is)
joined_set k m u None at e = absurd cc

set_row : (k : Known) (z : Ty-F Ty) (u : Ty) → option_and_then (λ m. option_map types.Set (join k.0 m)) (member_in z) ≡ Some u → BothFit (t.Set k.0) z u
set_row k (t.Set m) u e = joined_set k m u (join k.0 m) refl e
set_row k _ u e = absurd cc

-- ---- records

-- fields of the same names and presence, of which each of the first is within that of the second
abbrev AreWithin : List Field → List Field → Type 0
AreWithin [] [] = Unit {0}
AreWithin [] (u ∷ us) = ⊥
AreWithin (f ∷ fs) [] = ⊥
AreWithin (f ∷ fs) (u ∷ us) = (f.0 ≡ u.0) × (f.1 ≡ u.1) × IsWithin f.2 u.2 × AreWithin fs us

same_presences : (p q : Presence) → same_presence p q ≡ true → p ≡ q
same_presences Required Required h = refl
same_presences Required Optional h = absurd cc
same_presences Optional Required h = absurd cc
same_presences Optional Optional h = refl

abbrev known_fields : List (List ℕ × Presence × Known) → List Field
known_fields es = map (λ (e : List ℕ × Presence × Known). (e.0, e.1, e.2.0)) es

abbrev joins : List Field → List (List ℕ × Presence × (Ty → Option Ty))
joins fs = map (λ (f : List ℕ × Presence × Ty). (f.0, f.1, join f.2)) fs

abbrev AreJoined : List Field → List Field → List Field → Type 0
AreJoined fs gs us = AreWithin fs us × AreWithin gs us

field_joined : (f : List ℕ × Presence × Known) (fs : List Field) (g : Field) (gs us : List Field) (b : Bool) → (bytes_eq f.0 g.0 && same_presence f.1 g.1) ≡ b → (o : Option Ty) → join f.2.0 g.2 ≡ o → (rest : Option (List Field))
    → ((vs : List Field) → rest ≡ Some vs → AreJoined fs gs vs) → (if b then with_front g.0 g.1 o rest else None) ≡ Some us → AreJoined ((f.0, f.1, f.2.0) ∷ fs) (g ∷ gs) us
field_joined f fs g gs us true alike (Some j) at (Some vs) later e =
    let is : ◌≡◌ {A = List Field} ((g.0, g.1, j) ∷ vs) us = cc in
    let p = and_parts (bytes_eq f.0 g.0) (same_presence f.1 g.1) alike in
    let q = f.2.1 g.2 j at in
    let r = later vs refl in
    subst (AreJoined ((f.0, f.1, f.2.0) ∷ fs) (g ∷ gs)) is (((bytes_eq-Decides f.0 g.0).0 p.0, same_presences f.1 g.1 p.1, q.first, r.0), (refl, refl, q.second, r.1))
field_joined f fs g gs us true alike (Some j) at None later e = absurd cc
field_joined f fs g gs us true alike None at rest later e = absurd cc
field_joined f fs g gs us false alike o at rest later e = absurd cc

fields_joined : (es : List (List ℕ × Presence × Known)) (gs us : List Field) → join_fields (joins (known_fields es)) gs ≡ Some us → AreJoined (known_fields es) gs us
fields_joined [] [] us e = let is : ◌≡◌ {A = List Field} [] us = cc in subst (AreJoined [] []) is (tt, tt)
fields_joined [] (g ∷ gs) us e = absurd cc
fields_joined (f ∷ es) [] us e = absurd cc
fields_joined (f ∷ es) (g ∷ gs) us e =
    field_joined f (known_fields es) g gs us (bytes_eq f.0 g.0 && same_presence f.1 g.1) refl (join f.2.0 g.2) refl (join_fields (joins (known_fields es)) gs) (fields_joined es gs) e

passes-within : (p : Presence) (a u : Ty) → IsWithin a u → (o : Option Value) → IsTrue (passes p (conforms a) o) → IsTrue (passes p (conforms u) o)
passes-within p a u f None h = h
passes-within p a u f (Some x) h = f x h

each_passes : (fs us : List Field) (fields : Fields) → AreWithin fs us
    → IsTrue (list_all (λ (a : List ℕ × Presence × Test). passes a.1 a.2 (field a.0 fields)) (shape_of fs)) → IsTrue (list_all (λ (a : List ℕ × Presence × Test). passes a.1 a.2 (field a.0 fields)) (shape_of us))
each_passes [] [] fields k h = refl
each_passes [] (u ∷ us) fields k h = absurd k
each_passes (f ∷ fs) [] fields k h = absurd k
each_passes (f ∷ fs) (u ∷ us) fields k h =
    let p = and_parts (passes f.1 (conforms f.2) (field f.0 fields)) (list_all (λ (a : List ℕ × Presence × Test). passes a.1 a.2 (field a.0 fields)) (shape_of fs)) h in
    let first : IsTrue (passes f.1 (conforms u.2) (field f.0 fields)) = passes-within f.1 f.2 u.2 k.2 (field f.0 fields) p.0 in
    let moved : IsTrue (passes u.1 (conforms u.2) (field u.0 fields)) = subst₂ (λ n q. IsTrue (passes q (conforms u.2) (field n fields))) k.0 k.1 first in
    and_from _ _ moved (each_passes fs us fields k.3 p.1)

same_names : (fs us : List Field) (name : List ℕ) → AreWithin fs us → list_any (λ (a : List ℕ × Presence × Test). bytes_eq name a.0) (shape_of fs) ≡ list_any (λ (a : List ℕ × Presence × Test). bytes_eq name a.0) (shape_of us)
same_names [] [] name k = refl
same_names [] (u ∷ us) name k = absurd k
same_names (f ∷ fs) [] name k = absurd k
same_names (f ∷ fs) (u ∷ us) name k = let first = k.0 in let rest = same_names fs us name k.3 in λ i. bytes_eq name (first i) || rest i

each_named : (fs us : List Field) (fields : Fields) → AreWithin fs us
    → list_all (λ (f : List ℕ × Value). list_any (λ (a : List ℕ × Presence × Test). bytes_eq f.0 a.0) (shape_of fs)) fields ≡ list_all (λ (f : List ℕ × Value). list_any (λ (a : List ℕ × Presence × Test). bytes_eq f.0 a.0) (shape_of us)) fields
each_named fs us [] k = refl
each_named fs us (f ∷ fields) k = let first = same_names fs us f.0 k in let rest = each_named fs us fields k in λ i. first i && rest i

shape-within : (fs us : List Field) (fields : Fields) → AreWithin fs us → IsTrue (has_shape (shape_of fs) fields) → IsTrue (has_shape (shape_of us) fields)
shape-within fs us fields k h =
    let all_pass : List Field → Bool = λ xs. list_all (λ (a : List ℕ × Presence × Test). passes a.1 a.2 (field a.0 fields)) (shape_of xs) in
    let all_named : List Field → Bool = λ xs. list_all (λ (f : List ℕ × Value). list_any (λ (a : List ℕ × Presence × Test). bytes_eq f.0 a.0) (shape_of xs)) fields in
    let p = and_parts (all_pass fs) (all_named fs) h in
    and_from (all_pass us) (all_named us) (each_passes fs us fields k p.0) (sym (each_named fs us fields k) ∙ p.1)

in_record : (fs us : List Field) → AreWithin fs us → (z : Value-F Value) → IsTrue (is_record_of (shape_of fs) z) → IsTrue (is_record_of (shape_of us) z)
in_record fs us k (v.Record fields) h = shape-within fs us fields k h
in_record fs us k _ h = absurd cc

record_in : (fs us : List Field) (u : Ty) → AreWithin fs us → types.Record us ≡ u → FitsIn (t.Record fs) u
record_in fs us u k is x h = named (types.Record us) u (t.Record us) (rolls-Record us) is x (in_record fs us k (out-Value x) h)

joined_record : (es : List (List ℕ × Presence × Known)) (gs : List Field) (u : Ty) (o : Option (List Field)) → join_fields (joins (known_fields es)) gs ≡ o → option_map types.Record o ≡ Some u → BothFit (t.Record (known_fields es)) (t.Record gs) u
joined_record es gs u (Some us) at e =
    let is : types.Record us ≡ u = cc in
    let p = fields_joined es gs us at in
    (record_in (known_fields es) us u p.0 is, record_in gs us u p.1 is)
joined_record es gs u None at e = absurd cc

record_row : (es : List (List ℕ × Presence × Known)) (z : Ty-F Ty) (u : Ty) → option_and_then (λ gs. option_map types.Record (join_fields (joins (known_fields es)) gs)) (record_fields_in z) ≡ Some u → BothFit (t.Record (known_fields es)) z u
record_row es (t.Record gs) u e = joined_record es gs u (join_fields (joins (known_fields es)) gs) refl e
record_row es _ u e = absurd cc

-- ---- all types

abbrev forget : Ty-F Known → Ty-F Ty
forget = map-Ty Known Ty (λ k. k.0)

row : (y : Ty-F Known) (b u : Ty) → join_step (map-Ty Ty (Ty → Option Ty) join (forget y)) b ≡ Some u → BothFit (forget y) (out-Ty b) u
row t.True b u e = true_row (out-Ty b) u e
row t.False b u e = false_row (out-Ty b) u e
row t.Bool b u e = bool_row (out-Ty b) u e
row t.Long b u e = long_row (out-Ty b) u e
row t.String b u e = string_row (out-Ty b) u e
row t.Decimal b u e = decimal_row (out-Ty b) u e
row t.Ip b u e = ip_row (out-Ty b) u e
row (t.Entity a) b u e = entity_row a (out-Ty b) u e
row (t.Set k) b u e = set_row k (out-Ty b) u e
row (t.Record es) b u e = record_row es (out-Ty b) u e

by_layers : (y z : Ty-F Ty) (a b u : Ty) → roll-Ty y ≡ a → out-Ty b ≡ z → BothFit y z u → Joins a b u
by_layers y z a b u at is h = record {
  first = λ x k. h.0 x (sym (conforms-roll a y at x) ∙ k);
  second = λ x k. h.1 x (subst (λ l. IsTrue (fits l x)) is (sym (conforms-out b x) ∙ k));
}

inner : (y : Ty-F Known) → IsJoined (roll-Ty (forget y))
unfolding join
inner y b u e =
    let step : join (roll-Ty (forget y)) b ≡ join_step (map-Ty Ty (Ty → Option Ty) join (forget y)) b = ap (λ f. f b) (fold-roll-Ty (Ty → Option Ty) join_step (forget y)) in
    by_layers (forget y) (out-Ty b) (roll-Ty (forget y)) b u refl refl (row y b u (sym step ∙ e))

pub join-within : (a b u : Ty) → join a b ≡ Some u → Joins a b u
join-within = ind-Ty IsJoined (λ a y at. subst (λ z. IsJoined (roll-Ty z)) at (inner y))

pub first_within : (a b u : Ty) (x : Value) → join a b ≡ Some u → IsTrue (conforms a x) → IsTrue (conforms u x)
first_within a b u x is h = (join-within a b u is).first x h

pub second_within : (a b u : Ty) (x : Value) → join a b ≡ Some u → IsTrue (conforms b x) → IsTrue (conforms u x)
second_within a b u x is h = (join-within a b u is).second x h
