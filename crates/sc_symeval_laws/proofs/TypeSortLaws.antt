-- The sort of a typed expression, by the kind of its type.
use Rattle.std.proofs.Common.{◌≡◌, ◌&&◌, ℕ, List, [], ◌∷◌, map, Bool, true, false, if◌then◌else◌, Option, Some, None, option_map, refl, sym, ap, subst, ◌∙◌}
use Rattle.std.specs.Cmp.Lexicographic.{pointwise}
use Rattle.std.specs.List.{AllByRecursion}
use Rattle.std.specs.Option.{option_and_then}
use Rattle.std.specs.Str.{bytes_eq}
use Rattle.std.proofs.lemmas.Bool.{and_parts}
use Rattle.std.proofs.lemmas.Slice.Eq.{bytes_eq-Decides}
use Rattle.sc_schema.specs.declared.ty.EntityKind.{EntityKind}
use Rattle.sc_schema.specs.declared.ty.Presence.{Presence}
use Rattle.sc_schema.specs.declared.ty.Presence.TheVariants.{Required, Optional}
use Rattle.sc_schema.specs.declared.ty.Ty.{Ty, Ty-F, out-Ty, roll-Ty, map-Ty, ind-Ty, fold_out-Ty, fold-roll-Ty}
use Rattle.sc_schema.specs.declared.ty.Ty.TheVariants as types
use Rattle.sc_schema.specs.declared.ty.Ty.TheVariants.{rolls-True, rolls-False, rolls-Bool, rolls-Long, rolls-String, rolls-Decimal, rolls-Ip, rolls-Entity, rolls-Set, rolls-Record}
use Rattle.sc_schema.specs.declared.ty.Ty.TheOpen as t
use Rattle.sc_schema.specs.Declarations.{Declarations}
use Rattle.sc_schema.specs.Lawful.{IsLawful, IsTypeLevel, IsTypeOf}
use Rattle.sc_schema.proofs.EveryTypeLaws.{every_level, every_member, every_field}
use Rattle.sc_sorts.specs.declared.sort.Sort.{Sort}
use Rattle.sc_sorts.specs.declared.sort.Sort.TheVariants as sort
use Rattle.sc_sorts.specs.declared.sort.Sort.{Sort-F, out-Sort}
use Rattle.sc_sorts.specs.declared.sort.Sort.TheOpen as sorts
use Rattle.sc_sorts.specs.Defaults.{is_option, is_option_level}
use Rattle.sc_sorts.proofs.OutLaws as outer
use Rattle.sc_sorts.specs.Entities.{choices_of, entity_sort}
use Rattle.sc_sorts.specs.OfTypes as of_types
use Rattle.sc_sorts.specs.OfTypes.{with_presence, sort_of}
use Rattle.sc_typed.specs.Types.{Field, is_true_in, is_false_in, is_boolean, is_boolean_in, is_long, is_long_in, is_string, is_string_in, is_decimal, is_decimal_in, is_ip, is_ip_in, entity_kind_in, entity_name, entity_name_in, member, member_in, record_fields_in, only_if, same_kind, same_presence, with_front, join_fields, join_step, join}
use Rattle.sc_term_laws.proofs.ChoicesLaws.{kind_uids}
use Rattle.sc_term_laws.proofs.DefaultTypeLaws.{no_action}
use Rattle.sc_symeval_laws.specs.TypeSorts.{sort_step, sort_in}

module _ (s : Declarations) where
  abbrev pub step : Ty-F Ty → Sort
  step y = sort_step s (map-Ty Ty Sort (sort_in s) y)

  pub sort_out : (type : Ty) → sort_in s type ≡ step (out-Ty type)
  unfolding sort_in
  sort_out type = fold_out-Ty Sort (sort_step s) type

  boolean_at : (y : Ty-F Ty) → is_boolean_in y ≡ true → step y ≡ sort.Bool
  boolean_at t.True h = refl
  boolean_at t.False h = refl
  boolean_at t.Bool h = refl
  boolean_at y h = absurd cc

  pub boolean_sort : (type : Ty) → is_boolean type ≡ true → sort_in s type ≡ sort.Bool
  boolean_sort type h = sort_out type ∙ boolean_at (out-Ty type) h

  long_at : (y : Ty-F Ty) → is_long_in y ≡ true → step y ≡ sort.Long
  long_at t.Long h = refl
  long_at y h = absurd cc

  pub long_sort : (type : Ty) → is_long type ≡ true → sort_in s type ≡ sort.Long
  long_sort type h = sort_out type ∙ long_at (out-Ty type) h

  string_at : (y : Ty-F Ty) → is_string_in y ≡ true → step y ≡ sort.String
  string_at t.String h = refl
  string_at y h = absurd cc

  pub string_sort : (type : Ty) → is_string type ≡ true → sort_in s type ≡ sort.String
  string_sort type h = sort_out type ∙ string_at (out-Ty type) h

  decimal_at : (y : Ty-F Ty) → is_decimal_in y ≡ true → step y ≡ sort.Decimal
  decimal_at t.Decimal h = refl
  decimal_at y h = absurd cc

  pub decimal_sort : (type : Ty) → is_decimal type ≡ true → sort_in s type ≡ sort.Decimal
  decimal_sort type h = sort_out type ∙ decimal_at (out-Ty type) h

  ip_at : (y : Ty-F Ty) → is_ip_in y ≡ true → step y ≡ sort.Ip
  ip_at t.Ip h = refl
  ip_at y h = absurd cc

  pub ip_sort : (type : Ty) → is_ip type ≡ true → sort_in s type ≡ sort.Ip
  ip_sort type h = sort_out type ∙ ip_at (out-Ty type) h

  entity_at : (y : Ty-F Ty) (n : List ℕ) → entity_name_in y ≡ Some n → step y ≡ entity_sort s n
  entity_at (t.Entity kind) n h = let same : kind.name ≡ n = cc in ap (entity_sort s) same
  entity_at y n h = absurd cc

  pub entity_type_sort : (type : Ty) (n : List ℕ) → entity_name type ≡ Some n → sort_in s type ≡ entity_sort s n
  entity_type_sort type n h = sort_out type ∙ entity_at (out-Ty type) n h

  member_at : (y : Ty-F Ty) (m : Ty) → member_in y ≡ Some m → step y ≡ sort.Set (sort_in s m)
  member_at (t.Set n) m h = let same : n ≡ m = cc in ap (λ (u : Ty). sort.Set (sort_in s u)) same
  member_at y m h = absurd cc

  pub set_type_sort : (type m : Ty) → member type ≡ Some m → sort_in s type ≡ sort.Set (sort_in s m)
  set_type_sort type m h = sort_out type ∙ member_at (out-Ty type) m h

  -- ---- kinds of sorts

  -- the sorts of a record's fields
  abbrev pub fields_sorts : List Field → List (List ℕ × Sort)
  fields_sorts fs = map (λ (f : List ℕ × Presence × Sort). (f.0, with_presence f.1 f.2)) (map (λ (f : List ℕ × Presence × Ty). (f.0, f.1, sort_in s f.2)) fs)

  -- no typed expression is an option
  no_option_at : (y : Ty-F Ty) → is_option (step y) ≡ false
  no_option_at t.True = ap (is_option_level Sort) outer.out_Bool
  no_option_at t.False = ap (is_option_level Sort) outer.out_Bool
  no_option_at t.Bool = ap (is_option_level Sort) outer.out_Bool
  no_option_at t.Long = ap (is_option_level Sort) outer.out_Long
  no_option_at t.String = ap (is_option_level Sort) outer.out_String
  no_option_at t.Decimal = ap (is_option_level Sort) outer.out_Decimal
  no_option_at t.Ip = ap (is_option_level Sort) outer.out_Ip
  no_option_at (t.Entity kind) = ap (is_option_level Sort) (outer.out_Entity kind.name (choices_of s kind.name))
  no_option_at (t.Set m) = ap (is_option_level Sort) (outer.out_Set (sort_in s m))
  no_option_at (t.Record fields) = ap (is_option_level Sort) (outer.out_Record (fields_sorts fields))

  pub no_option : (type : Ty) → is_option (sort_in s type) ≡ false
  no_option type = ap is_option (sort_out type) ∙ no_option_at (out-Ty type)

  abbrev of_truths : Sort-F Sort → Bool
  of_truths sorts.Bool = true
  of_truths _ = false

  truths_at : (y : Ty-F Ty) → of_truths (out-Sort (step y)) ≡ is_boolean_in y
  truths_at t.True = ap of_truths outer.out_Bool
  truths_at t.False = ap of_truths outer.out_Bool
  truths_at t.Bool = ap of_truths outer.out_Bool
  truths_at t.Long = ap of_truths outer.out_Long
  truths_at t.String = ap of_truths outer.out_String
  truths_at t.Decimal = ap of_truths outer.out_Decimal
  truths_at t.Ip = ap of_truths outer.out_Ip
  truths_at (t.Entity kind) = ap of_truths (outer.out_Entity kind.name (choices_of s kind.name))
  truths_at (t.Set m) = ap of_truths (outer.out_Set (sort_in s m))
  truths_at (t.Record fields) = ap of_truths (outer.out_Record (fields_sorts fields))

  truths_are : (type : Ty) → of_truths (out-Sort (sort_in s type)) ≡ is_boolean type
  truths_are type = ap (λ (k : Sort). of_truths (out-Sort k)) (sort_out type) ∙ truths_at (out-Ty type)

  -- of two types of one sort both are of truth values, or neither is
  pub same_truths : (a b : Ty) → sort_in s a ≡ sort_in s b → is_boolean a ≡ is_boolean b
  same_truths a b h = sym (truths_are a) ∙ ap (λ (k : Sort). of_truths (out-Sort k)) h ∙ truths_are b

  -- the sort of a variant of types
  pub rolled_sort : (type : Ty) (y : Ty-F Ty) → roll-Ty y ≡ type → sort_in s type ≡ step y
  unfolding sort_in
  rolled_sort type y at = ap (sort_in s) (sym at) ∙ fold-roll-Ty Sort (sort_step s) y

  -- ---- types that join

  -- the sort of a type, by its outermost level
  named : (type u : Ty) (y : Ty-F Ty) → roll-Ty y ≡ type → type ≡ u → step y ≡ sort_in s u
  unfolding sort_in
  named type u y at is = sym (fold-roll-Ty Sort (sort_step s) y) ∙ ap (sort_in s) (at ∙ is)

  abbrev BothAre : Ty-F Ty → Ty-F Ty → Ty → Type 0
  BothAre y z u = (step y ≡ sort_in s u) × (step z ≡ sort_in s u)

  both_named : (type u : Ty) (y : Ty-F Ty) → roll-Ty y ≡ type → type ≡ u → BothAre y y u
  both_named type u y at is = (named type u y at is, named type u y at is)

  in_bool : (u : Ty) → types.Bool ≡ u → BothAre t.Bool t.Bool u
  in_bool u is = both_named types.Bool u t.Bool rolls-Bool is

  true_row : (z : Ty-F Ty) (u : Ty) → (if is_true_in z then Some types.True else only_if (is_boolean_in z) types.Bool) ≡ Some u → BothAre t.True z u
  true_row t.True u e = let is : types.True ≡ u = cc in both_named types.True u t.True rolls-True is
  true_row t.False u e = let is : types.Bool ≡ u = cc in in_bool u is
  true_row t.Bool u e = let is : types.Bool ≡ u = cc in in_bool u is
  true_row _ u e = absurd cc

  false_row : (z : Ty-F Ty) (u : Ty) → (if is_false_in z then Some types.False else only_if (is_boolean_in z) types.Bool) ≡ Some u → BothAre t.False z u
  false_row t.True u e = let is : types.Bool ≡ u = cc in in_bool u is
  false_row t.False u e = let is : types.False ≡ u = cc in both_named types.False u t.False rolls-False is
  false_row t.Bool u e = let is : types.Bool ≡ u = cc in in_bool u is
  false_row _ u e = absurd cc

  bool_row : (z : Ty-F Ty) (u : Ty) → only_if (is_boolean_in z) types.Bool ≡ Some u → BothAre t.Bool z u
  bool_row t.True u e = let is : types.Bool ≡ u = cc in in_bool u is
  bool_row t.False u e = let is : types.Bool ≡ u = cc in in_bool u is
  bool_row t.Bool u e = let is : types.Bool ≡ u = cc in in_bool u is
  bool_row _ u e = absurd cc

  long_row : (z : Ty-F Ty) (u : Ty) → only_if (is_long_in z) types.Long ≡ Some u → BothAre t.Long z u
  long_row t.Long u e = let is : types.Long ≡ u = cc in both_named types.Long u t.Long rolls-Long is
  long_row _ u e = absurd cc

  string_row : (z : Ty-F Ty) (u : Ty) → only_if (is_string_in z) types.String ≡ Some u → BothAre t.String z u
  string_row t.String u e = let is : types.String ≡ u = cc in both_named types.String u t.String rolls-String is
  string_row _ u e = absurd cc

  decimal_row : (z : Ty-F Ty) (u : Ty) → only_if (is_decimal_in z) types.Decimal ≡ Some u → BothAre t.Decimal z u
  decimal_row t.Decimal u e = let is : types.Decimal ≡ u = cc in both_named types.Decimal u t.Decimal rolls-Decimal is
  decimal_row _ u e = absurd cc

  ip_row : (z : Ty-F Ty) (u : Ty) → only_if (is_ip_in z) types.Ip ≡ Some u → BothAre t.Ip z u
  ip_row t.Ip u e = let is : types.Ip ≡ u = cc in both_named types.Ip u t.Ip rolls-Ip is
  ip_row _ u e = absurd cc

  same_entity : (a n : EntityKind) (u : Ty) (b : Bool) → (bytes_eq a.name n.name && pointwise bytes_eq a.choices n.choices) ≡ b → only_if b (types.Entity n) ≡ Some u → BothAre (t.Entity a) (t.Entity n) u
  same_entity a n u true at e =
      let is : types.Entity n ≡ u = cc in
      let one : a.name ≡ n.name = (bytes_eq-Decides a.name n.name).0 (and_parts (bytes_eq a.name n.name) (pointwise bytes_eq a.choices n.choices) at).0 in
      let second : step (t.Entity n) ≡ sort_in s u = named (types.Entity n) u (t.Entity n) (rolls-Entity n) is in
      (ap (entity_sort s) one ∙ second, second)
  same_entity a n u false at e = absurd cc

  entity_row : (a : EntityKind) (z : Ty-F Ty) (u : Ty) → option_and_then (same_kind a) (entity_kind_in z) ≡ Some u → BothAre (t.Entity a) z u
  entity_row a (t.Entity n) u e = same_entity a n u (bytes_eq a.name n.name && pointwise bytes_eq a.choices n.choices) refl e
  entity_row a _ u e = absurd cc

  abbrev IsJoined : Ty → Type 0
  IsJoined a = (b u : Ty) → join a b ≡ Some u → (sort_in s a ≡ sort_in s u) × (sort_in s b ≡ sort_in s u)

  abbrev Known : Type 0
  Known = (a : Ty) × IsJoined a

  joined_set : (k : Known) (m u : Ty) (o : Option Ty) → join k.0 m ≡ o → option_map types.Set o ≡ Some u → BothAre (t.Set k.0) (t.Set m) u
  joined_set k m u (Some j) at e =
      let is : types.Set j ≡ u = cc in
      let p = k.1 m j at in
      let whole : step (t.Set j) ≡ sort_in s u = named (types.Set j) u (t.Set j) (rolls-Set j) is in
      (ap sort.Set p.0 ∙ whole, ap sort.Set p.1 ∙ whole)
  joined_set k m u None at e = absurd cc

  set_row : (k : Known) (z : Ty-F Ty) (u : Ty) → option_and_then (λ m. option_map types.Set (join k.0 m)) (member_in z) ≡ Some u → BothAre (t.Set k.0) z u
  set_row k (t.Set m) u e = joined_set k m u (join k.0 m) refl e
  set_row k _ u e = absurd cc

  -- ---- fields

  same_presences : (p q : Presence) → same_presence p q ≡ true → p ≡ q
  same_presences Required Required h = refl
  same_presences Required Optional h = absurd cc
  same_presences Optional Required h = absurd cc
  same_presences Optional Optional h = refl

  abbrev known_fields : List (List ℕ × Presence × Known) → List Field
  known_fields es = map (λ (e : List ℕ × Presence × Known). (e.0, e.1, e.2.0)) es

  abbrev joins : List Field → List (List ℕ × Presence × (Ty → Option Ty))
  joins fs = map (λ (f : List ℕ × Presence × Ty). (f.0, f.1, join f.2)) fs

  abbrev AreAlike : List Field → List Field → List Field → Type 0
  AreAlike fs gs us = (fields_sorts fs ≡ fields_sorts us) × (fields_sorts gs ≡ fields_sorts us)

  field_joined : (f : List ℕ × Presence × Known) (fs : List Field) (g : Field) (gs us : List Field) (b : Bool) → (bytes_eq f.0 g.0 && same_presence f.1 g.1) ≡ b → (o : Option Ty) → join f.2.0 g.2 ≡ o
      → (rest : Option (List Field)) → ((vs : List Field) → rest ≡ Some vs → AreAlike fs gs vs) → (if b then with_front g.0 g.1 o rest else None) ≡ Some us → AreAlike ((f.0, f.1, f.2.0) ∷ fs) (g ∷ gs) us
  field_joined f fs g gs us true alike (Some j) at (Some vs) later e =
      let is : ◌≡◌ {A = List Field} ((g.0, g.1, j) ∷ vs) us = cc in
      let p = and_parts (bytes_eq f.0 g.0) (same_presence f.1 g.1) alike in
      let name : f.0 ≡ g.0 = (bytes_eq-Decides f.0 g.0).0 p.0 in
      let presence : f.1 ≡ g.1 = same_presences f.1 g.1 p.1 in
      let q = f.2.1 g.2 j at in
      let r = later vs refl in
      let left : sort_in s f.2.0 ≡ sort_in s j = q.0 in
      let right : sort_in s g.2 ≡ sort_in s j = q.1 in
      let left_rest : fields_sorts fs ≡ fields_sorts vs = r.0 in
      let right_rest : fields_sorts gs ≡ fields_sorts vs = r.1 in
      subst (AreAlike ((f.0, f.1, f.2.0) ∷ fs) (g ∷ gs)) is ((λ i. (name i, with_presence (presence i) (left i)) ∷ left_rest i), (λ i. (g.0, with_presence g.1 (right i)) ∷ right_rest i))
  field_joined f fs g gs us true alike (Some j) at None later e = absurd cc
  field_joined f fs g gs us true alike None at rest later e = absurd cc
  field_joined f fs g gs us false alike o at rest later e = absurd cc

  fields_joined : (es : List (List ℕ × Presence × Known)) (gs us : List Field) → join_fields (joins (known_fields es)) gs ≡ Some us → AreAlike (known_fields es) gs us
  fields_joined [] [] us e = let is : ◌≡◌ {A = List Field} [] us = cc in subst (AreAlike [] []) is (refl, refl)
  fields_joined [] (g ∷ gs) us e = absurd cc
  fields_joined (f ∷ es) [] us e = absurd cc
  fields_joined (f ∷ es) (g ∷ gs) us e =
      field_joined f (known_fields es) g gs us (bytes_eq f.0 g.0 && same_presence f.1 g.1) refl (join f.2.0 g.2) refl (join_fields (joins (known_fields es)) gs) (fields_joined es gs) e

  joined_record : (es : List (List ℕ × Presence × Known)) (gs : List Field) (u : Ty) (o : Option (List Field)) → join_fields (joins (known_fields es)) gs ≡ o → option_map types.Record o ≡ Some u
      → BothAre (t.Record (known_fields es)) (t.Record gs) u
  joined_record es gs u (Some us) at e =
      let is : types.Record us ≡ u = cc in
      let p = fields_joined es gs us at in
      let whole : step (t.Record us) ≡ sort_in s u = named (types.Record us) u (t.Record us) (rolls-Record us) is in
      (ap sort.Record p.0 ∙ whole, ap sort.Record p.1 ∙ whole)
  joined_record es gs u None at e = absurd cc

  record_row : (es : List (List ℕ × Presence × Known)) (z : Ty-F Ty) (u : Ty) → option_and_then (λ gs. option_map types.Record (join_fields (joins (known_fields es)) gs)) (record_fields_in z) ≡ Some u
      → BothAre (t.Record (known_fields es)) z u
  record_row es (t.Record gs) u e = joined_record es gs u (join_fields (joins (known_fields es)) gs) refl e
  record_row es _ u e = absurd cc

  -- ---- all types

  abbrev forget : Ty-F Known → Ty-F Ty
  forget = map-Ty Known Ty (λ k. k.0)

  row : (y : Ty-F Known) (b u : Ty) → join_step (map-Ty Ty (Ty → Option Ty) join (forget y)) b ≡ Some u → BothAre (forget y) (out-Ty b) u
  row t.True b u e = true_row (out-Ty b) u e
  row t.False b u e = false_row (out-Ty b) u e
  row t.Bool b u e = bool_row (out-Ty b) u e
  row t.Long b u e = long_row (out-Ty b) u e
  row t.String b u e = string_row (out-Ty b) u e
  row t.Decimal b u e = decimal_row (out-Ty b) u e
  row t.Ip b u e = ip_row (out-Ty b) u e
  row (t.Entity a) b u e = entity_row a (out-Ty b) u e
  row (t.Set k) b u e = set_row k (out-Ty b) u e
  row (t.Record es) b u e = record_row es (out-Ty b) u e

  join_rolled : (y : Ty-F Ty) (b : Ty) → join (roll-Ty y) b ≡ join_step (map-Ty Ty (Ty → Option Ty) join y) b
  unfolding join
  join_rolled y b = ap (λ (f : Ty → Option Ty). f b) (fold-roll-Ty (Ty → Option Ty) join_step y)

  sort_rolled : (y : Ty-F Ty) → sort_in s (roll-Ty y) ≡ step y
  unfolding sort_in
  sort_rolled y = fold-roll-Ty Sort (sort_step s) y

  joined_inner : (y : Ty-F Known) → IsJoined (roll-Ty (forget y))
  joined_inner y b u e =
      let both = row y b u (sym (join_rolled (forget y) b) ∙ e) in
      (sort_rolled (forget y) ∙ both.0, sort_out b ∙ both.1)

  -- types that join are of one sort, and so is the type that they join to
  pub joined_sorts : (a b u : Ty) → join a b ≡ Some u → (sort_in s a ≡ sort_in s u) × (sort_in s b ≡ sort_in s u)
  joined_sorts = ind-Ty IsJoined (λ x y at. subst (λ z. IsJoined (roll-Ty z)) at (joined_inner y))

  -- ---- types that the schema writes

  abbrev IsWritten : Ty → Type 0
  IsWritten type = IsTypeOf s type → sort_in s type ≡ sort_of type

  abbrev KnownWritten : Type 0
  KnownWritten = (a : Ty) × IsWritten a

  abbrev written : Ty-F KnownWritten → Ty-F Ty
  written = map-Ty KnownWritten Ty (λ k. k.0)

  abbrev plain_step : Ty-F Ty → Sort
  plain_step y = of_types.sort_step (map-Ty Ty Sort sort_of y)

  abbrev plain_fields : List Field → List (List ℕ × Sort)
  plain_fields fs = map (λ (f : List ℕ × Presence × Sort). (f.0, with_presence f.1 f.2)) (map (λ (f : List ℕ × Presence × Ty). (f.0, f.1, sort_of f.2)) fs)

  written_fields : (ks : List (List ℕ × Presence × KnownWritten)) → AllByRecursion (λ (f : List ℕ × Presence × Ty). IsTypeOf s f.2) (map (λ (k : List ℕ × Presence × KnownWritten). (k.0, k.1, k.2.0)) ks)
      → fields_sorts (map (λ (k : List ℕ × Presence × KnownWritten). (k.0, k.1, k.2.0)) ks) ≡ plain_fields (map (λ (k : List ℕ × Presence × KnownWritten). (k.0, k.1, k.2.0)) ks)
  written_fields [] h = refl
  written_fields (k ∷ ks) h =
      let first : sort_in s k.2.0 ≡ sort_of k.2.0 = k.2.1 h.0 in
      let rest = written_fields ks h.1 in
      λ i. (k.0, with_presence k.1 (first i)) ∷ rest i

  written_step : IsLawful s → (y : Ty-F KnownWritten) → IsTypeOf s (roll-Ty (written y)) → step (written y) ≡ plain_step (written y)
  written_step lawful t.True h = refl
  written_step lawful t.False h = refl
  written_step lawful t.Bool h = refl
  written_step lawful t.Long h = refl
  written_step lawful t.String h = refl
  written_step lawful t.Decimal h = refl
  written_step lawful t.Ip h = refl
  written_step lawful (t.Entity kind) h =
      let declared = every_level (IsTypeLevel s) (t.Entity kind) h in
      ap (sort.Entity kind.name) (sym (kind_uids s kind (no_action s lawful kind.name declared.0) declared.1))
  written_step lawful (t.Set k) h = ap sort.Set (k.1 (every_member (IsTypeLevel s) k.0 h))
  written_step lawful (t.Record ks) h = ap sort.Record (written_fields ks (every_field (IsTypeLevel s) (map (λ (k : List ℕ × Presence × KnownWritten). (k.0, k.1, k.2.0)) ks) h))

  plain_rolled : (y : Ty-F Ty) → sort_of (roll-Ty y) ≡ plain_step y
  unfolding sort_of
  plain_rolled y = fold-roll-Ty Sort of_types.sort_step y

  -- a type that the schema writes names no type of actions
  pub schema_sort : IsLawful s → (type : Ty) → IsTypeOf s type → sort_in s type ≡ sort_of type
  schema_sort lawful =
      ind-Ty IsWritten (λ x y at. subst (λ z. IsWritten (roll-Ty z)) at (λ h. sort_rolled (written y) ∙ written_step lawful y h ∙ sym (plain_rolled (written y))))
