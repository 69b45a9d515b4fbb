-- Sets and records that are written, of values that are of their types.
use Rattle.std.proofs.Common.{◌≡◌, inl, inr, ℕ, List, [], ◌∷◌, map, fold, Bool, true, false, cond, IsTrue, Option, Some, Contains, IfOk, Ordering, Less, Equal, Greater, refl, sym, ap, subst, ◌∙◌}
use Rattle.std.specs.List.{AllByRecursion, list_all, list_any}
use Rattle.std.specs.List.Sorted.{IsStrictlySortedBy}
use Rattle.std.specs.Map.{keys_of}
use Rattle.std.specs.BTreeMap.{insert_entry}
use Rattle.std.specs.Ordering.{match_ordering}
use Rattle.std.specs.Str.{bytes_eq}
use Rattle.std.proofs.lemmas.Cmp.{tied_itself, nat_list_cmp_total}
use Rattle.std.proofs.lemmas.Slice.Eq.{bytes_eq-Decides}
use Rattle.std.proofs.lemmas.Bool.{or_right, or_left, and_from}
use Rattle.sc_lists.proofs.ListLaws.{contains_nothing, contains_split, contains_rest, contains_first}
use Rattle.sc_ast.specs.declared.place.Place.{Place}
use Rattle.sc_names.specs.Uids.{text_cmp}
use Rattle.sc_schema.specs.declared.ty.Presence.{Presence}
use Rattle.sc_schema.specs.declared.ty.Presence.TheVariants.{Required}
use Rattle.sc_schema.specs.declared.ty.Ty.{Ty}
use Rattle.sc_schema.specs.declared.ty.Ty.TheVariants as types
use Rattle.sc_schema.specs.declared.ty.Ty.TheVariants.{rolls-Set}
use Rattle.sc_schema.specs.declared.ty.Ty.TheOpen as t
use Rattle.sc_values.specs.declared.value.Value.{Value}
use Rattle.sc_values.specs.declared.value.Value.TheVariants as value
use Rattle.sc_values.specs.Records.{Fields, field}
use Rattle.sc_values.proofs.EveryLaws as every
use Rattle.sc_values.proofs.OutLaws.{out_Set}
use Rattle.sc_world.specs.declared.world.World.{World}
use Rattle.sc_world.specs.Conforms.{Test, conforms, is_set_of, passes, shape_of}
use Rattle.sc_world.specs.WellFormed.{NamesStored, NamesStoredLevel}
use Rattle.sc_world.proofs.ConformsLaws.{conforms_Record}
use Rattle.sc_eval.specs.Collections.{members_of, set_value, with_field, fields_of, record_value}
use Rattle.sc_eval.specs.CollectionLaws.{members_of-set, fields_of-ascends}
use Rattle.sc_typed.specs.declared.typed_expr.TypedExpr.{TypedExpr}
use Rattle.sc_typed.specs.Types.{Field, join}
use Rattle.sc_typed.specs.Outcomes.{ty}
use Rattle.sc_typing_rules.specs.Rules.{all_joined, member_type, record_type}
use Rattle.sc_typing_rules.specs.Rules as typing
use Rattle.sc_typed.proofs.OutcomeLaws.{found, weaker}
use Rattle.sc_soundness_laws.specs.Sound.{IsOf}
use Rattle.sc_soundness_laws.proofs.ValueLaws.{conforms-roll}
use Rattle.sc_soundness_laws.proofs.JoinLaws.{IsWithin, join-within}
use Rattle.sc_soundness_laws.proofs.ListLaws.{all_true, each_weaker, contained, each_contained}

module _ (w : World) where
  -- ---- sets

  -- values of the types of expressions
  abbrev pub AreOf : List TypedExpr → List Value → Type 0
  AreOf [] [] = Unit {0}
  AreOf [] (v ∷ vs) = ⊥
  AreOf (x ∷ xs) [] = ⊥
  AreOf (x ∷ xs) (v ∷ vs) = IsOf w (ty x) v × AreOf xs vs

  of_wider : (a u : Ty) (x : Value) → IsWithin a u → IsOf w a x → IsOf w u x
  of_wider a u x f h = record { conforming = f x h.conforming; stored = h.stored }

  -- what a type and those of expressions join to
  record IsJoinOf (type : Ty) (xs : List TypedExpr) (both : Ty) : Type 0 where
    first : IsWithin type both
    rest : (vs : List Value) → AreOf xs vs → AllByRecursion (IsOf w both) vs

  no_values : (type : Ty) (vs : List Value) → AreOf [] vs → AllByRecursion (IsOf w type) vs
  no_values type [] h = tt
  no_values type (v ∷ vs) h = absurd h

  one_value_more : (type : Ty) (x : TypedExpr) (xs : List TypedExpr) → IsWithin (ty x) type → ((vs : List Value) → AreOf xs vs → AllByRecursion (IsOf w type) vs) → (vs : List Value) → AreOf (x ∷ xs) vs → AllByRecursion (IsOf w type) vs
  one_value_more type x xs f g [] h = absurd h
  one_value_more type x xs f g (v ∷ vs) h = (of_wider (ty x) type v f h.0, g vs h.1)

  all_joined_sound : (place : Place) (type : Ty) (xs : List TypedExpr) → IfOk (all_joined place type xs) (IsJoinOf type xs)
  all_joined_sound place type [] = record { first = λ x h. h; rest = no_values type }
  all_joined_sound place type (x ∷ xs) =
      found (join type (ty x)) _ _ _ (IsJoinOf type (x ∷ xs)) λ u j.
      let js = join-within type (ty x) u j in
      weaker (IsJoinOf u xs) (IsJoinOf type (x ∷ xs)) (all_joined place u xs)
      (λ both h. record { first = λ v k. h.first v (js.first v k); rest = one_value_more both x xs (λ v k. h.first v (js.second v k)) h.rest })
      (all_joined_sound place u xs)

  pub member_type_sound : (place : Place) (xs : List TypedExpr) → IfOk (member_type place xs) (λ type. (vs : List Value) → AreOf xs vs → AllByRecursion (IsOf w type) vs)
  member_type_sound place [] = tt
  member_type_sound place (x ∷ xs) =
      weaker (IsJoinOf (ty x) xs) (λ type. (vs : List Value) → AreOf (x ∷ xs) vs → AllByRecursion (IsOf w type) vs) (all_joined place (ty x) xs)
      (λ type h. one_value_more type x xs h.first h.rest) (all_joined_sound place (ty x) xs)

  -- the set of values of a type
  pub set_of : (type : Ty) (vs : List Value) → AllByRecursion (IsOf w type) vs → IsOf w (types.Set type) (set_value vs)
  set_of type vs h =
      let members : List Value = members_of vs in
      let set = members_of-set vs in
      let all : AllByRecursion (IsOf w type) (members_of vs) = each_contained (IsOf w type) (members_of vs) (λ x has. contained (IsOf w type) vs x h ((set.just x).0 has)) in
      record {
        conforming =
            conforms-roll (types.Set type) (t.Set type) (rolls-Set type) (value.Set (members_of vs))
            ∙ ap (is_set_of (conforms type)) (out_Set (members_of vs))
            ∙ all_true (IsOf w type) (conforms type) (λ x k. k.conforming) (members_of vs) all;
        stored = every.every_Set (NamesStoredLevel w.store) (members_of vs) tt (each_weaker (IsOf w type) (NamesStored w.store) (λ x k. k.stored) (members_of vs) all);
      }

  -- ---- records

  -- fields of the types of expressions, of the same names
  abbrev pub AreFieldsOf : List (List ℕ × TypedExpr) → Fields → Type 0
  AreFieldsOf [] [] = Unit {0}
  AreFieldsOf [] (g ∷ gs) = ⊥
  AreFieldsOf (f ∷ fs) [] = ⊥
  AreFieldsOf (f ∷ fs) (g ∷ gs) = (f.0 ≡ g.0) × IsOf w (ty f.1) g.1 × AreFieldsOf fs gs

  abbrev Match : List (List ℕ × Ty) → Fields → Type 0
  Match [] [] = Unit {0}
  Match [] (g ∷ gs) = ⊥
  Match (e ∷ es) [] = ⊥
  Match (e ∷ es) (g ∷ gs) = (e.0 ≡ g.0) × IsOf w e.1 g.1 × Match es gs

  inserted_at : (o : Ordering) (e : List ℕ × Ty) (es : List (List ℕ × Ty)) (g : List ℕ × Value) (gs : Fields) (name : List ℕ) (type : Ty) (x : Value) → e.0 ≡ g.0 → IsOf w e.1 g.1 → Match es gs → IsOf w type x
      → Match (insert_entry text_cmp es name type) (insert_entry text_cmp gs name x)
      → Match (match_ordering o ((name, type) ∷ e ∷ es) ((e.0, type) ∷ es) (e ∷ insert_entry text_cmp es name type)) (match_ordering o ((name, x) ∷ g ∷ gs) ((g.0, x) ∷ gs) (g ∷ insert_entry text_cmp gs name x))
  inserted_at Less e es g gs name type x same here rest new later = (refl, new, (same, here, rest))
  inserted_at Equal e es g gs name type x same here rest new later = (same, new, rest)
  inserted_at Greater e es g gs name type x same here rest new later = (same, here, later)

  inserted : (es : List (List ℕ × Ty)) (gs : Fields) (name : List ℕ) (type : Ty) (x : Value) → Match es gs → IsOf w type x → Match (insert_entry text_cmp es name type) (insert_entry text_cmp gs name x)
  inserted [] [] name type x h new = (refl, new, tt)
  inserted [] (g ∷ gs) name type x h new = absurd h
  inserted (e ∷ es) [] name type x h new = absurd h
  inserted (e ∷ es) (g ∷ gs) name type x h new =
      subst (λ n. Match (insert_entry text_cmp (e ∷ es) name type) (match_ordering (text_cmp name n) ((name, x) ∷ g ∷ gs) ((g.0, x) ∷ gs) (g ∷ insert_entry text_cmp gs name x))) h.0
      (inserted_at (text_cmp name e.0) e es g gs name type x h.0 h.1 h.2 new (inserted es gs name type x h.2 new))

  folded : (fs : List (List ℕ × TypedExpr)) (vs : Fields) (es : List (List ℕ × Ty)) (gs : Fields) → AreFieldsOf fs vs → Match es gs → Match (fold typing.with_field es fs) (fold with_field gs vs)
  folded [] [] es gs h k = k
  folded [] (v ∷ vs) es gs h k = absurd h
  folded (f ∷ fs) [] es gs h k = absurd h
  folded (f ∷ fs) (v ∷ vs) es gs h k =
      folded fs vs (typing.with_field es f) (with_field gs v) h.2
      (subst (λ n. Match (insert_entry text_cmp es f.0 (ty f.1)) (insert_entry text_cmp gs n v.1)) h.0 (inserted es gs f.0 (ty f.1) v.1 k h.1))

  abbrev required : List (List ℕ × Ty) → List Field
  required es = map (λ (e : List ℕ × Ty). (e.0, Required, e.1)) es

  -- ---- fields are found under their names

  differs : (a b : List ℕ) (r : Bool) → text_cmp a b ≡ Less → bytes_eq b a ≡ r → r ≡ false
  differs a b false h e = refl
  differs a b true h e =
      let one : b ≡ a = (bytes_eq-Decides b a).0 e in
      let level : text_cmp a b ≡ Equal = subst (λ c. text_cmp a c ≡ Equal) (sym one) (tied_itself nat_list_cmp_total a) in
      absurd (let both : Less ≡ Equal = sym h ∙ level in cc)

  of_keys : (P : List ℕ → Type 0) (gs : Fields) (g : List ℕ × Value) → AllByRecursion P (keys_of gs) → Contains gs g → P g.0
  of_keys P [] g all has = absurd (contains_nothing g has)
  of_keys P (f ∷ gs) g all has = elim (contains_split f gs g has) [
    | inl here ↦ subst (λ (x : List ℕ × Value). P x.0) here all.0
    | inr later ↦ of_keys P gs g all.1 later
  ]

  first_field : (g : List ℕ × Value) (r : Bool) (later : Option Value) → r ≡ true → cond r (Some g.1) later ≡ Some g.1
  first_field g true later e = refl
  first_field g false later e = absurd cc

  later_field : (f g : List ℕ × Value) (r : Bool) (later : Option Value) → r ≡ false → later ≡ Some g.1 → cond r (Some f.1) later ≡ Some g.1
  later_field f g true later e h = absurd cc
  later_field f g false later e h = h

  field_of : (gs : Fields) (g : List ℕ × Value) → IsStrictlySortedBy text_cmp (keys_of gs) → Contains gs g → field g.0 gs ≡ Some g.1
  unfolding IsStrictlySortedBy
  field_of [] g ascending has = absurd (contains_nothing g has)
  field_of (f ∷ gs) g ascending has = elim (contains_split f gs g has) [
    | inl here ↦ subst (λ (x : List ℕ × Value). field x.0 (f ∷ gs) ≡ Some x.1) here (first_field f (bytes_eq f.0 f.0) (field f.0 gs) ((bytes_eq-Decides f.0 f.0).1 refl))
    | inr later ↦
        let below : text_cmp f.0 g.0 ≡ Less = of_keys (λ k. text_cmp f.0 k ≡ Less) gs g ascending.0 later in
        later_field f g (bytes_eq g.0 f.0) (field g.0 gs) (differs f.0 g.0 (bytes_eq g.0 f.0) below refl) (field_of gs g ascending.1 later)
  ]

  each_passes : (whole : Fields) (es : List (List ℕ × Ty)) (gs : Fields) → Match es gs → ((g : List ℕ × Value) → Contains gs g → field g.0 whole ≡ Some g.1)
      → IsTrue (list_all (λ (a : List ℕ × Presence × Test). passes a.1 a.2 (field a.0 whole)) (shape_of (required es)))
  each_passes whole [] gs h find = refl
  each_passes whole (e ∷ es) [] h find = absurd h
  each_passes whole (e ∷ es) (g ∷ gs) h find =
      let there : field e.0 whole ≡ Some g.1 = ap (λ n. field n whole) h.0 ∙ find g (contains_first g gs) in
      and_from (passes Required (conforms e.1) (field e.0 whole)) (list_all (λ (a : List ℕ × Presence × Test). passes a.1 a.2 (field a.0 whole)) (shape_of (required es)))
      (subst (λ o. IsTrue (passes Required (conforms e.1) o)) (sym there) h.1.conforming)
      (each_passes whole es gs h.2 (λ f has. find f (contains_rest g gs f has)))

  abbrev names_one : List (List ℕ × Ty) → List ℕ → Bool
  names_one es name = list_any (λ (a : List ℕ × Presence × Test). bytes_eq name a.0) (shape_of (required es))

  each_named : (whole es : List (List ℕ × Ty)) (gs : Fields) → Match es gs → ((name : List ℕ) → IsTrue (names_one es name) → IsTrue (names_one whole name)) → IsTrue (list_all (λ (f : List ℕ × Value). names_one whole f.0) gs)
  each_named whole es [] h up = refl
  each_named whole [] (g ∷ gs) h up = absurd h
  each_named whole (e ∷ es) (g ∷ gs) h up =
      and_from (names_one whole g.0) (list_all (λ (f : List ℕ × Value). names_one whole f.0) gs)
      (up g.0 (or_left (bytes_eq g.0 e.0) (names_one es g.0) ((bytes_eq-Decides g.0 e.0).1 (sym h.0))))
      (each_named whole es gs h.2 (λ name k. up name (or_right (bytes_eq name e.0) (names_one es name) k)))

  names_stored : (es : List (List ℕ × Ty)) (gs : Fields) → Match es gs → AllByRecursion (λ (f : List ℕ × Value). NamesStored w.store f.1) gs
  names_stored es [] h = tt
  names_stored [] (g ∷ gs) h = absurd h
  names_stored (e ∷ es) (g ∷ gs) h = (h.1.stored, names_stored es gs h.2)

  record_is : (es : List (List ℕ × Ty)) (gs : Fields) → Match es gs → IsStrictlySortedBy text_cmp (keys_of gs) → IsOf w (types.Record (required es)) (value.Record gs)
  record_is es gs h ascending = record {
    conforming =
        conforms_Record (required es) gs
        ∙ and_from (list_all (λ (a : List ℕ × Presence × Test). passes a.1 a.2 (field a.0 gs)) (shape_of (required es))) (list_all (λ (f : List ℕ × Value). names_one es f.0) gs)
        (each_passes gs es gs h (λ g has. field_of gs g ascending has)) (each_named es es gs h (λ name k. k));
    stored = every.every_Record (NamesStoredLevel w.store) gs tt (names_stored es gs h);
  }

  -- the record of fields of the types of expressions
  pub record_of : (fs : List (List ℕ × TypedExpr)) (vs : Fields) → AreFieldsOf fs vs → IsOf w (record_type fs) (record_value vs)
  record_of fs vs h = record_is (fold typing.with_field [] fs) (fields_of vs) (folded fs vs [] [] h tt) (fields_of-ascends vs)
