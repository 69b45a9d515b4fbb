-- What a well-formed world has of a request and of entities fits.
use Rattle.std.proofs.Common.{cond, ◌≡◌, inl, ℕ, List, [], ◌∷◌, map, filter, Bool, true, false, Option, Some, None, unwrap_or, IsSome, IsTrue, IsSomeAnd, MatchOption, Contains, refl, sym, ap, ◌∙◌, subst}
use Rattle.std.specs.List.{AllByRecursion}
use Rattle.std.specs.List.Sorted.{IsStrictlySortedBy}
use Rattle.std.specs.Map.{keys_of}
use Rattle.std.specs.Str.{bytes_eq, IsUtf8}
use Rattle.std.specs.BTreeMap.{is_at}
use Rattle.std.specs.declared.cmp.Ordering.{Ordering}
use Rattle.std.specs.declared.cmp.Ordering.TheVariants.{Less}
use Rattle.std.proofs.lemmas.Map.Views.{Contains-from_lookup}
use Rattle.std.proofs.lemmas.List.Kept.{IsStrictlySortedBy-filter}
use Rattle.sc_lists.proofs.ListLaws.{all_element, contains_map}
use Rattle.sc_laws.proofs.OptionLaws.{same_some, some_of}
use Rattle.sc_lists.proofs.OrderingLaws.{is_eq_true}
use Rattle.sc_lists.proofs.TextLaws.{bytes_eq_true}
use Rattle.sc_names.specs.declared.uid.Uid.{Uid}
use Rattle.sc_names.specs.Uids.{text_cmp, uid_cmp}
use Rattle.sc_names.proofs.UidLaws.{uid_cmp_level}
use Rattle.sc_schema.specs.declared.ty.Ty.{Ty}
use Rattle.sc_schema.specs.declared.declarations.Env.{Env}
use Rattle.sc_schema.specs.declared.declarations.Action.{Action}
use Rattle.sc_schema.specs.Declarations.{Declarations, action_uids, attrs_of, tags_of, context_of, is_action_type}
use Rattle.sc_schema.specs.Lawful.{IsLawful, IsTypeOf}
use Rattle.sc_sorts.specs.declared.sort.Sort.{Sort}
use Rattle.sc_sorts.specs.declared.sort.Sort.TheVariants as sort
use Rattle.sc_sorts.specs.declared.sort.Sort.TheOpen as s
use Rattle.sc_sorts.specs.Defaults.{default_of}
use Rattle.sc_sorts.specs.Entities.{choices_of, entity_sort}
use Rattle.sc_sorts.specs.OfTypes.{sort_of}
use Rattle.sc_sorts.proofs.OutLaws.{out_Entity}
use Rattle.sc_values.specs.declared.value.Value.{Value, Value-F, every-Value, roll-Value, map-Value, ind-Value}
use Rattle.sc_values.specs.declared.value.Value.TheVariants as value
use Rattle.sc_values.specs.declared.value.Value.TheVariants.{rolls-Bool, rolls-Long, rolls-String, rolls-Entity, rolls-Set, rolls-Record, rolls-Decimal, rolls-Ip}
use Rattle.sc_values.specs.declared.value.Value.TheOpen as v
use Rattle.sc_values.specs.Order.{value_cmp, by_kind}
use Rattle.sc_values.specs.Proper.{IsProper, IsProperLevel, IsUidText}
use Rattle.sc_values.specs.Records.{Fields, field}
use Rattle.sc_values.proofs.EveryLaws as every
use Rattle.sc_values.proofs.LevelLaws as level
use Rattle.sc_values.proofs.OrderLaws.{value_cmp_by_kind}
use Rattle.sc_values.proofs.OutLaws as out
use Rattle.sc_world.specs.declared.entity.EntityData.{EntityData}
use Rattle.sc_world.specs.declared.world.World.{World}
use Rattle.sc_world.specs.Choices.{is_choice}
use Rattle.sc_world.specs.Conforms.{conforms}
use Rattle.sc_world.specs.Stores.{Entities, stored}
use Rattle.sc_world.specs.WellFormed.{Entry, IsStored, NamesStored, NamesStoredLevel, IsWellFormed, IsProperEntry, EntryNamesStored, HasAttributes, HasTags, IsAction, HasChoices}
use Rattle.sc_terms.specs.Values.{Val, it, attributes_value, ancestors_value, keys_value, tag_value}
use Rattle.sc_term_laws.specs.Fitting.{IsOfSort, NamesKnown, NamesKnownLevel, Fits, as_value}
use Rattle.sc_term_laws.specs.LawfulSorts.{IsDeclared}
use Rattle.sc_term_laws.proofs.ChoicesLaws.{declared_is, ids_in, declared_choice}
use Rattle.sc_term_laws.proofs.DefaultTypeLaws.{no_option}
use Rattle.sc_term_laws.proofs.FitLaws.{type_fits}
use Rattle.sc_term_laws.proofs.FitVals.{no_option_at}
use Rattle.sc_term_laws.proofs.FitDefaults.{none_ascends, entity_of, string_of, default_is}
use Rattle.sc_term_laws.proofs.FitSets.{set_fits}
use Rattle.sc_term_laws.proofs.SortsLawful.{attrs_lawful, tags_lawful, type_lawful}

-- ---- what holds at each level, weakened

module _ (P Q : Value-F Value → Type 0) (weaker : (x : Value-F Value) → P x → Q x) where
  abbrev IsWeaker : Value → Type 0
  IsWeaker x = every-Value P x → every-Value Q x

  abbrev Weak : Type 0
  Weak = (x : Value) × IsWeaker x

  members_weaker : (es : List Weak) → AllByRecursion (every-Value P) (map (λ (e : Weak). e.0) es) → AllByRecursion (every-Value Q) (map (λ (e : Weak). e.0) es)
  members_weaker [] h = tt
  members_weaker (e ∷ es) h = (e.1 h.0, members_weaker es h.1)

  abbrev forget : List ℕ × Weak → List ℕ × Value
  forget e = (e.0, e.1.0)

  fields_weaker : (es : List (List ℕ × Weak)) → AllByRecursion (λ (f : List ℕ × Value). every-Value P f.1) (map forget es) → AllByRecursion (λ (f : List ℕ × Value). every-Value Q f.1) (map forget es)
  fields_weaker [] h = tt
  fields_weaker (e ∷ es) h = (e.1.1 h.0, fields_weaker es h.1)

  inner_weaker : (y : Value-F Weak) → IsWeaker (roll-Value (map-Value Weak Value (λ e. e.0) y))
  inner_weaker (v.Bool b) = subst IsWeaker (sym (rolls-Bool b)) (λ h. (level.in_Bool Q b).1 (weaker (v.Bool b) ((level.in_Bool P b).0 h)))
  inner_weaker (v.Long n) = subst IsWeaker (sym (rolls-Long n)) (λ h. (level.in_Long Q n).1 (weaker (v.Long n) ((level.in_Long P n).0 h)))
  inner_weaker (v.String x) = subst IsWeaker (sym (rolls-String x)) (λ h. (level.in_String Q x).1 (weaker (v.String x) ((level.in_String P x).0 h)))
  inner_weaker (v.Entity u) = subst IsWeaker (sym (rolls-Entity u)) (λ h. (level.in_Entity Q u).1 (weaker (v.Entity u) ((level.in_Entity P u).0 h)))
  inner_weaker (v.Decimal n) = subst IsWeaker (sym (rolls-Decimal n)) (λ h. (level.in_Decimal Q n).1 (weaker (v.Decimal n) ((level.in_Decimal P n).0 h)))
  inner_weaker (v.Ip ip) = subst IsWeaker (sym (rolls-Ip ip)) (λ h. (level.in_Ip Q ip).1 (weaker (v.Ip ip) ((level.in_Ip P ip).0 h)))
  inner_weaker (v.Set es) =
      let xs = map (λ (e : Weak). e.0) es in
      subst IsWeaker (sym (rolls-Set xs)) (λ h. let p = (level.in_Set P xs).0 h in (level.in_Set Q xs).1 (weaker (v.Set xs) p.0, members_weaker es p.1))
  inner_weaker (v.Record es) =
      let fs = map forget es in
      subst IsWeaker (sym (rolls-Record fs)) (λ h. let p = (level.in_Record P fs).0 h in (level.in_Record Q fs).1 (weaker (v.Record fs) p.0, fields_weaker es p.1))

  pub weaker_levels : (x : Value) → every-Value P x → every-Value Q x
  weaker_levels = ind-Value IsWeaker (λ x y e. subst (λ (z : Value-F Value). IsWeaker (roll-Value z)) e (inner_weaker y))

-- ---- names that are stored are known

level_known : (d : Declarations) (es : Entities) (x : Value-F Value) → NamesStoredLevel es x → NamesKnownLevel d es x
level_known d es (v.Entity u) h = inl h
level_known d es (v.Bool b) h = tt
level_known d es (v.Long n) h = tt
level_known d es (v.String x) h = tt
level_known d es (v.Decimal n) h = tt
level_known d es (v.Ip ip) h = tt
level_known d es (v.Set xs) h = tt
level_known d es (v.Record fs) h = tt

pub names_known : (d : Declarations) (es : Entities) (x : Value) → NamesStored es x → NamesKnown d es x
names_known d es x h = weaker_levels (NamesStoredLevel es) (NamesKnownLevel d es) (level_known d es) x h

-- ---- orders of entities and of texts

pub entity_cmp : (a b : Uid) → value_cmp (value.Entity a) (value.Entity b) ≡ uid_cmp a b
entity_cmp a b = value_cmp_by_kind (value.Entity a) (value.Entity b) ∙ (λ i. by_kind (out.out_Entity a i) (out.out_Entity b i))

pub string_cmp : (a b : List ℕ) → value_cmp (value.String a) (value.String b) ≡ text_cmp a b
string_cmp a b = value_cmp_by_kind (value.String a) (value.String b) ∙ (λ i. by_kind (out.out_String a i) (out.out_String b i))

module _ {X Y : Type 0} (R : X → X → Ordering) (S : Y → Y → Ordering) (f : X → Y) (same : (a b : X) → S (f a) (f b) ≡ R a b) where
  below_map : (x : X) (xs : List X) → AllByRecursion (λ (y : X). R x y ≡ Less) xs → AllByRecursion (λ (y : Y). S (f x) y ≡ Less) (map f xs)
  below_map x [] h = tt
  below_map x (y ∷ xs) h = (same x y ∙ h.0, below_map x xs h.1)

  pub ascend_map : (xs : List X) → IsStrictlySortedBy R xs → IsStrictlySortedBy S (map f xs)
  unfolding IsStrictlySortedBy
  ascend_map [] h = tt
  ascend_map (x ∷ xs) h = (below_map x xs h.0, ascend_map xs h.1)

-- ---- in a well-formed world

names_named : (d : Declarations) (es : Entities) (fs : Fields) → NamesStored es (value.Record fs) → NamesKnown d es (value.Record fs)
names_named d es fs h = names_known d es (value.Record fs) h

same_uid : (x y : Uid) → is_at (uid_cmp x) y ≡ true → x ≡ y
same_uid x y h = uid_cmp_level x y (is_eq_true (uid_cmp x y) h)

module _ (d : Declarations) (env : Env) (written : List Uid) (w : World) (lawful : IsLawful d) (well : IsWellFormed d env written w) where
  abbrev es : Entities
  es = w.store

  abbrev Of : Sort → Value → Type 0
  Of = IsOfSort d w.store

  abbrev FitsVal : Sort → Val → Type 0
  FitsVal = Fits d w.store

  pub entry : (P : Entry → Type 0) (u : Uid) (e : EntityData) → AllByRecursion P w.store → stored u w.store ≡ Some e → P (u, e)
  unfolding stored
  entry P u e all h = all_element P w.store (u, e) all (Contains-from_lookup same_uid u e w.store h)

  pub entry_of : (u : Uid) → IsStored w.store u → (e : EntityData) × (stored u w.store ≡ Some e)
  entry_of u h = some_of (stored u w.store) h

  typed : {T : Type 0} (o : Option T) (P : T → Type 0) → IsSomeAnd o P → IsSome o
  typed None P h = absurd h
  typed (Some x) P h = refl

  pub stored_declared : (u : Uid) → IsStored w.store u → IsDeclared d u.type_name
  stored_declared u h =
      let e = entry_of u h in
      (declared_is d u.type_name).0 (typed (attrs_of d u.type_name) _ (entry (HasAttributes d) u e.0 well.attributes e.1))

  pub stored_text : (u : Uid) → IsStored w.store u → IsUidText u
  stored_text u h = let e = entry_of u h in (entry IsProperEntry u e.0 well.proper.entries e.1).uid

  -- an entity that is stored is a declared action, a choice, or of a type that lists none
  stored_action : (u : Uid) → IsStored w.store u → is_action_type d u.type_name ≡ true → Contains (action_uids d) u
  stored_action u h typed =
      let e = entry_of u h in
      let a = entry (IsAction d) u e.0 well.actions e.1 typed in
      subst (Contains (action_uids d)) (sym (ap (λ (x : Entry). x.0) a.2)) (contains_map (λ (b : Action). b.uid) d.actions a.0 a.1)

  pub stored_choice : (u : Uid) → IsStored w.store u → is_choice (ids_in (choices_of d u.type_name)) u.id ≡ true
  stored_choice u h = let e = entry_of u h in declared_choice d u (stored_action u h) (entry (HasChoices d) u e.0 well.choices e.1).uid

  stored_of : (name : List ℕ) (u : Uid) → u.type_name ≡ name → IsStored w.store u → Of (entity_sort d name) (value.Entity u)
  stored_of name u e h =
      entity_of d w.store name (choices_of d name) u e
      (ap (λ (n : List ℕ). is_choice (ids_in (choices_of d n)) u.id) (sym e) ∙ stored_choice u h) (stored_text u h) (inl h)

  -- an entity that is stored
  pub stored_fits : (name : List ℕ) (u : Uid) → u.type_name ≡ name → IsStored w.store u → FitsVal (entity_sort d name) (it (value.Entity u))
  stored_fits name u e h =
      as_value (value.Entity u) (no_option_at (entity_sort d name) (s.Entity name (choices_of d name)) (out_Entity name (choices_of d name)) refl)
      (stored_of name u e h)

  -- ---- records of a type

  pub record_fits : (t : Ty) (fs : Fields) → IsTrue (conforms t (value.Record fs)) → IsProper (value.Record fs) → NamesStored w.store (value.Record fs) → Of (sort_of t) (value.Record fs)
  record_fits t fs h p n = record { of_sort = type_fits t (value.Record fs) h; proper = p; named = names_known d w.store (value.Record fs) n }

  some_and : {T : Type 0} (o : Option T) (x : T) (P : T → Type 0) → o ≡ Some x → IsSomeAnd o P → P x
  some_and None x P e h = cc
  some_and (Some y) x P e h = subst P (same_some e) h

  pub context_fits : (t : Ty) → context_of d env.action ≡ Some t → FitsVal (sort_of t) (it (value.Record w.request.context))
  context_fits t e =
      as_value (value.Record w.request.context) (no_option t)
      (record_fits t w.request.context (some_and (context_of d env.action) t _ e well.request.context) well.proper.context well.closed.context)

  pub attributes_fit : (name : List ℕ) (t : Ty) (u : Uid) (o : Option EntityData) → u.type_name ≡ name → attrs_of d name ≡ Some t → stored u w.store ≡ o → FitsVal (sort_of t) (it (attributes_value (sort_of t) o))
  attributes_fit name t u None n a h = as_value (default_of (sort_of t)) (no_option t) (default_is d w.store lawful (sort_of t) (type_lawful d lawful t (attrs_lawful d lawful name t a)))
  attributes_fit name t u (Some e) n a h =
      let typed_by = entry (HasAttributes d) u e well.attributes h in
      let proper = entry IsProperEntry u e well.proper.entries h in
      let named = entry (EntryNamesStored w.store) u e well.closed.entries h in
      as_value (value.Record e.attrs) (no_option t)
      (record_fits t e.attrs (some_and (attrs_of d u.type_name) t _ (ap (attrs_of d) n ∙ a) typed_by) proper.attrs named.attrs)

  -- ---- tags

  tag_each : (t : Ty) (key : List ℕ) (fs : Fields) (x : Value) → AllByRecursion (λ (f : List ℕ × Value). IsTrue (conforms t f.1)) fs → IsProper (value.Record fs) → NamesStored w.store (value.Record fs) → field key fs ≡ Some x → Of (sort_of t) x
  tag_each t key fs x h p n e =
      let there = Contains-from_lookup (λ a b g. bytes_eq_true a b g) key x fs e in
      record {
        of_sort = type_fits t x (all_element (λ (f : List ℕ × Value). IsTrue (conforms t f.1)) fs (key, x) h there);
        proper = all_element (λ (f : List ℕ × Value). IsProper f.1) fs (key, x) (every.every_fields IsProperLevel fs p) there;
        named = names_known d w.store x (all_element (λ (f : List ℕ × Value). NamesStored w.store f.1) fs (key, x) (every.every_fields (NamesStoredLevel w.store) fs n) there);
      }

  matched : {T : Type 0} (o : Option T) (x : T) (A : Type 0) (P : T → Type 0) → o ≡ Some x → MatchOption o A P → P x
  matched None x A P e h = cc
  matched (Some y) x A P e h = subst P (same_some e) h

  found_tag : (t : Ty) (key : List ℕ) (fs : Fields) (o : Option Value) → IsTypeOf d t → AllByRecursion (λ (f : List ℕ × Value). IsTrue (conforms t f.1)) fs → IsProper (value.Record fs) → NamesStored w.store (value.Record fs) → field key fs ≡ o → Of (sort_of t) (unwrap_or o (default_of (sort_of t)))
  found_tag t key fs (Some x) l h p n e = tag_each t key fs x h p n e
  found_tag t key fs None l h p n e = default_is d w.store lawful (sort_of t) (type_lawful d lawful t l)

  pub tag_fits : (name : List ℕ) (t : Ty) (key : List ℕ) (u : Uid) (o : Option EntityData) → u.type_name ≡ name → tags_of d name ≡ Some t → stored u w.store ≡ o → FitsVal (sort_of t) (it (tag_value (sort_of t) key o))
  tag_fits name t key u None n a h = as_value (default_of (sort_of t)) (no_option t) (default_is d w.store lawful (sort_of t) (type_lawful d lawful t (tags_lawful d lawful name t a)))
  tag_fits name t key u (Some e) n a h =
      let typed_by = entry (HasTags d) u e well.tags h in
      let proper = entry IsProperEntry u e well.proper.entries h in
      let named = entry (EntryNamesStored w.store) u e well.closed.entries h in
      as_value _ (no_option t)
      (found_tag t key e.tags (field key e.tags) (tags_lawful d lawful name t a)
      (matched (tags_of d u.type_name) t _ _ (ap (tags_of d) n ∙ a) typed_by) proper.tags named.tags refl)

  -- ---- keys and ancestors

  keys_each : (fs : Fields) → AllByRecursion IsUtf8 (keys_of fs) → AllByRecursion (Of sort.String) (map value.String (keys_of fs))
  keys_each [] h = tt
  keys_each (f ∷ fs) h = (string_of d w.store f.0 h.0, keys_each fs h.1)

  keys_list : (fs : Fields) → map (λ (f : List ℕ × Value). value.String f.0) fs ≡ map value.String (keys_of fs)
  keys_list [] = refl
  keys_list (f ∷ fs) = ap (λ (xs : List Value). value.String f.0 ∷ xs) (keys_list fs)

  pub keys_fit : (u : Uid) (o : Option EntityData) → stored u w.store ≡ o → FitsVal (sort.Set sort.String) (it (keys_value o))
  keys_fit u None h = set_fits d w.store sort.String [] none_ascends tt
  keys_fit u (Some e) h =
      let p = (every.every_level IsProperLevel (value.Record e.tags) (entry IsProperEntry u e well.proper.entries h).tags) in
      let names = subst IsProperLevel (out.out_Record e.tags) p in
      subst (λ (xs : List Value). FitsVal (sort.Set sort.String) (it (value.Set xs))) (sym (keys_list e.tags))
      (set_fits d w.store sort.String (map value.String (keys_of e.tags)) (ascend_map text_cmp value_cmp value.String string_cmp (keys_of e.tags) names.0) (keys_each e.tags names.1))

  abbrev of_name : List ℕ → List Uid → List Uid
  of_name name us = filter (λ (u : Uid). bytes_eq name u.type_name) us

  ancestor_by : (name : List ℕ) (u : Uid) (rest : List Uid) (b : Bool) → bytes_eq name u.type_name ≡ b → IsStored w.store u
      → AllByRecursion (Of (entity_sort d name)) (map value.Entity rest) → AllByRecursion (Of (entity_sort d name)) (map value.Entity (cond b (u ∷ rest) rest))
  ancestor_by name u rest true e there h = (stored_of name u (sym (bytes_eq_true name u.type_name e)) there, h)
  ancestor_by name u rest false e there h = h

  ancestors_each : (name : List ℕ) (ups : List Uid) → AllByRecursion (IsStored w.store) ups → AllByRecursion (Of (entity_sort d name)) (map value.Entity (of_name name ups))
  ancestors_each name [] there = tt
  ancestors_each name (u ∷ ups) there = ancestor_by name u (of_name name ups) (bytes_eq name u.type_name) refl there.0 (ancestors_each name ups there.1)

  pub ancestors_fit : (name : List ℕ) (u : Uid) (o : Option EntityData) → stored u w.store ≡ o → FitsVal (sort.Set (entity_sort d name)) (it (ancestors_value name o))
  ancestors_fit name u None h = set_fits d w.store (entity_sort d name) [] none_ascends tt
  ancestors_fit name u (Some e) h =
      let proper = entry IsProperEntry u e well.proper.entries h in
      let named = entry (EntryNamesStored w.store) u e well.closed.entries h in
      let chosen = of_name name e.ancestors in
      set_fits d w.store (entity_sort d name) (map value.Entity chosen)
      (ascend_map uid_cmp value_cmp value.Entity entity_cmp chosen (IsStrictlySortedBy-filter uid_cmp (λ (a : Uid). bytes_eq name a.type_name) e.ancestors proper.ancestors))
      (ancestors_each name e.ancestors named.ancestors)
