-- The sort of a type that a schema writes, and that of a term, is one of the schema's values.
use Rattle.std.proofs.Common.{cond, ◌≡◌, inl, inr, ℕ, List, [], ◌∷◌, map, Bool, true, false, Option, Some, None, option_map, option_and_then, unwrap_or, is_some, IsSome, IfSome, Contains, refl, sym, ap, ◌∙◌, subst}
use Rattle.std.specs.List.{AllByRecursion}
use Rattle.std.specs.Map.{keys_of}
use Rattle.std.specs.Str.{bytes_eq, IsUtf8}
use Rattle.std.proofs.lemmas.Slice.Eq.{bytes_eq-Decides}
use Rattle.sc_lists.proofs.ListLaws.{all_element, contains_nothing, contains_from_map, joined_from, any_contained}
use Rattle.sc_laws.proofs.OptionLaws.{same_some, some_of}
use Rattle.sc_lists.proofs.TextLaws.{bytes_eq_true}
use Rattle.sc_names.specs.declared.uid.Uid.{Uid}
use Rattle.sc_schema.specs.declared.ty.Presence.{Presence}
use Rattle.sc_schema.specs.declared.ty.Presence.TheVariants.{Required, Optional}
use Rattle.sc_schema.specs.declared.ty.Ty.{Ty, Ty-F, roll-Ty, map-Ty, ind-Ty}
use Rattle.sc_schema.specs.declared.ty.Ty.TheVariants.{Record}
use Rattle.sc_schema.specs.declared.ty.Ty.TheOpen as t
use Rattle.sc_schema.specs.declared.declarations.Action.{Action}
use Rattle.sc_schema.specs.declared.declarations.EntityType.{EntityType}
use Rattle.sc_schema.specs.Declarations.{Declarations, action, action_uids, attrs_of, tags_of, choices_of as ids_of, context_of, ancestor_types, types_above, in_order, entity_type, is_action_type}
use Rattle.sc_schema.specs.Lawful.{IsBare, IsLawful, IsLawfulType, IsLawfulAction, IsTypeLevel, IsTypeOf, IsEntityType, names_of_fields}
use Rattle.sc_schema.proofs.EveryTypeLaws as of_type
use Rattle.sc_schema.proofs.IndexLaws.{in_order_members}
use Rattle.sc_schema.proofs.LawfulLaws.{no_fields_lawful}
use Rattle.sc_schema.proofs.LookupLaws.{type_declared, action_declared}
use Rattle.sc_sorts.specs.declared.sort.Sort.{Sort}
use Rattle.sc_sorts.specs.Entities.{uid_of, uids_of, choices_of, IsListed}
use Rattle.sc_sorts.specs.Inside.{SortField, SortFields}
use Rattle.sc_sorts.specs.OfTypes.{with_presence, sort_of, sort_step}
use Rattle.sc_sorts.proofs.EntitiesLaws.{kind_choices}
use Rattle.sc_sorts.proofs.EveryLaws.{in_Bool, in_Long, in_String, in_Decimal, in_Ip, in_Entity, in_Set, in_Record, in_Option}
use Rattle.sc_values.specs.Proper.{IsUidText}
use Rattle.sc_world.specs.Choices.{is_choice, IsChoice}
use Rattle.sc_term_laws.specs.LawfulSorts.{AreNames, IsDeclared, IsSortLevel, IsSortOf}
use Rattle.sc_term_laws.proofs.ChoicesLaws.{ids_in, plain_ids, IsChosen, IsListedAs, as_action, as_choice, IsListedOf, kind_uids, listed_of}
use Rattle.sc_term_laws.proofs.DefaultTypeLaws.{no_option, no_action}
use Rattle.sc_term_laws.proofs.FitLaws.{sort_roll}
use Rattle.sc_term_laws.proofs.MemberLaws.{any_found}

module _ (d : Declarations) (lawful : IsLawful d) where
  -- ---- types and actions that are declared

  pub lawful_type : (name : List ℕ) (x : EntityType) → entity_type d name ≡ Some x → IsLawfulType d x × (name ≡ x.name)
  lawful_type name x e = let there = type_declared d name x e in (all_element (IsLawfulType d) d.types x lawful.each_type there.0, there.1)

  pub lawful_action : (a : Action) → Contains d.actions a → IsLawfulAction d a
  lawful_action a h = all_element (IsLawfulAction d) d.actions a lawful.each_action h

  pub action_type : (a : Action) → Contains d.actions a → is_action_type d a.uid.type_name ≡ true
  action_type a h = any_contained (λ (b : Action). bytes_eq a.uid.type_name b.uid.type_name) d.actions a h ((bytes_eq-Decides a.uid.type_name a.uid.type_name).1 refl)

  pub action_of : (u : Uid) → Contains (action_uids d) u → (a : Action) × Contains d.actions a × (a.uid ≡ u)
  action_of u h = contains_from_map (λ (a : Action). a.uid) d.actions u h

  pub declared_text : (name : List ℕ) → IsDeclared d name → IsUtf8 name
  declared_text name (inl h) = let x = some_of (entity_type d name) h in let it = lawful_type name x.0 x.1 in subst IsUtf8 (sym it.1) it.0.text
  declared_text name (inr h) =
      let a = any_found (λ (b : Action). bytes_eq name b.uid.type_name) d.actions h in
      subst IsUtf8 (sym (bytes_eq_true name a.0.uid.type_name a.2)) (lawful_action a.0 a.1).type_text

  pub declared_action : (u : Uid) → Contains (action_uids d) u → IsDeclared d u.type_name
  declared_action u h = let a = action_of u h in inr (subst (λ (v : Uid). is_action_type d v.type_name ≡ true) a.2 (action_type a.0 a.1))

  -- ---- entities that their types list

  typed_choices : (o : Option EntityType) (name id : List ℕ) → entity_type d name ≡ o → Contains (unwrap_or (option_map (λ (x : EntityType). x.choices) o) []) id
      → IsEntityType d name × IsUtf8 id
  typed_choices None name id e h = absurd (contains_nothing id h)
  typed_choices (Some x) name id e h =
      (ap (λ (o : Option EntityType). is_some o) e, all_element IsUtf8 x.choices id (lawful_type name x e).0.ids.texts h)

  -- the type and the id are texts, and the type is declared
  pub record IsOfDeclaredType (u : Uid) : Type 0 where
    pub type_declared : IsDeclared d u.type_name
    pub text : IsUidText u

  listed_as : (u : Uid) → IsListedAs d u.type_name u → IsOfDeclaredType u
  listed_as u (as_action e h) =
      let a = action_of u h in
      let it = lawful_action a.0 a.1 in
      record { type_declared = declared_action u h; text = subst IsUidText a.2 (it.type_text, it.id_text) }
  listed_as u (as_choice e h) =
      let it = typed_choices (entity_type d u.type_name) u.type_name u.id refl h in
      record { type_declared = inl it.0; text = (declared_text u.type_name (inl it.0), it.1) }

  pub listed_declared : (u : Uid) → IsListed d u → IsOfDeclaredType u
  listed_declared u h = listed_as u (listed_of d u.type_name u h).kind

  -- ---- types above a type

  above_entity : (o : Option EntityType) (name above : List ℕ) (names : List (List ℕ)) → entity_type d name ≡ o → option_map (λ (x : EntityType). x.ancestors) o ≡ Some names → Contains names above → IsDeclared d above
  above_entity None name above names e f h = cc
  above_entity (Some x) name above names e f h =
      let it = lawful_type name x e in
      inl (all_element (IsEntityType d) x.ancestors above it.0.above.declared (subst (λ (ns : List (List ℕ)). Contains ns above) (sym (same_some f)) h))

  types_of : (name : List ℕ) (a : Action) (b : Bool) (above : List ℕ) → Contains d.actions a → Contains (cond b (map (λ (u : Uid). u.type_name) a.ancestors) []) above → IsDeclared d above
  types_of name a true above there h =
      let u = contains_from_map (λ (v : Uid). v.type_name) a.ancestors above h in
      let declared : IsSome (action d u.0) = all_element (λ (v : Uid). IsSome (action d v)) a.ancestors u.0 (lawful_action a there).declared u.1 in
      let b = some_of (action d u.0) declared in
      let it = action_declared d u.0 b.0 b.1 in
      inr (subst (λ (n : List ℕ). is_action_type d n ≡ true) (ap (λ (v : Uid). v.type_name) (sym it.1) ∙ u.2) (action_type b.0 it.0))
  types_of name a false above there h = absurd (contains_nothing above h)

  above_action : (name above : List ℕ) → Contains (in_order (types_above d.actions name)) above → IsDeclared d above
  above_action name above h =
      let there = joined_from (λ (a : Action). cond (bytes_eq name a.uid.type_name) (map (λ (u : Uid). u.type_name) a.ancestors) []) d.actions above ((in_order_members (types_above d.actions name) above).0 h) in
      types_of name there.0 (bytes_eq name there.0.uid.type_name) above there.1 there.2

  above_by : (b : Bool) (name above : List ℕ) (names : List (List ℕ))
      → cond b (Some (in_order (types_above d.actions name))) (option_map (λ (x : EntityType). x.ancestors) (entity_type d name)) ≡ Some names → Contains names above → IsDeclared d above
  above_by true name above names e h = above_action name above (subst (λ (ns : List (List ℕ)). Contains ns above) (sym (same_some e)) h)
  above_by false name above names e h = above_entity (entity_type d name) name above names refl e h

  pub above_declared : (name above : List ℕ) (names : List (List ℕ)) → ancestor_types d name ≡ Some names → Contains names above → IsDeclared d above
  above_declared name above names e h = above_by (is_action_type d name) name above names e h

  -- ---- enumerated types

  -- its declaration, of which nothing is stored but that there is an entity
  pub record IsBareType (name : List ℕ) : Type 0 where
    pub type : EntityType
    pub found : entity_type d name ≡ Some type
    pub bare : IsBare type.shape type.tags type.ancestors

  bare_at : (o : Option EntityType) (name : List ℕ) → entity_type d name ≡ o → (unwrap_or (option_map (λ (x : EntityType). x.choices) o) [] ≡ [] → ⊥) → IsBareType name
  bare_at None name e some = absurd (some refl)
  bare_at (Some x) name e some = record { type = x; found = e; bare = (lawful_type name x e).0.bare some }

  -- of a type that lists entities and is no one of actions
  pub bare_type : (name : List ℕ) → is_action_type d name ≡ false → (choices_of d name ≡ [] → ⊥) → IsBareType name
  bare_type name plain some = bare_at (entity_type d name) name refl (λ none. some (kind_choices d name plain ∙ ap (map (uid_of name)) none))

  -- no type of actions is enumerated
  acting_choices : (name : List ℕ) → is_action_type d name ≡ true → ids_of d name ≡ []
  acting_choices name acts = by (entity_type d name) refl
    where
      by : (o : Option EntityType) → entity_type d name ≡ o → unwrap_or (option_map (λ (x : EntityType). x.choices) o) [] ≡ []
      by None e = refl
      by (Some x) e =
          let both : true ≡ false = sym acts ∙ no_action d lawful name (ap (λ (o : Option EntityType). is_some o) e) in
          absurd cc

  -- what passes the test by those that its type lists is a choice of the type
  pub choice_from : (u : Uid) → is_choice (ids_in (choices_of d u.type_name)) u.id ≡ true → IsChoice d u
  choice_from u h = by (is_action_type d u.type_name) refl
    where
      by : (b : Bool) → is_action_type d u.type_name ≡ b → IsChoice d u
      by true e = ap (λ (ids : List (List ℕ)). is_choice ids u.id) (acting_choices u.type_name e)
      by false e = ap (λ (ids : List (List ℕ)). is_choice ids u.id) (sym (plain_ids d u.type_name e)) ∙ h

  none_but : (us : List Uid) → ((us ≡ [] → ⊥) → ⊥) → us ≡ []
  none_but [] h = refl
  none_but (u ∷ us) h = absurd (h (λ none. cc))

  -- a type below another lists no entities but actions
  pub below_lists : (name above : List ℕ) (names : List (List ℕ)) → ancestor_types d name ≡ Some names → Contains names above → is_action_type d name ≡ false → choices_of d name ≡ []
  below_lists name above names e h plain = none_but (choices_of d name) (λ some.
      let it = bare_type name plain some in
      let types : option_map (λ (x : EntityType). x.ancestors) (entity_type d name) ≡ Some names =
      ap (λ (b : Bool). cond b (Some (in_order (types_above d.actions name))) (option_map (λ (x : EntityType). x.ancestors) (entity_type d name))) (sym plain) ∙ e in
      let own : it.type.ancestors ≡ names = same_some (sym (ap (option_map (λ (x : EntityType). x.ancestors)) it.found) ∙ types) in
      contains_nothing above (subst (λ (ns : List (List ℕ)). Contains ns above) (sym own ∙ it.bare.apart) h))

  -- and one with tags none at all
  pub tagged_lists : (name : List ℕ) (t : Ty) → tags_of d name ≡ Some t → choices_of d name ≡ []
  tagged_lists name t e = none_but (choices_of d name) (λ some. by (is_action_type d name) refl some)
    where
      tags_at : Bool → Option Ty
      tags_at b = cond b None (option_and_then (λ (x : EntityType). x.tags) (entity_type d name))

      by : (b : Bool) → is_action_type d name ≡ b → (choices_of d name ≡ [] → ⊥) → ⊥
      by true f some = let both : None ≡ Some t = sym (ap tags_at f) ∙ e in absurd cc
      by false f some =
          let it = bare_type name f some in
          let both : None ≡ Some t = sym (ap tags_at f ∙ ap (option_and_then (λ (x : EntityType). x.tags)) it.found ∙ it.bare.tagless) ∙ e in
          absurd cc

  pub listed_below : (name above : List ℕ) (names : List (List ℕ)) → ancestor_types d name ≡ Some names → Contains names above → (u : Uid) → Contains (choices_of d name) u → IsChosen name (action_uids d) u
  listed_below name above names e h u there = by (listed_of d name u there)
    where
      by : IsListedOf d name u → IsChosen name (action_uids d) u
      by it = kind_is it.kind
        where
          kind_is : IsListedAs d name u → IsChosen name (action_uids d) u
          kind_is (as_action acts among) = record { among = among; named = it.named }
          kind_is (as_choice plain among) = absurd (contains_nothing u (subst (λ (us : List Uid). Contains us u) (below_lists name above names e h plain) there))

  -- ---- types of what is stored

  shape_of : (o : Option EntityType) (name : List ℕ) (x : Ty) → entity_type d name ≡ o → option_map (λ (y : EntityType). y.shape) o ≡ Some x → IsTypeOf d x
  shape_of None name x e f = cc
  shape_of (Some y) name x e f = subst (IsTypeOf d) (same_some f) (lawful_type name y e).0.shape_type.proper

  attrs_by : (b : Bool) (name : List ℕ) (x : Ty) → cond b (Some (Record [])) (option_map (λ (y : EntityType). y.shape) (entity_type d name)) ≡ Some x → IsTypeOf d x
  attrs_by true name x e = subst (IsTypeOf d) (same_some e) (no_fields_lawful d).proper
  attrs_by false name x e = shape_of (entity_type d name) name x refl e

  pub attrs_lawful : (name : List ℕ) (x : Ty) → attrs_of d name ≡ Some x → IsTypeOf d x
  attrs_lawful name x e = attrs_by (is_action_type d name) name x e

  tag_at : (o : Option Ty) (x : Ty) → IfSome o (IsTypeOf d) → o ≡ Some x → IsTypeOf d x
  tag_at None x h e = cc
  tag_at (Some y) x h e = subst (IsTypeOf d) (same_some e) h

  tag_of : (o : Option EntityType) (name : List ℕ) (x : Ty) → entity_type d name ≡ o → option_and_then (λ (y : EntityType). y.tags) o ≡ Some x → IsTypeOf d x
  tag_of None name x e f = cc
  tag_of (Some y) name x e f = tag_at y.tags x (lawful_type name y e).0.tag_type f

  tags_by : (b : Bool) (name : List ℕ) (x : Ty) → cond b None (option_and_then (λ (y : EntityType). y.tags) (entity_type d name)) ≡ Some x → IsTypeOf d x
  tags_by true name x e = cc
  tags_by false name x e = tag_of (entity_type d name) name x refl e

  pub tags_lawful : (name : List ℕ) (x : Ty) → tags_of d name ≡ Some x → IsTypeOf d x
  tags_lawful name x e = tags_by (is_action_type d name) name x e

  context_at : (o : Option Action) (u : Uid) (x : Ty) → action d u ≡ o → option_map (λ (a : Action). a.context) o ≡ Some x → IsTypeOf d x
  context_at None u x e f = cc
  context_at (Some a) u x e f = subst (IsTypeOf d) (same_some f) (lawful_action a (action_declared d u a e).0).context_type.proper

  pub context_lawful : (u : Uid) (x : Ty) → context_of d u ≡ Some x → IsTypeOf d x
  context_lawful u x e = context_at (action d u) u x refl e

  -- ---- sorts of types

  abbrev IsLawfulSort : Ty → Type 0
  IsLawfulSort x = IsTypeOf d x → IsSortOf d (sort_of x)

  abbrev Known : Type 0
  Known = (x : Ty) × IsLawfulSort x

  abbrev Attribute : Type 0
  Attribute = List ℕ × Presence × Ty

  abbrev attributes_of : List (List ℕ × Presence × Known) → List Attribute
  attributes_of ks = map (λ (k : List ℕ × Presence × Known). (k.0, k.1, k.2.0)) ks

  abbrev sorts_at : List Attribute → SortFields
  sorts_at attributes = map (λ (f : List ℕ × Presence × Sort). (f.0, with_presence f.1 f.2)) (map (λ (a : Attribute). (a.0, a.1, sort_of a.2)) attributes)

  names_same : (attributes : List Attribute) → keys_of (sorts_at attributes) ≡ names_of_fields attributes
  names_same [] = refl
  names_same (a ∷ attributes) = ap (λ (names : List (List ℕ)). a.0 ∷ names) (names_same attributes)

  field_lawful : (p : Presence) (x : Ty) → IsSortOf d (sort_of x) → IsSortOf d (with_presence p (sort_of x))
  field_lawful Required x h = h
  field_lawful Optional x h = (in_Option (IsSortLevel d) (sort_of x)).1 (no_option x, h)

  fields_lawful : (ks : List (List ℕ × Presence × Known)) → AllByRecursion (λ (a : Attribute). IsTypeOf d a.2) (attributes_of ks) → AllByRecursion (λ (f : SortField). IsSortOf d f.1) (sorts_at (attributes_of ks))
  fields_lawful [] h = tt
  fields_lawful (k ∷ ks) h = (field_lawful k.1 k.2.0 (k.2.1 h.0), fields_lawful ks h.1)

  at_type : (y : Ty-F Ty) → IsSortOf d (sort_step (map-Ty Ty Sort sort_of y)) → IsSortOf d (sort_of (roll-Ty y))
  at_type y h = subst (IsSortOf d) (sym (sort_roll y)) h

  inner : (y : Ty-F Known) → IsLawfulSort (roll-Ty (map-Ty Known Ty (λ k. k.0) y))
  inner t.True h = absurd (of_type.every_level (IsTypeLevel d) t.True h)
  inner t.False h = absurd (of_type.every_level (IsTypeLevel d) t.False h)
  inner t.Bool h = at_type t.Bool ((in_Bool (IsSortLevel d)).1 tt)
  inner t.Long h = at_type t.Long ((in_Long (IsSortLevel d)).1 tt)
  inner t.String h = at_type t.String ((in_String (IsSortLevel d)).1 tt)
  inner t.Decimal h = at_type t.Decimal ((in_Decimal (IsSortLevel d)).1 tt)
  inner t.Ip h = at_type t.Ip ((in_Ip (IsSortLevel d)).1 tt)
  inner (t.Entity kind) h =
      let declared = of_type.every_level (IsTypeLevel d) (t.Entity kind) h in
      at_type (t.Entity kind)
      ((in_Entity (IsSortLevel d) kind.name (uids_of kind)).1 (inl declared.0, kind_uids d kind (no_action d lawful kind.name declared.0) declared.1))
  inner (t.Set k) h = at_type (t.Set k.0) ((in_Set (IsSortLevel d) (sort_of k.0)).1 (no_option k.0, k.1 (of_type.every_member (IsTypeLevel d) k.0 h)))
  inner (t.Record ks) h =
      let here = of_type.every_level (IsTypeLevel d) (t.Record (attributes_of ks)) h in
      let each = of_type.every_field (IsTypeLevel d) (attributes_of ks) h in
      at_type (t.Record (attributes_of ks))
      ((in_Record (IsSortLevel d) (sorts_at (attributes_of ks))).1 (subst AreNames (sym (names_same (attributes_of ks))) here, fields_lawful ks each))

  pub type_lawful : (x : Ty) → IsTypeOf d x → IsSortOf d (sort_of x)
  type_lawful = ind-Ty IsLawfulSort (λ x y e. subst (λ (z : Ty-F Ty). IsLawfulSort (roll-Ty z)) e (inner y))
