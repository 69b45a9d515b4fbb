-- The schema of declarations is lawful.
use Rattle.std.proofs.Common.{◌≡◌, ℕ, List, [], ◌∷◌, Bool, false, map, Option, Some, IsSome, IfSome, refl, sym, ap, subst, ◌∙◌, inl, inr, Contains, find, unwrap_or}
use Rattle.std.specs.Bool.{Decides}
use Rattle.std.specs.Cmp.{IsTotalOrder}
use Rattle.std.specs.List.{AllByRecursion, list_any, slice_get}
use Rattle.std.specs.List.Sorted.{IsStrictlySortedBy}
use Rattle.std.specs.Option.{option_map}
use Rattle.std.specs.Str.{IsUtf8, bytes_eq}
use Rattle.std.specs.declared.cmp.Ordering.{Ordering}
use Rattle.std.proofs.lemmas.Cmp.{nat_list_cmp_total}
use Rattle.std.proofs.lemmas.Option.{slice_get-map, slice_get-get_or}
use Rattle.std.proofs.lemmas.Slice.Eq.{bytes_eq-Decides}
use Rattle.std.proofs.lemmas.Bool.{or_parts}
use Rattle.sc_lists.proofs.ListLaws.{contains_nothing, contains_split, contains_rest, contains_first, all_of_elements, all_element, contains_map, contains_from_map}
use Rattle.sc_names.specs.declared.uid.Uid.{Uid}
use Rattle.sc_names.specs.Uids.{text_cmp, uid_cmp}
use Rattle.sc_names.proofs.UidLaws.{uid_cmp_total}
use Rattle.sc_schema.specs.Declarations.{Declarations, uid_eq, entity_type, choices_of, action, is_action_type, ancestor_types, action_ancestors}
use Rattle.sc_schema.specs.Lawful.{AreEntityTypes, IsEntityType, IsEntityKind, AreChoices, IsTypeWithin, IsActionWithin, IsLawfulType, IsLawfulAction, IsLawful, IsRecordTypeOf, IsTypeOf}
use Rattle.sc_schema.specs.Sizes.{IsSmall}
use Rattle.sc_schema.specs.declared.declarations.Action.{Action}
use Rattle.sc_schema.specs.declared.declarations.EntityType.{EntityType}
use Rattle.sc_schema.specs.declared.ty.EntityKind.{EntityKind}
use Rattle.sc_schema.specs.declared.ty.Ty.{Ty}
use Rattle.sc_schema.proofs.PlaceLaws.{find_place, uid_eq-Decides}
use Rattle.sc_schema.specs.Expanded.{IsExpanded, IsExpandedEntityType, IsExpandedAction, expanded_names, expanded_kinds, expanded_uids}
use Rattle.sc_schema.specs.declared.expanded.ExpandedAction.{ExpandedAction}
use Rattle.sc_schema.specs.declared.expanded.ExpandedEntityType.{ExpandedEntityType}
use Rattle.sc_schema.specs.declared.expanded.ExpandedSchema.{ExpandedSchema}
use Rattle.sc_schema_json.specs.Above.{IsAbove, AreAbove, NamesKeys, NoCycle}
use Rattle.sc_schema_json.specs.Schemas.{type_links, action_links, AreInOrder, IsEntityTypeOf, IsActionOf, IsSchemaOf}
use Rattle.sc_schema_json.proofs.LinksLaws.{first_parent, above_above, above_key, keys_of_links, links_named}
use Rattle.sc_schema_json.proofs.KeyedLaws.{one_keyed}
use Rattle.sc_schema_json.proofs.TypeLaws.{record_type_of, tags_of}

-- ---- look-ups

found : {X K : Type 0} {R : K → K → Ordering} (o : IsTotalOrder R) (same : K → K → Bool) (decides : (a b : K) → Decides (same a b) (a ≡ b)) (key : X → K) (xs : List X) (x : X) (k : K)
    → IsStrictlySortedBy R (map key xs) → Contains xs x → key x ≡ k → find (λ y. same k (key y)) xs ≡ Some x
found {X} {K} o same decides key xs x k sorted has is =
    let stands : slice_get xs has.0 ≡ Some x = slice_get-get_or xs has.0 x has.1 ∙ ap Some has.2 in
    let place : slice_get (map key xs) has.0 ≡ Some k = slice_get-map key xs has.0 ∙ (ap (option_map key) stands ∙ ap Some is) in
    sym (find_place o same decides key xs k has.0 sorted place) ∙ stands

each_fails : {X : Type 0} (test : X → Bool) (xs : List X) (x : X) → list_any test xs ≡ false → Contains xs x → test x ≡ false
each_fails test [] x h has = absurd (contains_nothing x has)
each_fails test (y ∷ ys) x h has = elim (contains_split y ys x has) [
  | inl same ↦ ap test (sym same) ∙ (or_parts (test y) (list_any test ys) h).0
  | inr more ↦ each_fails test ys x (or_parts (test y) (list_any test ys) h).1 more
]

none_passes : {X : Type 0} (test : X → Bool) (xs : List X) → ((x : X) → Contains xs x → test x ≡ false) → list_any test xs ≡ false
none_passes test [] h = refl
none_passes test (x ∷ xs) h = rw (h x (contains_first x xs)) (none_passes test xs (λ y has. h y (contains_rest x xs y has)))

is_found : {X : Type 0} (o : Option X) (x : X) → o ≡ Some x → IsSome o
is_found o x is = subst IsSome (sym is) refl

no_elements : {X : Type 0} (xs : List X) → ((x : X) → Contains xs x → ⊥) → xs ≡ []
no_elements [] h = refl
no_elements (x ∷ xs) h = absurd (h x (contains_first x xs))

-- ---- what is named has links

pub types_named : (x : ExpandedSchema) → IsExpanded x → NamesKeys (type_links x.entity_types)
types_named x e =
    links_named (λ (d : ExpandedEntityType). d.name) (λ (d : ExpandedEntityType). d.parents) x.entity_types (λ d has. (all_element (IsExpandedEntityType x) x.entity_types d e.each_type has).above)

pub actions_named : (x : ExpandedSchema) → IsExpanded x → NamesKeys (action_links x.actions)
actions_named x e =
    links_named (λ (d : ExpandedAction). d.uid) (λ (d : ExpandedAction). d.parents) x.actions (λ d has. (all_element (IsExpandedAction x) x.actions d e.each_action has).above)

-- ---- what is declared under a name or a uid

record TypeAt (x : ExpandedSchema) (s : Declarations) (name : List ℕ) : Type 0 where
  type : EntityType
  there : entity_type s name ≡ Some type
  above : AreAbove text_cmp (type_links x.entity_types) name type.ancestors

record ActionAt (x : ExpandedSchema) (s : Declarations) (u : Uid) : Type 0 where
  action_there : Action
  there : action s u ≡ Some action_there
  above : AreAbove uid_cmp (action_links x.actions) u action_there.ancestors

module _ (x : ExpandedSchema) (s : Declarations) (e : IsExpanded x) (made : IsSchemaOf x s) where
  type_at : (name : List ℕ) → Contains (expanded_names x) name → TypeAt x s name
  type_at name has =
      let d = contains_from_map (λ (d : ExpandedEntityType). d.name) x.entity_types name has in
      let t = made.types.all d.0 d.1 in
      let is : t.0.name ≡ name = t.2.name ∙ d.2 in
      record {
        type = t.0;
        there = found nat_list_cmp_total bytes_eq bytes_eq-Decides (λ (y : EntityType). y.name) s.types t.0 name made.types.ascending t.1 is;
        above = subst (λ (n : List ℕ). AreAbove text_cmp (type_links x.entity_types) n t.0.ancestors) d.2 t.2.ancestors;
      }

  action_at : (u : Uid) → Contains (expanded_uids x) u → ActionAt x s u
  action_at u has =
      let d = contains_from_map (λ (d : ExpandedAction). d.uid) x.actions u has in
      let a = made.actions.all d.0 d.1 in
      let is : a.0.uid ≡ u = a.2.uid ∙ d.2 in
      record {
        action_there = a.0;
        there = found uid_cmp_total uid_eq uid_eq-Decides (λ (y : Action). y.uid) s.actions a.0 u made.actions.ascending a.1 is;
        above = subst (λ (v : Uid). AreAbove uid_cmp (action_links x.actions) v a.0.ancestors) d.2 a.2.ancestors;
      }

  type_known : (name : List ℕ) → Contains (expanded_names x) name → IsEntityType s name
  type_known name has = let at = type_at name has in is_found (entity_type s name) at.type at.there

  -- a declared entity type has the choices that it is declared with
  choices_at : (d : ExpandedEntityType) → Contains x.entity_types d → d.choices ≡ choices_of s d.name
  choices_at d has =
      let t = made.types.all d has in
      let there = found nat_list_cmp_total bytes_eq bytes_eq-Decides (λ (y : EntityType). y.name) s.types t.0 d.name made.types.ascending t.1 t.2.name in
      sym (ap (λ (o : Option EntityType). unwrap_or (option_map (λ (y : EntityType). y.choices) o) []) there ∙ t.2.choices)

  kind_known : (kind : EntityKind) → Contains (expanded_kinds x) kind → IsEntityKind s kind
  kind_known kind has =
      let d = contains_from_map (λ (y : ExpandedEntityType). record { name = y.name; choices = y.choices }) x.entity_types kind has in
      subst (IsEntityKind s) d.2 (type_known d.0.name (contains_map (λ (y : ExpandedEntityType). y.name) x.entity_types d.0 d.1), choices_at d.0 d.1)

  types_known : (names all : List (List ℕ)) → AllByRecursion (Contains (expanded_names x)) names → AreInOrder names all → AreEntityTypes s all
  types_known names all known ordered =
      record { ascending = ordered.ascending; declared = all_of_elements (IsEntityType s) all (λ name has. type_known name (all_element (Contains (expanded_names x)) names name known ((ordered.members name).0 has))) }

  above_name : {a b : List ℕ} → IsAbove (type_links x.entity_types) a b → Contains (expanded_names x) b
  above_name {a} {b} is =
      subst (λ (names : List (List ℕ)). Contains names b) (keys_of_links (λ (d : ExpandedEntityType). d.name) (λ (d : ExpandedEntityType). d.parents) x.entity_types) (above_key (types_named x e) is)

  above_uid : {a b : Uid} → IsAbove (action_links x.actions) a b → Contains (expanded_uids x) b
  above_uid {a} {b} is =
      subst (λ (uids : List Uid). Contains uids b) (keys_of_links (λ (d : ExpandedAction). d.uid) (λ (d : ExpandedAction). d.parents) x.actions) (above_key (actions_named x e) is)

  no_action : (name : List ℕ) → Contains (expanded_names x) name → is_action_type s name ≡ false
  no_action name has = none_passes (λ (a : Action). bytes_eq name a.uid.type_name) s.actions (λ a there. other a (made.actions.each a there)) where
    other : (a : Action) → (d : ExpandedAction) × Contains x.actions d × IsActionOf (action_links x.actions) d a → bytes_eq name a.uid.type_name ≡ false
    other a d =
        ap (λ (u : Uid). bytes_eq name u.type_name) d.2.uid
        ∙ each_fails (λ (u : Uid). bytes_eq name u.type_name) (expanded_uids x) d.0.uid
        (all_element (λ (n : List ℕ). list_any (λ (u : Uid). bytes_eq n u.type_name) (expanded_uids x) ≡ false) (expanded_names x) name e.no_action has)
        (contains_map (λ (y : ExpandedAction). y.uid) x.actions d.0 d.1)

  -- ---- entity types

  -- above a type without parents there is none
  nothing_above : (d : ExpandedEntityType) → Contains x.entity_types d → d.parents ≡ [] → (b : List ℕ) → IsAbove (type_links x.entity_types) d.name b → ⊥
  nothing_above d has none b above =
      let first = first_parent above in
      let listed = contains_from_map (λ (y : ExpandedEntityType). (y.name, y.parents)) x.entity_types (d.name, first.1.above) first.1.listed in
      let same : listed.0 ≡ d =
      one_keyed bytes_eq bytes_eq-Decides (λ (y : ExpandedEntityType). y.name) x.entity_types e.types_distinct listed.0 d listed.1 has (ap (λ (p : List ℕ × List (List ℕ)). p.0) listed.2) in
      let empty : first.1.above ≡ [] = sym (ap (λ (p : List ℕ × List (List ℕ)). p.1) listed.2) ∙ (ap (λ (y : ExpandedEntityType). y.parents) same ∙ none) in
      contains_nothing first.0 (subst (λ (names : List (List ℕ)). Contains names first.0) empty first.1.parent)

  type_closed : (a : List ℕ) (names : List (List ℕ)) → AreAbove text_cmp (type_links x.entity_types) a names → (b : List ℕ) → Contains names b → IsTypeWithin s names b
  type_closed a names above b has =
      let up = (above.members b).0 has in
      let at = type_at b (above_name up) in
      let are : ancestor_types s b ≡ Some at.type.ancestors = rw (no_action b (above_name up), at.there) refl in
      subst (λ (o : Option (List (List ℕ))). AllByRecursion (Contains names) (unwrap_or o [])) (sym are)
      (all_of_elements (Contains names) at.type.ancestors (λ c further. (above.members c).1 (above_above c up ((at.above.members c).0 further))))

  lawful_type : (t : EntityType) → (d : ExpandedEntityType) × Contains x.entity_types d × IsEntityTypeOf (type_links x.entity_types) d t → IsLawfulType s t
  lawful_type t d =
      let known = all_element (IsExpandedEntityType x) x.entity_types d.0 e.each_type d.1 in
      let named : Contains (expanded_names x) t.name = subst (λ (n : List ℕ). Contains (expanded_names x) n) (sym d.2.name) (contains_map (λ (y : ExpandedEntityType). y.name) x.entity_types d.0 d.1) in
      record {
        text = subst IsUtf8 (sym d.2.name) known.text;
        no_action = no_action t.name named;
        above = record { ascending = d.2.ancestors.ascending; declared = all_of_elements (IsEntityType s) t.ancestors (λ b has. type_known b (above_name ((d.2.ancestors.members b).0 has))) };
        closed = all_of_elements (IsTypeWithin s t.ancestors) t.ancestors (type_closed d.0.name t.ancestors d.2.ancestors);
        shape_type = subst (IsRecordTypeOf s) (sym d.2.shape) (record_type_of (Contains (expanded_kinds x)) (IsEntityKind s) kind_known d.0.shape known.shape_type);
        shape_size = subst IsSmall (sym d.2.shape) known.shape_size;
        tag_type = subst (λ (o : Option Ty). IfSome o (IsTypeOf s)) (sym d.2.tags) (tags_of (Contains (expanded_kinds x)) (IsEntityKind s) kind_known d.0.tags known.tag_type);
        tag_size = subst (λ (o : Option Ty). IfSome o IsSmall) (sym d.2.tags) known.tag_size;
        ids = subst AreChoices (sym d.2.choices) known.ids;
        bare = λ some. (let bare = known.bare (λ none. some (d.2.choices ∙ none)) in record {
          attributes = d.2.shape ∙ bare.attributes;
          tagless = d.2.tags ∙ bare.tagless;
          apart = no_elements t.ancestors (λ b has. nothing_above d.0 d.1 bare.apart b ((d.2.ancestors.members b).0 has));
        });
      }

  -- ---- actions

  action_closed : (a : Uid) (uids : List Uid) → AreAbove uid_cmp (action_links x.actions) a uids → (b : Uid) → Contains uids b → IsActionWithin s uids b
  action_closed a uids above b has =
      let up = (above.members b).0 has in
      let at = action_at b (above_uid up) in
      let are : action_ancestors s b ≡ Some at.action_there.ancestors = rw at.there refl in
      subst (λ (o : Option (List Uid)). AllByRecursion (Contains uids) (unwrap_or o [])) (sym are)
      (all_of_elements (Contains uids) at.action_there.ancestors (λ c further. (above.members c).1 (above_above c up ((at.above.members c).0 further))))

  action_known : (u : Uid) → Contains (expanded_uids x) u → IsSome (action s u)
  action_known u has = let at = action_at u has in is_found (action s u) at.action_there at.there

  lawful_action : NoCycle (action_links x.actions) → (a : Action) → (d : ExpandedAction) × Contains x.actions d × IsActionOf (action_links x.actions) d a → IsLawfulAction s a
  lawful_action acyclic a d =
      let known = all_element (IsExpandedAction x) x.actions d.0 e.each_action d.1 in
      record {
        type_text = subst (λ (u : Uid). IsUtf8 u.type_name) (sym d.2.uid) known.type_text;
        id_text = subst (λ (u : Uid). IsUtf8 u.id) (sym d.2.uid) known.id_text;
        ascending = d.2.ancestors.ascending;
        declared = all_of_elements (λ u. IsSome (action s u)) a.ancestors (λ u has. action_known u (above_uid ((d.2.ancestors.members u).0 has)));
        closed = all_of_elements (IsActionWithin s a.ancestors) a.ancestors (action_closed d.0.uid a.ancestors d.2.ancestors);
        acyclic = λ has. acyclic d.0.uid ((d.2.ancestors.members d.0.uid).0 (subst (λ (u : Uid). Contains a.ancestors u) d.2.uid has));
        principal_types = types_known d.0.principals a.principals known.principal_types d.2.principals;
        resource_types = types_known d.0.resources a.resources known.resource_types d.2.resources;
        context_type = subst (IsRecordTypeOf s) (sym d.2.context) (record_type_of (Contains (expanded_kinds x)) (IsEntityKind s) kind_known d.0.context known.context_type);
        context_size = subst IsSmall (sym d.2.context) known.context_size;
      }

pub schema_lawful : (x : ExpandedSchema) (s : Declarations) → IsExpanded x → NoCycle (action_links x.actions) → IsSchemaOf x s → IsLawful s
schema_lawful x s e acyclic made =
    record {
      types_ascend = made.types.ascending;
      actions_ascend = made.actions.ascending;
      each_type = all_of_elements (IsLawfulType s) s.types (λ t has. lawful_type x s e made t (made.types.each t has));
      each_action = all_of_elements (IsLawfulAction s) s.actions (λ a has. lawful_action x s e made acyclic a (made.actions.each a has));
    }
