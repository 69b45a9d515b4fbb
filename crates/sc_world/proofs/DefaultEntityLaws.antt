-- Declared actions and environments, and what holds of an entity as it is stored by default.
use Rattle.std.proofs.Common.{◌≡◌, ℕ, List, [], ◌∷◌, map, Bool, true, false, cond, Option, Some, None, is_some, IsSome, IsSomeAnd, MatchOption, IsTrue, option_map, unwrap_or, Contains, inl, inr, refl, ap, sym, subst, ◌∙◌}
use Rattle.std.specs.List.{AllByRecursion, flat_map}
use Rattle.std.specs.List.Sorted.{IsStrictlySortedBy}
use Rattle.std.specs.Str.{bytes_eq}
use Rattle.std.proofs.lemmas.List.Elements.{Contains-append_cases}
use Rattle.std.proofs.lemmas.Slice.Eq.{bytes_eq-Decides}
use Rattle.sc_laws.proofs.OptionLaws.{some_of}
use Rattle.sc_lists.proofs.ListLaws.{all_weaker, contains_map, contains_nothing, contains_split, contains_rest, contains_first, all_element, all_of_elements, contains_joined, any_contained}
use Rattle.sc_names.specs.declared.uid.Uid.{Uid}
use Rattle.sc_names.specs.Uids.{uid_cmp}
use Rattle.sc_schema.specs.declared.declarations.Action.{Action}
use Rattle.sc_schema.specs.declared.declarations.EntityType.{EntityType}
use Rattle.sc_schema.specs.declared.declarations.Env.{Env}
use Rattle.sc_schema.specs.declared.ty.Ty.{Ty}
use Rattle.sc_schema.specs.declared.ty.Ty.TheVariants as ty
use Rattle.sc_schema.specs.Declarations.{Declarations, environment, environments, environments_for, entity_type, action, action_uids, action_ancestors, attrs_of, choices_of, is_action_type, types_above, ancestor_types, context_of}
use Rattle.sc_schema.specs.Lawful.{IsEntityType, AreEntityTypes, IsRecordTypeOf, IsLawfulAction, IsLawful}
use Rattle.sc_schema.proofs.IndexLaws.{in_order_members}
use Rattle.sc_schema.proofs.LawfulLaws.{no_fields_lawful, no_names_ascend, no_uids_ascend}
use Rattle.sc_schema.proofs.LookupLaws.{action_found, action_declared}
use Rattle.sc_values.specs.declared.value.Value.{Value}
use Rattle.sc_values.specs.declared.value.Value.TheVariants as value
use Rattle.sc_values.specs.Proper.{IsProperLevel, IsProperRecord, IsUidText}
use Rattle.sc_values.proofs.LevelLaws as level
use Rattle.sc_world.specs.Choices.{is_choice, IsChoice}
use Rattle.sc_world.specs.Conforms.{conforms}
use Rattle.sc_world.specs.Defaults.{default_uid, default_value, default_fields, default_attrs, default_data, default_request}
use Rattle.sc_world.specs.Named.{attribute_uids, IsDeclared, IsRequestAmong}
use Rattle.sc_world.specs.WellFormed.{Entry, IsProperEntry, HasAttributes, HasAncestorTypes, IsAcyclic, IsAction, action_data}
use Rattle.sc_world.proofs.ChoiceLaws.{action_choice}
use Rattle.sc_world.proofs.DeclaredLaws.{names_declared}
use Rattle.sc_world.proofs.DefaultLaws.{default_Record, fields_Record}
use Rattle.sc_world.proofs.DefaultTypeLaws.{type_named, IsDefaultOf, default_of, default_uid-type, default_choice}

-- ---- lists

-- an element of rows stands in one of them
record StandsInRow {X Y : Type 0} (f : X → List Y) (xs : List X) (y : Y) : Type 0 where
  row : X
  among : Contains xs row
  stands : Contains (f row) y

in_row : {X Y : Type 0} (f : X → List Y) (xs : List X) (y : Y) → Contains (flat_map f xs) y → StandsInRow f xs y
in_row f [] y has = absurd (contains_nothing y has)
in_row f (x ∷ xs) y has = elim (Contains-append_cases (f x) (flat_map f xs) y has) [
  | inl here ↦ record { row = x; among = contains_first x xs; stands = here }
  | inr later ↦ let there = in_row f xs y later in record { row = there.row; among = contains_rest x xs there.row there.among; stands = there.stands }
]

record IsImage {X Y : Type 0} (f : X → Y) (xs : List X) (y : Y) : Type 0 where
  it : X
  among : Contains xs it
  is : f it ≡ y

image : {X Y : Type 0} (f : X → Y) (xs : List X) (y : Y) → Contains (map f xs) y → IsImage f xs y
image f [] y has = absurd (contains_nothing y has)
image f (x ∷ xs) y has = elim (contains_split (f x) (map f xs) y has) [
  | inl same ↦ record { it = x; among = contains_first x xs; is = same }
  | inr later ↦ let there = image f xs y later in record { it = there.it; among = contains_rest x xs there.it there.among; is = there.is }
]

pub cond_true : {X : Type 0} (b : Bool) (x y : X) → b ≡ true → cond b x y ≡ x
cond_true true x y h = refl
cond_true false x y h = absurd cc

module _ (s : Declarations) (lawful : IsLawful s) where
  -- ---- declared actions

  abbrev uid_of : Action → Uid
  uid_of a = a.uid

  pub lawful_action : (a : Action) → Contains s.actions a → IsLawfulAction s a
  lawful_action a has = all_element (IsLawfulAction s) s.actions a lawful.each_action has

  pub of_action_type : (a : Action) → Contains s.actions a → is_action_type s a.uid.type_name ≡ true
  of_action_type a has = any_contained (λ (b : Action). bytes_eq a.uid.type_name b.uid.type_name) s.actions a has ((bytes_eq-Decides a.uid.type_name a.uid.type_name).1 refl)

  pub declared_action : (a : Action) → Contains s.actions a → IsDeclared s a.uid
  declared_action a has =
      record {
        of_type = ap is_some (cond_true (is_action_type s a.uid.type_name) (Some (ty.Record [])) _ (of_action_type a has));
        as_action = λ h. ap is_some (action_found s a lawful has);
        as_choice = action_choice s lawful a.uid (of_action_type a has);
      }

  pub declared_uid : (u : Uid) → Contains (action_uids s) u → IsDeclared s u
  declared_uid u has = let a = image uid_of s.actions u has in subst (IsDeclared s) a.is (declared_action a.it a.among)

  -- the declared action of a uid
  pub record IsActionOf (u : Uid) : Type 0 where
    pub it : Action
    pub found : action s u ≡ Some it
    pub among : Contains s.actions it
    pub named : u ≡ it.uid

  pub action_of : (u : Uid) → IsSome (action s u) → IsActionOf u
  action_of u h =
      let found = some_of (action s u) h in
      let there = action_declared s u found.0 found.1 in
      record { it = found.0; found = found.1; among = there.0; named = there.1 }

  pub declared_stands : (b : Uid) → IsSome (action s b) → Contains (action_uids s) b
  declared_stands b h = let a = action_of b h in subst (Contains (action_uids s)) (sym a.named) (contains_map uid_of s.actions a.it a.among)

  -- ---- environments

  pub record IsEnvironmentOf (env : Env) : Type 0 where
    pub it : Action
    pub among : Contains s.actions it
    pub principal : Contains it.principals env.principal
    pub resource : Contains it.resources env.resource
    pub named : env.action ≡ it.uid

  pub environment_of : (env : Env) → Contains (environments s) env → IsEnvironmentOf env
  environment_of env has =
      let a = in_row environments_for s.actions env has in
      let p = in_row (λ (p : List ℕ). map (environment a.row p) a.row.resources) a.row.principals env a.stands in
      let q = image (environment a.row p.row) a.row.resources env p.stands in
      record {
        it = a.row;
        among = a.among;
        principal = subst (Contains a.row.principals) (ap (λ (e : Env). e.principal) q.is) p.among;
        resource = subst (Contains a.row.resources) (ap (λ (e : Env). e.resource) q.is) q.among;
        named = ap (λ (e : Env). e.action) (sym q.is);
      }

  -- ---- defaults of record types

  record_default : (o : Option Ty) (type : Ty) → o ≡ Some type → IsRecordTypeOf s type → value.Record (default_fields s o) ≡ default_value s type
  record_default o type is of_record =
      ap (λ x. value.Record (default_fields s x)) is
      ∙ ap value.Record (fields_Record s type of_record.fields of_record.record_type)
      ∙ sym (default_Record s of_record.fields)
      ∙ ap (default_value s) (sym of_record.record_type)

  default_record : (o : Option Ty) (type : Ty) → o ≡ Some type → IsRecordTypeOf s type → IsDefaultOf type (value.Record (default_fields s o))
  default_record o type is of_record = subst (IsDefaultOf type) (sym (record_default o type is of_record)) (default_of s lawful type of_record.proper)

  -- the type of an entity's attributes
  pub record HasAttributeType (name : List ℕ) : Type 0 where
    pub type : Ty
    pub found : attrs_of s name ≡ Some type
    pub of_record : IsRecordTypeOf s type

  shape_at : (name : List ℕ) (o : Option EntityType) → entity_type s name ≡ o → attrs_of s name ≡ option_map (λ (x : EntityType). x.shape) o → IsSome (option_map (λ (x : EntityType). x.shape) o) → HasAttributeType name
  shape_at name None e is h = absurd cc
  shape_at name (Some x) e is h =
      let it = type_named s name lawful (ap is_some e) in
      let one : Some x ≡ Some it.type = sym e ∙ it.found in
      let same : x ≡ it.type = cc in
      record { type = x.shape; found = is; of_record = subst (λ (y : EntityType). IsRecordTypeOf s y.shape) (sym same) it.lawful.shape_type }

  attribute_at : (name : List ℕ) (b : Bool) → is_action_type s name ≡ b → IsSome (attrs_of s name) → HasAttributeType name
  attribute_at name true e h = record { type = ty.Record []; found = cond_true (is_action_type s name) _ _ e; of_record = no_fields_lawful s }
  attribute_at name false e h =
      let is : attrs_of s name ≡ option_map (λ (x : EntityType). x.shape) (entity_type s name) = ap (λ b. cond b (Some (ty.Record [])) (option_map (λ (x : EntityType). x.shape) (entity_type s name))) e in
      shape_at name (entity_type s name) refl is (subst (λ (o : Option Ty). IsSome o) is h)

  pub attribute_type : (name : List ℕ) → IsSome (attrs_of s name) → HasAttributeType name
  attribute_type name h = attribute_at name (is_action_type s name) refl h

  pub default_attributes : (name : List ℕ) (h : HasAttributeType name) → IsDefaultOf h.type (value.Record (default_attrs s name))
  default_attributes name h = default_record (attrs_of s name) h.type h.found h.of_record

  -- what an entity's attributes name by default is declared
  pub attributes_declared : (u : Uid) → IsDeclared s u → AllByRecursion (IsDeclared s) (attribute_uids s u)
  attributes_declared u declared =
      let h = attribute_type u.type_name declared.of_type in
      let d = default_attributes u.type_name h in
      names_declared s lawful h.type h.of_record.proper (value.Record (default_attrs s u.type_name)) d.proper d.conform

  -- ---- an entity's ancestors

  by_action_at : (P : List Uid → Type 0) (u : Uid) (o : Option Action) → action s u ≡ o → P [] → ((a : IsActionOf u) → P a.it.ancestors) → P (unwrap_or (option_map (λ (a : Action). a.ancestors) o) [])
  by_action_at P u None e none some = none
  by_action_at P u (Some a) e none some = let there = action_declared s u a e in some (record { it = a; found = e; among = there.0; named = there.1 })

  pub by_action : (P : List Uid → Type 0) (u : Uid) → P [] → ((a : IsActionOf u) → P a.it.ancestors) → P (unwrap_or (action_ancestors s u) [])
  by_action P u none some = by_action_at P u (action s u) refl none some

  pub ancestors_ascend : (u : Uid) → IsStrictlySortedBy uid_cmp (default_data s u).ancestors
  ancestors_ascend u = by_action (IsStrictlySortedBy uid_cmp) u no_uids_ascend (λ a. (lawful_action a.it a.among).ascending)

  uid_text : (a : Action) → Contains s.actions a → IsUidText a.uid
  uid_text a has = let it = lawful_action a has in (it.type_text, it.id_text)

  text_of_action : (b : Uid) → IsSome (action s b) → IsUidText b
  text_of_action b h = let it = action_of b h in subst IsUidText (sym it.named) (uid_text it.it it.among)

  pub ancestor_texts : (u : Uid) → AllByRecursion IsUidText (default_data s u).ancestors
  ancestor_texts u = by_action (AllByRecursion IsUidText) u tt (λ a. all_weaker (λ b. IsSome (action s b)) IsUidText text_of_action a.it.ancestors (lawful_action a.it a.among).declared)

  type_above : (a : Action) (b : Uid) → Contains s.actions a → Contains a.ancestors b → Contains (types_above s.actions a.uid.type_name) b.type_name
  type_above a b among has =
      let name = a.uid.type_name in
      contains_joined (λ (x : Action). cond (bytes_eq name x.uid.type_name) (map (λ (u : Uid). u.type_name) x.ancestors) []) s.actions a b.type_name among
      (subst (λ (names : List (List ℕ)). Contains names b.type_name) (sym (cond_true (bytes_eq name name) _ [] ((bytes_eq-Decides name name).1 refl))) (contains_map (λ (u : Uid). u.type_name) a.ancestors b has))

  types_of_action : (a : Action) (b : Uid) → Contains s.actions a → Contains a.ancestors b → IsSomeAnd (ancestor_types s a.uid.type_name) (λ types. Contains types b.type_name)
  types_of_action a b among has =
      subst (λ (o : Option (List (List ℕ))). IsSomeAnd o (λ types. Contains types b.type_name)) (sym (cond_true (is_action_type s a.uid.type_name) _ _ (of_action_type a among)))
      ((in_order_members (types_above s.actions a.uid.type_name) b.type_name).1 (type_above a b among has))

  abbrev HasTypes : Uid → List Uid → Type 0
  HasTypes u us = AllByRecursion (λ (b : Uid). IsSomeAnd (ancestor_types s u.type_name) (λ types. Contains types b.type_name)) us

  pub has_ancestor_types : (u : Uid) → HasAncestorTypes s (u, default_data s u)
  has_ancestor_types u = by_action (HasTypes u) u tt (λ a. subst (λ (w : Uid). HasTypes w a.it.ancestors) (sym a.named) (all_of_elements _ a.it.ancestors (λ b has. types_of_action a.it b a.among has)))

  pub is_acyclic : (u : Uid) → IsAcyclic (u, default_data s u)
  is_acyclic u = by_action (λ us. ¬ Contains us u) u (contains_nothing u) (λ a has. (lawful_action a.it a.among).acyclic (subst (Contains a.it.ancestors) a.named has))

  -- the ancestors that an entity has by default are declared actions
  pub default_ancestor : (u v : Uid) → Contains (default_data s u).ancestors v → Contains (action_uids s) v
  default_ancestor u =
      by_action (λ us. (v : Uid) → Contains us v → Contains (action_uids s) v) u (λ v has. absurd (contains_nothing v has))
      (λ a v has. declared_stands v (all_element (λ b. IsSome (action s b)) a.it.ancestors v (lawful_action a.it a.among).declared has))

  -- ---- an action as it is stored

  no_attributes : (name : List ℕ) → is_action_type s name ≡ true → default_attrs s name ≡ []
  no_attributes name h =
      ap (default_fields s) (cond_true (is_action_type s name) (Some (ty.Record [])) _ h) ∙ fields_Record s (ty.Record []) [] refl

  pub stored_action : (u : Uid) → IsDeclared s u → IsAction s (u, default_data s u)
  stored_action u declared of_type =
      let a = action_of u (declared.as_action of_type) in
      let attrs = no_attributes u.type_name of_type in
      let ancestors : unwrap_or (action_ancestors s u) [] ≡ a.it.ancestors = ap (λ (o : Option Action). unwrap_or (option_map (λ (x : Action). x.ancestors) o) []) a.found in
      let is : ◌≡◌ {A = Entry} (u, default_data s u) (a.it.uid, action_data a.it) = λ i. (a.named i, record { attrs = attrs i; ancestors = ancestors i; tags = [] }) in
      (a.it, a.among, is)

  pub no_tags : (o : Option Ty) (tags : List (List ℕ × Value)) → tags ≡ [] → MatchOption o (tags ≡ []) (λ t. AllByRecursion (λ (f : List ℕ × Value). IsTrue (conforms t f.1)) tags)
  no_tags None tags is = is
  no_tags (Some t) tags is = subst (AllByRecursion (λ (f : List ℕ × Value). IsTrue (conforms t f.1))) (sym is) tt

  pub has_attributes : (u : Uid) → IsDeclared s u → HasAttributes s (u, default_data s u)
  has_attributes u declared =
      let h = attribute_type u.type_name declared.of_type in
      subst (λ (o : Option Ty). IsSomeAnd o (λ t. IsTrue (conforms t (value.Record (default_attrs s u.type_name))))) (sym h.found) (default_attributes u.type_name h).conform

  no_tags_proper : IsProperRecord []
  no_tags_proper = (level.in_Record IsProperLevel []).1 ((no_names_ascend, tt), tt)

  pub proper_entry : (u : Uid) → IsDeclared s u → IsUidText u → IsProperEntry (u, default_data s u)
  proper_entry u declared text =
      record {
        uid = text;
        attrs = (default_attributes u.type_name (attribute_type u.type_name declared.of_type)).proper;
        tags = no_tags_proper;
        ancestors = ancestors_ascend u;
        ancestor_texts = ancestor_texts u;
      }

  -- ---- the request of an environment, by default

  -- the default entity of a listed type is a choice, if the type is enumerated
  chosen : (name : List ℕ) {names : List (List ℕ)} → AreEntityTypes s names → Contains names name → IsChoice s (default_uid s name)
  chosen name {names} types has =
      subst (λ (n : List ℕ). IsTrue (is_choice (choices_of s n) (default_uid s name).id)) (sym (default_uid-type s name))
      (default_choice s name lawful (all_element (IsEntityType s) names name types.declared has))

  pub default_among : (env : Env) (literals : List Uid) → Contains (environments s) env → AllByRecursion (IsDeclared s) literals → IsRequestAmong s env (default_request s env) literals
  default_among env literals has declared =
      let a = environment_of env has in
      let found : context_of s env.action ≡ Some a.it.context = ap (option_map (λ (x : Action). x.context)) (ap (action s) a.named ∙ action_found s a.it lawful a.among) in
      let context = default_record (context_of s env.action) a.it.context found (lawful_action a.it a.among).context_type in
      record {
        environment = has;
        request = record {
          principal = default_uid-type s env.principal;
          action = refl;
          resource = default_uid-type s env.resource;
          principal_choice = chosen env.principal (lawful_action a.it a.among).principal_types a.principal;
          resource_choice = chosen env.resource (lawful_action a.it a.among).resource_types a.resource;
          context = subst (λ (o : Option Ty). IsSomeAnd o (λ t. IsTrue (conforms t (value.Record (default_fields s (context_of s env.action)))))) (sym found) context.conform;
        };
        context = context.proper;
        declared = declared;
      }
