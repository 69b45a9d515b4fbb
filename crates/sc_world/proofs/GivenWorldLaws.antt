-- A world that stores just what is named, the given entities as they stand and each other one as it is by default, is
-- well-formed where each given entity is as its type, its ancestors and its kind have it.
use Rattle.std.proofs.Common.{◌≡◌, ℕ, List, [], ◌∷◌, ◌++◌, Bool, true, false, cond, Option, Some, None, is_some, IsSome, IsSomeAnd, IfSome, MatchOption, IsTrue, option_map, unwrap_or, Contains, refl, ap, sym, subst, ◌∙◌}
use Rattle.std.specs.Prelude.{flat_map, option_and_then}
use Rattle.std.specs.List.{AllByRecursion}
use Rattle.sc_lists.proofs.ListLaws.{all_weaker, all_append, all_element, all_of_elements}
use Rattle.sc_names.specs.declared.uid.Uid.{Uid}
use Rattle.sc_schema.specs.declared.declarations.Action.{Action}
use Rattle.sc_schema.specs.declared.declarations.EntityType.{EntityType}
use Rattle.sc_schema.specs.declared.declarations.Env.{Env}
use Rattle.sc_schema.specs.declared.ty.Ty.{Ty}
use Rattle.sc_schema.specs.Declarations.{Declarations, entity_type, action, action_uids, attrs_of, tags_of, is_action_type, types_above, in_order, ancestor_types, context_of}
use Rattle.sc_schema.specs.Lawful.{IsEntityType, AreEntityTypes, IsTypeOf, IsActionWithin, IsLawful}
use Rattle.sc_schema.proofs.LookupLaws.{action_found}
use Rattle.sc_values.specs.declared.value.Value.{Value}
use Rattle.sc_values.specs.declared.value.Value.TheVariants.{Record}
use Rattle.sc_values.specs.Proper.{IsProper, IsProperLevel, IsProperRecord, IsUidText}
use Rattle.sc_values.specs.Records.{Fields}
use Rattle.sc_values.proofs.LevelLaws as level
use Rattle.sc_world.specs.declared.entity.EntityData.{EntityData}
use Rattle.sc_world.specs.declared.world.Request.{Request}
use Rattle.sc_world.specs.Choices.{IsChoice}
use Rattle.sc_world.specs.Conforms.{conforms}
use Rattle.sc_world.specs.Defaults.{default_data}
use Rattle.sc_world.specs.Filling.{HaveTexts}
use Rattle.sc_world.specs.Given.{data_with, AreAsGiven, IsNamedWith, of_schema, of_request, of_policy, of_given, of_entity, StoresNamedWith}
use Rattle.sc_world.specs.Least.{wanted}
use Rattle.sc_world.specs.Named.{uids_in, uids_in_data, uids_in_entry, request_uids, attribute_uids, IsDeclared, IsRequestAmong}
use Rattle.sc_world.specs.Sound.{IsSoundEntry, AreSound}
use Rattle.sc_world.specs.Stores.{Entities, stored, IsMap}
use Rattle.sc_world.specs.WellFormed.{Entry, IsStored, IsTransitive, HasChoices, IsWellFormed}
use Rattle.sc_world.proofs.DeclaredLaws.{declared_type, names_declared}
use Rattle.sc_world.proofs.DefaultEntityLaws.{cond_true, lawful_action, of_action_type, declared_action, declared_uid, declared_stands, action_of, environment_of, attribute_type, attributes_declared, by_action, default_ancestor, has_ancestor_types, is_acyclic, stored_action, no_tags, has_attributes, proper_entry}
use Rattle.sc_world.proofs.DefaultTypeLaws.{type_named}
use Rattle.sc_world.proofs.FillLaws.{all_rows, of_stored, of_key, each_stored}
use Rattle.sc_world.proofs.PartLaws.{by_parts}
use Rattle.sc_world.proofs.UidsLaws.{uids_Record}

some_and : {X : Type 0} (o : Option X) (P : X → Type 0) → IsSomeAnd o P → (x : X) × (o ≡ Some x) × P x
some_and None P h = absurd h
some_and (Some x) P h = (x, refl, h)

module _ (s : Declarations) (lawful : IsLawful s) where
  abbrev AreDeclared : List Uid → Type 0
  AreDeclared = AllByRecursion (IsDeclared s)

  -- ---- types

  no_action_type : (name : List ℕ) → IsEntityType s name → is_action_type s name ≡ true → ⊥
  no_action_type name h is =
      let it = type_named s name lawful h in
      let both : true ≡ false = sym is ∙ (ap (is_action_type s) it.named ∙ it.lawful.no_action) in
      cc

  ancestor_type_at : (name other : List ℕ) (o : Option EntityType) → entity_type s name ≡ o → IsSomeAnd (option_map (λ (x : EntityType). x.ancestors) o) (λ types. Contains types other) → IsEntityType s other
  ancestor_type_at name other None e h = absurd h
  ancestor_type_at name other (Some x) e h =
      let it = type_named s name lawful (ap is_some e) in
      let one : Some x ≡ Some it.type = sym e ∙ it.found in
      let same : x ≡ it.type = cc in
      all_element (IsEntityType s) it.type.ancestors other it.lawful.above.declared (subst (λ (y : EntityType). Contains y.ancestors other) same h)

  -- ancestors of an entity that is no action are of entity types
  above_entity : (name other : List ℕ) → is_action_type s name ≡ false → IsSomeAnd (ancestor_types s name) (λ types. Contains types other) → IsEntityType s other
  above_entity name other h is =
      let declared = option_map (λ (x : EntityType). x.ancestors) (entity_type s name) in
      let found : ancestor_types s name ≡ declared = ap (λ b. cond b (Some (in_order (types_above s.actions name))) declared) h in
      ancestor_type_at name other (entity_type s name) refl (subst (λ (o : Option (List (List ℕ))). IsSomeAnd o (λ types. Contains types other)) found is)

  tag_type_at : (name : List ℕ) (t : Ty) (o : Option EntityType) → entity_type s name ≡ o → option_and_then (λ (x : EntityType). x.tags) o ≡ Some t → IsTypeOf s t
  tag_type_at name t None e is = absurd cc
  tag_type_at name t (Some x) e is =
      let it = type_named s name lawful (ap is_some e) in
      let one : Some x ≡ Some it.type = sym e ∙ it.found in
      let same : x ≡ it.type = cc in
      let tags : it.type.tags ≡ Some t = ap (λ (y : EntityType). y.tags) (sym same) ∙ is in
      subst (λ (o : Option Ty). IfSome o (IsTypeOf s)) tags it.lawful.tag_type

  tag_type : (name : List ℕ) (t : Ty) (b : Bool) → is_action_type s name ≡ b → tags_of s name ≡ Some t → IsTypeOf s t
  tag_type name t true e is = let no : None ≡ Some t = sym (cond_true (is_action_type s name) None _ e) ∙ is in absurd cc
  tag_type name t false e is =
      tag_type_at name t (entity_type s name) refl (sym (ap (λ b. cond b None (option_and_then (λ (x : EntityType). x.tags) (entity_type s name))) e) ∙ is)

  -- ---- what a sound entity names is declared

  no_fields_declared : AreDeclared (uids_in (Record []))
  no_fields_declared = subst AreDeclared (sym (uids_Record [])) tt

  values_declared : (t : Ty) → IsTypeOf s t → (tags : Fields) → AllByRecursion (λ (f : List ℕ × Value). IsProper f.1) tags → AllByRecursion (λ (f : List ℕ × Value). IsTrue (conforms t f.1)) tags
      → AllByRecursion (λ (f : List ℕ × Value). AreDeclared (uids_in f.1)) tags
  values_declared t type [] p h = tt
  values_declared t type (f ∷ tags) p h = (names_declared s lawful t type f.1 p.0 h.0, values_declared t type tags p.1 h.1)

  tags_declared : (tags : Fields) (o : Option Ty) → ((t : Ty) → o ≡ Some t → IsTypeOf s t) → MatchOption o (tags ≡ []) (λ t. AllByRecursion (λ (f : List ℕ × Value). IsTrue (conforms t f.1)) tags) → IsProperRecord tags
      → AreDeclared (uids_in (Record tags))
  tags_declared tags None types is p = subst (λ (fs : Fields). AreDeclared (uids_in (Record fs))) (sym is) no_fields_declared
  tags_declared tags (Some t) types h p =
      subst AreDeclared (sym (uids_Record tags))
      (all_rows (IsDeclared s) (λ (f : List ℕ × Value). uids_in f.1) tags (values_declared t (types t refl) tags ((level.in_Record IsProperLevel tags).0 p).1 h))

  attributes_named : (es : Entities) (u : Uid) (e : EntityData) → IsSoundEntry s es (u, e) → AreDeclared (uids_in (Record e.attrs))
  attributes_named es u e h =
      let t = some_and (attrs_of s u.type_name) (λ t. IsTrue (conforms t (Record e.attrs))) h.attributes in
      let it = attribute_type s lawful u.type_name (ap is_some t.1) in
      let one : Some t.0 ≡ Some it.type = sym t.1 ∙ it.found in
      let same : t.0 ≡ it.type = cc in
      names_declared s lawful it.type it.of_record.proper (Record e.attrs) h.proper.attrs (subst (λ (y : Ty). IsTrue (conforms y (Record e.attrs))) same t.2)

  ancestors_declared : (es : Entities) (u : Uid) (e : EntityData) (b : Bool) → is_action_type s u.type_name ≡ b → IsSoundEntry s es (u, e) → AreDeclared e.ancestors
  ancestors_declared es u e true kind h =
      let a = h.action kind in
      let above : e.ancestors ≡ a.0.ancestors = ap (λ (x : Entry). x.1.ancestors) a.2 in
      subst AreDeclared (sym above)
      (all_weaker (λ v. IsSome (action s v)) (IsDeclared s) (λ v is. declared_uid s lawful v (declared_stands s lawful v is)) a.0.ancestors (lawful_action s lawful a.0 a.1).declared)
  ancestors_declared es u e false kind h =
      all_of_elements (IsDeclared s) e.ancestors (λ v has.
      let is = all_element (λ (a : Uid). IsSomeAnd (ancestor_types s u.type_name) (λ types. Contains types a.type_name)) e.ancestors v h.ancestor_types has in
      declared_type s v.type_name v lawful (above_entity u.type_name v.type_name kind is) refl (all_element (IsChoice s) e.ancestors v h.choices.ancestors has))

  sound_named : (es : Entities) (u : Uid) (e : EntityData) → IsSoundEntry s es (u, e) → AreDeclared (uids_in_data e)
  sound_named es u e h =
      all_append (IsDeclared s) (uids_in (Record e.attrs)) (uids_in (Record e.tags) ++ e.ancestors) (attributes_named es u e h)
      (all_append (IsDeclared s) (uids_in (Record e.tags)) e.ancestors
      (tags_declared e.tags (tags_of s u.type_name) (λ t is. tag_type u.type_name t (is_action_type s u.type_name) refl is) h.tags h.proper.tags)
      (ancestors_declared es u e (is_action_type s u.type_name) refl h))

  sound_declared : (es : Entities) (u : Uid) (e : EntityData) → IsSoundEntry s es (u, e) → IsDeclared s u
  sound_declared es u e h =
      record {
        of_type = ap is_some (some_and (attrs_of s u.type_name) (λ t. IsTrue (conforms t (Record e.attrs))) h.attributes).1;
        as_action = λ kind.
            let a = h.action kind in
            subst (λ (v : Uid). IsSome (action s v)) (sym (ap (λ (x : Entry). x.0) a.2)) (ap is_some (action_found s a.0 lawful a.1));
        as_choice = h.choices.uid;
      }

  default_named : (u : Uid) → IsDeclared s u → AreDeclared (uids_in_data (default_data s u))
  default_named u declared =
      all_append (IsDeclared s) (attribute_uids s u) (uids_in (Record []) ++ (default_data s u).ancestors) (attributes_declared s lawful u declared)
      (all_append (IsDeclared s) (uids_in (Record [])) (default_data s u).ancestors no_fields_declared
      (all_of_elements (IsDeclared s) (default_data s u).ancestors (λ v has. declared_uid s lawful v (default_ancestor s lawful u v has))))

  -- ---- what is given

  module _ (given : Entities) (sound : AreSound s given) where
    sound_of : (u : Uid) (e : EntityData) → stored u given ≡ Some e → IsSoundEntry s given (u, e)
    sound_of u e is = of_stored (IsSoundEntry s given) u e given sound is

    data_declared : (u : Uid) → IsDeclared s u → (o : Option EntityData) → stored u given ≡ o → AreDeclared (uids_in_data (unwrap_or o (default_data s u)))
    data_declared u declared None is = default_named u declared
    data_declared u declared (Some e) is = sound_named given u e (sound_of u e is)

    -- the ancestors that an ancestor has by default are the entity's too
    default_within : (u : Uid) (e : EntityData) (k : Bool) → is_action_type s u.type_name ≡ k → IsSoundEntry s given (u, e) → (b : Uid) → Contains e.ancestors b → AllByRecursion (Contains e.ancestors) (default_data s b).ancestors
    default_within u e true kind h b has =
        let a = h.action kind in
        let above : e.ancestors ≡ a.0.ancestors = ap (λ (x : Entry). x.1.ancestors) a.2 in
        let within = all_element (IsActionWithin s a.0.ancestors) a.0.ancestors b (lawful_action s lawful a.0 a.1).closed (subst (λ (us : List Uid). Contains us b) above has) in
        subst (λ (us : List Uid). AllByRecursion (Contains us) (default_data s b).ancestors) (sym above) within
    default_within u e false kind h b has =
        let types = all_element (λ (v : Uid). IsSomeAnd (ancestor_types s u.type_name) (λ types. Contains types v.type_name)) e.ancestors b h.ancestor_types has in
        by_action s lawful (AllByRecursion (Contains e.ancestors)) b tt
        (λ a. absurd (no_action_type b.type_name (above_entity u.type_name b.type_name kind types) (subst (λ (v : Uid). is_action_type s v.type_name ≡ true) (sym a.named) (of_action_type s lawful a.it a.among))))

    -- the ancestors of an ancestor are the entity's too
    within : (u : Uid) (e : EntityData) → IsSoundEntry s given (u, e) → (b : Uid) → Contains e.ancestors b → (o : Option EntityData) → stored b given ≡ o → AllByRecursion (Contains e.ancestors) (unwrap_or o (default_data s b)).ancestors
    within u e h b has None is = default_within u e (is_action_type s u.type_name) refl h b has
    within u e h b has (Some d) is =
        let here = all_element (λ a. IfSome (stored a given) (λ c. AllByRecursion (Contains e.ancestors) c.ancestors)) e.ancestors b h.transitive has in
        subst (λ (o : Option EntityData). IfSome o (λ c. AllByRecursion (Contains e.ancestors) c.ancestors)) is here

    -- a declared action has its declared ancestors, also where it is given
    action_above : (b : Uid) → IsSome (action s b) → (o : Option EntityData) → stored b given ≡ o → (unwrap_or o (default_data s b)).ancestors ≡ (default_data s b).ancestors
    action_above b declared None is = refl
    action_above b declared (Some d) is =
        let a = action_of s lawful b declared in
        let kind = subst (λ (v : Uid). is_action_type s v.type_name ≡ true) (sym a.named) (of_action_type s lawful a.it a.among) in
        let c = (sound_of b d is).action kind in
        let found : action s b ≡ Some c.0 = ap (λ (x : Entry). action s x.0) c.2 ∙ action_found s c.0 lawful c.1 in
        ap (λ (x : Entry). x.1.ancestors) c.2 ∙ sym (ap (λ (o : Option Action). unwrap_or (option_map (λ (x : Action). x.ancestors) o) []) found)

    -- ---- the world

    module _ (env : Env) (r : Request) (literals : List Uid) (es : Entities) (among : IsRequestAmong s env r literals) (texts : HaveTexts es) (as_given : AreAsGiven s given es) (exact : StoresNamedWith s given r literals es) (ascending : IsMap es) where
      abbrev Named : Uid → Type 0
      Named = IsNamedWith s given r literals

      entity_type_among : (names : List (List ℕ)) (name : List ℕ) → AreEntityTypes s names → Contains names name → IsEntityType s name
      entity_type_among names name h has = all_element (IsEntityType s) names name h.declared has

      principal_declared : IsDeclared s r.principal
      principal_declared =
          let a = environment_of s lawful env among.environment in
          declared_type s env.principal r.principal lawful (entity_type_among a.it.principals env.principal (lawful_action s lawful a.it a.among).principal_types a.principal) among.request.principal among.request.principal_choice

      resource_declared : IsDeclared s r.resource
      resource_declared =
          let a = environment_of s lawful env among.environment in
          declared_type s env.resource r.resource lawful (entity_type_among a.it.resources env.resource (lawful_action s lawful a.it a.among).resource_types a.resource) among.request.resource among.request.resource_choice

      action_is_declared : IsDeclared s r.action
      action_is_declared = let a = environment_of s lawful env among.environment in subst (IsDeclared s) (sym (among.request.action ∙ a.named)) (declared_action s lawful a.it a.among)

      context_declared : AreDeclared (uids_in (Record r.context))
      context_declared =
          let a = environment_of s lawful env among.environment in
          let found : context_of s env.action ≡ Some a.it.context = ap (option_map (λ (x : Action). x.context)) (ap (action s) a.named ∙ action_found s a.it lawful a.among) in
          let conform : IsTrue (conforms a.it.context (Record r.context)) = subst (λ (o : Option Ty). IsSomeAnd o (λ t. IsTrue (conforms t (Record r.context)))) found among.request.context in
          names_declared s lawful a.it.context (lawful_action s lawful a.it a.among).context_type.proper (Record r.context) among.context conform

      request_declared : AreDeclared (request_uids r)
      request_declared = (principal_declared, (action_is_declared, (resource_declared, context_declared)))

      named_declared : (u : Uid) → Named u → IsDeclared s u
      named_declared u (of_schema has) = declared_uid s lawful u has
      named_declared u (of_request has) = all_element (IsDeclared s) (request_uids r) u request_declared has
      named_declared u (of_policy has) = all_element (IsDeclared s) literals u among.declared has
      named_declared u (of_given here) = of_key (IsDeclared s) u given (all_weaker (IsSoundEntry s given) (λ (x : Entry). IsDeclared s x.0) (λ x h. sound_declared given x.0 x.1 h) given sound) here
      named_declared v (of_entity u before has) = all_element (IsDeclared s) (uids_in_data (data_with s given u)) v (data_declared u (named_declared u before) (stored u given) refl) has

      is_stored : (u : Uid) → Named u → IsStored es u
      is_stored u h = (exact u).1 h

      -- ---- one entity

      told : (b : Uid) (d : EntityData) → stored b es ≡ Some d → d ≡ data_with s given b
      told b d is = of_stored (λ (x : Entry). x.1 ≡ data_with s given x.0) b d es as_given is

      given_transitive : (u : Uid) (e : EntityData) → IsSoundEntry s given (u, e) → (b : Uid) → Contains e.ancestors b → (o : Option EntityData) → stored b es ≡ o → IfSome o (λ d. AllByRecursion (Contains e.ancestors) d.ancestors)
      given_transitive u e h b has None is = tt
      given_transitive u e h b has (Some d) is =
          subst (λ (x : EntityData). AllByRecursion (Contains e.ancestors) x.ancestors) (sym (told b d is)) (within u e h b has (stored b given) refl)

      given_sound : (u : Uid) (e : EntityData) → IsSoundEntry s given (u, e) → IsSoundEntry s es (u, e)
      given_sound u e h =
          record {
            proper = h.proper;
            attributes = h.attributes;
            tags = h.tags;
            ancestor_types = h.ancestor_types;
            transitive = all_of_elements (λ b. IfSome (stored b es) (λ d. AllByRecursion (Contains e.ancestors) d.ancestors)) e.ancestors (λ b has. given_transitive u e h b has (stored b es) refl);
            acyclic = h.acyclic;
            action = h.action;
            choices = h.choices;
          }

      default_transitive_at : (us : List Uid) (b : Uid) → IsActionWithin s us b → IsSome (action s b) → (o : Option EntityData) → stored b es ≡ o → IfSome o (λ d. AllByRecursion (Contains us) d.ancestors)
      default_transitive_at us b closed declared None is = tt
      default_transitive_at us b closed declared (Some d) is =
          let above : d.ancestors ≡ (default_data s b).ancestors = ap (λ (x : EntityData). x.ancestors) (told b d is) ∙ action_above b declared (stored b given) refl in
          subst (AllByRecursion (Contains us)) (sym above) closed

      default_transitive : (u : Uid) → IsTransitive es (u, default_data s u)
      default_transitive u =
          by_action s lawful (λ us. AllByRecursion (λ b. IfSome (stored b es) (λ d. AllByRecursion (Contains us) d.ancestors)) us) u tt
          (λ a.
          let it = lawful_action s lawful a.it a.among in
          all_of_elements (λ b. IfSome (stored b es) (λ d. AllByRecursion (Contains a.it.ancestors) d.ancestors)) a.it.ancestors (λ b has.
          default_transitive_at a.it.ancestors b (all_element (IsActionWithin s a.it.ancestors) a.it.ancestors b it.closed has)
          (all_element (λ v. IsSome (action s v)) a.it.ancestors b it.declared has) (stored b es) refl))

      default_choices : (u : Uid) → IsDeclared s u → HasChoices s (u, default_data s u)
      default_choices u declared =
          record {
            uid = declared.as_choice;
            ancestors = all_of_elements (IsChoice s) (default_data s u).ancestors (λ v has. (declared_uid s lawful v (default_ancestor s lawful u v has)).as_choice);
          }

      default_sound : (u : Uid) → IsDeclared s u → IsUidText u → IsSoundEntry s es (u, default_data s u)
      default_sound u declared text =
          record {
            proper = proper_entry s lawful u declared text;
            attributes = has_attributes s lawful u declared;
            tags = no_tags s lawful (tags_of s u.type_name) [] refl;
            ancestor_types = has_ancestor_types s lawful u;
            transitive = default_transitive u;
            acyclic = is_acyclic s lawful u;
            action = stored_action s lawful u declared;
            choices = default_choices u declared;
          }

      entry_sound : (u : Uid) → IsDeclared s u → IsUidText u → (o : Option EntityData) → stored u given ≡ o → IsSoundEntry s es (u, unwrap_or o (default_data s u))
      entry_sound u declared text None is = default_sound u declared text
      entry_sound u declared text (Some e) is = given_sound u e (sound_of u e is)

      data_at : (x : Entry) → Contains es x → x.1 ≡ data_with s given x.0
      data_at x has = all_element (λ (y : Entry). y.1 ≡ data_with s given y.0) es x as_given has

      named_at : (x : Entry) → Contains es x → Named x.0
      named_at x has = (exact x.0).0 (all_element (λ (y : Entry). IsStored es y.0) es x (each_stored es) has)

      sound_at : (x : Entry) → Contains es x → IsSoundEntry s es x
      sound_at x has =
          let text : IsUidText x.0 = all_element (λ (y : Entry). IsUidText y.0) es x texts has in
          let same : ◌≡◌ {A = Entry} (x.0, data_with s given x.0) x = λ i. (x.0, sym (data_at x has) i) in
          subst (IsSoundEntry s es) same (entry_sound x.0 (named_declared x.0 (named_at x has)) text (stored x.0 given) refl)

      -- what a stored entity names is stored
      names_at : (x : Entry) → Contains es x → AllByRecursion (IsStored es) (uids_in_entry x)
      names_at x has =
          all_of_elements (IsStored es) (uids_in_entry x) (λ v names. is_stored v (of_entity x.0 (named_at x has) (subst (λ (e : EntityData). Contains (uids_in_data e) v) (data_at x has) names)))

      -- ---- the whole

      request_stored : AllByRecursion (IsStored es) (request_uids r)
      request_stored = all_of_elements (IsStored es) (request_uids r) (λ u has. is_stored u (of_request has))

      text_of : (u : Uid) → IsStored es u → IsUidText u
      text_of u here = of_key IsUidText u es texts here

      wanted_stored : AllByRecursion (IsStored es) (wanted s literals (record { request = r; store = es }))
      wanted_stored =
          all_append (IsStored es) (request_uids r) (flat_map uids_in_entry es ++ (literals ++ action_uids s)) request_stored
          (all_append (IsStored es) (flat_map uids_in_entry es) (literals ++ action_uids s)
          (all_rows (IsStored es) uids_in_entry es (all_of_elements (λ (x : Entry). AllByRecursion (IsStored es) (uids_in_entry x)) es names_at))
          (all_append (IsStored es) literals (action_uids s) (all_of_elements (IsStored es) literals (λ u has. is_stored u (of_policy has)))
          (all_of_elements (IsStored es) (action_uids s) (λ u has. is_stored u (of_schema has)))))

      pub well_formed_with : IsWellFormed s env literals (record { request = r; store = es })
      well_formed_with =
          (by_parts s env literals (record { request = r; store = es })).0
          (record {
            proper = record {
              principal = text_of r.principal request_stored.0;
              action = text_of r.action request_stored.1.0;
              resource = text_of r.resource request_stored.1.1.0;
              context = among.context;
            };
            request = among.request;
            store = ascending;
            sound = all_of_elements (IsSoundEntry s es) es sound_at;
            stored = wanted_stored;
          })
