-- Each fault that the walk finds is that a name is unknown.
use Rattle.std.proofs.Common.{ℕ, ◌+◌, List, [], ◌∷◌, map, Option, Some, None, codes, sym, subst}
use Rattle.std.specs.Prelude.{⊤}
use Rattle.std.specs.Option.{option_or}
use Rattle.std.specs.Fmt.{decimal}
use Rattle.sc_names.specs.declared.uid.Uid.{Uid}
use Rattle.sc_schema_syntax.specs.declared.attribute.WrittenPresence.{WrittenPresence}
use Rattle.sc_schema_syntax.specs.declared.fault.SchemaFault.{SchemaFault}
use Rattle.sc_schema_syntax.specs.declared.fault.SchemaFault.TheVariants.{NotJson, BadShape, BadName, UnknownType, UnknownAction, TypeCycle, ActionCycle, NotRecord, TypeTooLarge, TooManyEnvironments}
use Rattle.sc_schema_syntax.specs.declared.written_type.WrittenType.{WrittenType, WrittenType-F, roll-WrittenType, map-WrittenType, ind-WrittenType, fold-roll-WrittenType}
use Rattle.sc_schema_syntax.specs.declared.written_type.WrittenType.TheOpen as t
use Rattle.sc_schema_syntax.specs.declared.written_action.WrittenAction.{WrittenAction}
use Rattle.sc_schema_syntax.specs.declared.written_common_type.WrittenCommonType.{WrittenCommonType}
use Rattle.sc_schema_syntax.specs.declared.written_entity_type.WrittenEntityType.{WrittenEntityType}
use Rattle.sc_schema_syntax.specs.declared.written_namespace.WrittenNamespace.{WrittenNamespace}
use Rattle.sc_schema_syntax.specs.declared.written_schema.WrittenSchema.{WrittenSchema}
use Rattle.sc_schema_syntax.specs.Pointers.{under}
use Rattle.sc_schema_names.specs.Names.{Known, known_in, entity_type_named, common_type_named, action_named}
use Rattle.sc_schema_names.specs.Resolution.{type_named}
use Rattle.sc_schema_names.specs.Unknown.{inside, first_member, first_item, no_type, no_action, entity_type_fault, parent_fault, entity_types_fault, type_fault_step, type_fault, any_type_fault, applies_to_fault, action_fault, common_type_fault, declared_entity_type_fault, namespace_fault, schema_fault}
use Rattle.sc_schema_names.specs.Resolves.{HasUnknown, IsOfName}

-- a fault, if there is one, is that a name is unknown
abbrev OfNames : Option SchemaFault → Type 0
OfNames None = ⊤
OfNames (Some fault) = IsOfName fault

-- ---- the walk

of_name-under : (key : List ℕ) (fault : SchemaFault) → IsOfName fault → IsOfName (under key fault)
of_name-under key (UnknownType path) h = tt
of_name-under key (UnknownAction path) h = tt
of_name-under key NotJson h = absurd h
of_name-under key (BadShape path) h = absurd h
of_name-under key (BadName path) h = absurd h
of_name-under key (TypeCycle name) h = absurd h
of_name-under key (ActionCycle uid) h = absurd h
of_name-under key (NotRecord path) h = absurd h
of_name-under key (TypeTooLarge path) h = absurd h
of_name-under key TooManyEnvironments h = absurd h

of_inside : (key : List ℕ) (fault : Option SchemaFault) → OfNames fault → OfNames (inside key fault)
of_inside key None h = tt
of_inside key (Some fault) h = of_name-under key fault h

of_either : (a b : Option SchemaFault) → OfNames a → OfNames b → OfNames (option_or a b)
of_either None b h k = k
of_either (Some fault) b h k = h

of_members : {X : Type 0} (key : X → List ℕ) (fault : X → Option SchemaFault) → ((x : X) → OfNames (fault x)) → (xs : List X) → OfNames (first_member key fault xs)
of_members key fault each [] = tt
of_members key fault each (x ∷ xs) = of_either (inside (key x) (fault x)) (first_member key fault xs) (of_inside (key x) (fault x) (each x)) (of_members key fault each xs)

of_items : {X : Type 0} (fault : X → Option SchemaFault) → ((x : X) → OfNames (fault x)) → (n : ℕ) (xs : List X) → OfNames (first_item fault n xs)
of_items fault each n [] = tt
of_items fault each n (x ∷ xs) = of_either (inside (decimal n) (fault x)) (first_item fault (n + 1) xs) (of_inside (decimal n) (fault x) (each x)) (of_items fault each (n + 1) xs)

-- ---- names

of_no_type : {X : Type 0} (found : Option X) → OfNames (no_type found)
of_no_type None = tt
of_no_type (Some x) = tt

of_no_action : (found : Option Uid) → OfNames (no_action found)
of_no_action None = tt
of_no_action (Some uid) = tt

module _ (known : Known) (namespace : List ℕ) where
  of_entity_types : (texts : List (List ℕ)) → OfNames (entity_types_fault known namespace texts)
  of_entity_types texts = of_items (entity_type_fault known namespace) (λ text. of_no_type (entity_type_named known namespace text)) 0 texts

  -- ---- types

  abbrev Shown : Type 0
  Shown = (w : WrittenType) × OfNames (type_fault known namespace w)

  abbrev forget : WrittenType-F Shown → WrittenType-F WrittenType
  forget = map-WrittenType Shown WrittenType (λ e. e.0)

  abbrev faulty : WrittenType-F WrittenType → WrittenType-F (Option SchemaFault)
  faulty = map-WrittenType WrittenType (Option SchemaFault) (type_fault known namespace)

  of_attributes : (all : List (List ℕ × WrittenPresence × Shown))
      → OfNames (first_member (λ (a : List ℕ × WrittenPresence × Option SchemaFault). a.0) (λ a. a.2)
      (map (λ (a : List ℕ × WrittenPresence × WrittenType). (a.0, a.1, type_fault known namespace a.2)) (map (λ (a : List ℕ × WrittenPresence × Shown). (a.0, a.1, a.2.0)) all)))
  of_attributes [] = tt
  of_attributes (a ∷ all) =
      of_either (inside a.0 (type_fault known namespace a.2.0))
      (first_member (λ (b : List ℕ × WrittenPresence × Option SchemaFault). b.0) (λ b. b.2)
      (map (λ (b : List ℕ × WrittenPresence × WrittenType). (b.0, b.1, type_fault known namespace b.2)) (map (λ (b : List ℕ × WrittenPresence × Shown). (b.0, b.1, b.2.0)) all)))
      (of_inside a.0 (type_fault known namespace a.2.0) a.2.1) (of_attributes all)

  of_step : (y : WrittenType-F Shown) → OfNames (type_fault_step known namespace (faulty (forget y)))
  of_step t.Boolean = tt
  of_step t.Long = tt
  of_step t.String = tt
  of_step (t.Set e) = of_inside (codes "element") (type_fault known namespace e.0) e.1
  of_step (t.Record all) = of_inside (codes "attributes") _ (of_attributes all)
  of_step (t.Entity name) = of_inside (codes "name") (entity_type_fault known namespace name) (of_no_type (entity_type_named known namespace name))
  of_step (t.Extension kind) = tt
  of_step (t.EntityOrCommon name) = of_inside (codes "name") (no_type (type_named known namespace name)) (of_no_type (type_named known namespace name))
  of_step (t.Common name) = of_inside (codes "type") (no_type (common_type_named known namespace name)) (of_no_type (common_type_named known namespace name))

  of_type : (w : WrittenType) → OfNames (type_fault known namespace w)
  unfolding type_fault
  of_type =
      ind-WrittenType (λ w. OfNames (type_fault known namespace w)) (λ x y e. subst (λ z. OfNames (type_fault known namespace (roll-WrittenType z))) e
      (subst OfNames (sym (fold-roll-WrittenType (Option SchemaFault) (type_fault_step known namespace) (forget y))) (of_step y)))

  of_any_type : (type : Option WrittenType) → OfNames (any_type_fault known namespace type)
  of_any_type None = tt
  of_any_type (Some w) = of_type w

  -- ---- declarations

  of_applies_to : (a : WrittenAction) → OfNames (applies_to_fault known namespace a)
  of_applies_to a =
      let context = inside (codes "context") (any_type_fault known namespace a.context) in
      let principals = inside (codes "principalTypes") (entity_types_fault known namespace a.principals) in
      let resources = inside (codes "resourceTypes") (entity_types_fault known namespace a.resources) in
      of_either context (option_or principals resources) (of_inside (codes "context") (any_type_fault known namespace a.context) (of_any_type a.context))
      (of_either principals resources (of_inside (codes "principalTypes") (entity_types_fault known namespace a.principals) (of_entity_types a.principals))
      (of_inside (codes "resourceTypes") (entity_types_fault known namespace a.resources) (of_entity_types a.resources)))

  of_action : (a : WrittenAction) → OfNames (action_fault known namespace a)
  of_action a =
      let parents = first_item (parent_fault known namespace) 0 a.parents in
      of_either (inside (codes "appliesTo") (applies_to_fault known namespace a)) (inside (codes "memberOf") parents)
      (of_inside (codes "appliesTo") (applies_to_fault known namespace a) (of_applies_to a))
      (of_inside (codes "memberOf") parents (of_items (parent_fault known namespace) (λ p. of_no_action (action_named known namespace p)) 0 a.parents))

  of_entity_type : (e : WrittenEntityType) → OfNames (declared_entity_type_fault known namespace e)
  of_entity_type e =
      let parents = inside (codes "memberOfTypes") (entity_types_fault known namespace e.parents) in
      let shape = inside (codes "shape") (any_type_fault known namespace e.shape) in
      let tags = inside (codes "tags") (any_type_fault known namespace e.tags) in
      of_either parents (option_or shape tags) (of_inside (codes "memberOfTypes") (entity_types_fault known namespace e.parents) (of_entity_types e.parents))
      (of_either shape tags (of_inside (codes "shape") (any_type_fault known namespace e.shape) (of_any_type e.shape))
      (of_inside (codes "tags") (any_type_fault known namespace e.tags) (of_any_type e.tags)))

of_namespace : (known : Known) (n : WrittenNamespace) → OfNames (namespace_fault known n)
of_namespace known n =
    let actions = first_member (λ (a : WrittenAction). a.id) (action_fault known n.name) n.actions in
    let commons = first_member (λ (c : WrittenCommonType). c.name) (common_type_fault known n.name) n.common_types in
    let types = first_member (λ (e : WrittenEntityType). e.name) (declared_entity_type_fault known n.name) n.entity_types in
    of_either (inside (codes "actions") actions) (option_or (inside (codes "commonTypes") commons) (inside (codes "entityTypes") types))
    (of_inside (codes "actions") actions (of_members (λ (a : WrittenAction). a.id) (action_fault known n.name) (λ a. of_action known n.name a) n.actions))
    (of_either (inside (codes "commonTypes") commons) (inside (codes "entityTypes") types)
    (of_inside (codes "commonTypes") commons (of_members (λ (c : WrittenCommonType). c.name) (common_type_fault known n.name) (λ c. of_type known n.name c.body) n.common_types))
    (of_inside (codes "entityTypes") types (of_members (λ (e : WrittenEntityType). e.name) (declared_entity_type_fault known n.name) (λ e. of_entity_type known n.name e) n.entity_types)))

of_schema : (known : Known) (w : WrittenSchema) → OfNames (schema_fault known w)
of_schema known w = of_members (λ (n : WrittenNamespace). n.name) (namespace_fault known) (λ n. of_namespace known n) w.namespaces

pub of_name : (w : WrittenSchema) (fault : SchemaFault) → HasUnknown w fault → IsOfName fault
of_name w fault h = subst OfNames h.first (of_schema (known_in w) w)
