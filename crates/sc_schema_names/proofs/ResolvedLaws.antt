-- What a well-written schema resolves to names what it declares, and each of its declarations has a name of its own.
use Rattle.std.proofs.Common.{◌≡◌, ℕ, List, [], ◌∷◌, ◌++◌, map, length, Bool, true, false, ◌==◌, Option, None, IfSome, codes, refl, sym, ap, subst}
use Rattle.std.specs.Prelude.{option_map, if◌then◌else◌}
use Rattle.std.specs.Option.{option_or}
use Rattle.std.specs.List.{AllByRecursion, flat_map, list_any, IsDistinct}
use Rattle.std.specs.Str.{IsUtf8, bytes_eq}
use Rattle.std.proofs.lemmas.Str.{IsUtf8-append}
use Rattle.sc_lists.proofs.ListLaws.{all_weaker}
use lib.Utf8.{encode}
use Rattle.sc_names.specs.declared.uid.Uid.{Uid}
use Rattle.sc_schema.specs.Declarations.{uid_eq}
use Rattle.sc_schema_syntax.specs.declared.fault.SchemaFault.{SchemaFault}
use Rattle.sc_schema_syntax.specs.declared.written_action.WrittenAction.{WrittenAction}
use Rattle.sc_schema_syntax.specs.declared.written_common_type.WrittenCommonType.{WrittenCommonType}
use Rattle.sc_schema_syntax.specs.declared.written_entity_type.WrittenEntityType.{WrittenEntityType}
use Rattle.sc_schema_syntax.specs.declared.written_namespace.WrittenNamespace.{WrittenNamespace}
use Rattle.sc_schema_syntax.specs.declared.written_schema.WrittenSchema.{WrittenSchema}
use Rattle.sc_schema_syntax.specs.WellWritten.{IsWrittenType, IsWrittenEntityType, IsWritten}
use Rattle.sc_schema_syntax.proofs.FaultsLaws.{no_fault_either, no_fault_under}
use Rattle.sc_schema.specs.declared.resolved_common_type.ResolvedCommonType.{ResolvedCommonType}
use Rattle.sc_schema.specs.declared.resolved_namespace.ResolvedNamespace.{ResolvedNamespace}
use Rattle.sc_schema.specs.declared.resolved_schema.ResolvedSchema.{ResolvedSchema}
use Rattle.sc_schema.specs.Resolved.{entity_names, IsResolvedType, IsResolvedEntityType, IsResolvedAction, IsResolved}
use Rattle.sc_schema_names.specs.Names.{Known, known_in, full, action_type, actions}
use Rattle.sc_schema_names.specs.Resolution.{entity_type_of, resolved_type, resolved_action, resolved_common_type, resolved_entity_type, resolved_namespace, resolved}
use Rattle.sc_schema_names.specs.Unknown.{inside, first_member, first_item, parent_fault, entity_types_fault, any_type_fault, applies_to_fault, action_fault, common_type_fault, declared_entity_type_fault, first_unknown}
use Rattle.sc_schema_names.specs.Resolves.{Resolves}
use Rattle.sc_schema_names.proofs.DistinctLaws.{all-map, all-flat_map}
use Rattle.sc_schema_names.proofs.OwnNamesLaws.{same_names, IsGood, goods, distinct_commons, distinct_entities, distinct_uids, no_action_types}
use Rattle.sc_schema_names.proofs.TypesLaws.{SameNames, fine_type, fine_any_type, entities_declared, parents_declared}

-- ---- texts

full_text : (n x : List ℕ) → IsUtf8 n → IsUtf8 x → IsUtf8 (full n x)
unfolding encode
full_text n x t u = either (length n == 0) where
  either : (b : Bool) → IsUtf8 (if b then x else n ++ (codes "::" ++ x))
  either true = u
  either false = IsUtf8-append n (codes "::" ++ x) t (IsUtf8-append (codes "::") x (codes "::", (refl, refl)) u)

action_text : (n : List ℕ) → IsUtf8 n → IsUtf8 (action_type n)
unfolding encode
action_text n t = full_text n (codes "Action") t (codes "Action", (refl, refl))

-- ---- what each declaration names is declared

members_faultless : {X : Type 0} (key : X → List ℕ) (fault : X → Option SchemaFault) (xs : List X) → first_member key fault xs ≡ None → AllByRecursion (λ x. fault x ≡ None) xs
members_faultless key fault [] e = tt
members_faultless key fault (x ∷ xs) e =
    let parts = no_fault_either (inside (key x) (fault x)) (first_member key fault xs) e in
    (no_fault_under (key x) (fault x) parts.0, members_faultless key fault xs parts.1)

module _ (w : WrittenSchema) (s : ResolvedSchema) (same : SameNames w s) where
  abbrev known : Known
  known = known_in w

  fine_commons : (n : List ℕ) (cs : List WrittenCommonType) → AllByRecursion (λ (c : WrittenCommonType). IsWrittenType c.body) cs → AllByRecursion (λ (c : WrittenCommonType). common_type_fault known n c ≡ None) cs
      → AllByRecursion (λ (c : ResolvedCommonType). IsResolvedType s c.body) (map (resolved_common_type known n) cs)
  fine_commons n [] h e = tt
  fine_commons n (c ∷ cs) h e = (fine_type w s same n c.body h.0 e.0, fine_commons n cs h.1 e.1)

  fine_entity_type : (n : List ℕ) (t : WrittenEntityType) → IsUtf8 n → IsUtf8 t.name → IsWrittenEntityType t → declared_entity_type_fault known n t ≡ None
      → IsResolvedEntityType s (resolved_entity_type known n t)
  fine_entity_type n t space own h e =
      let parents = inside (codes "memberOfTypes") (entity_types_fault known n t.parents) in
      let shape = inside (codes "shape") (any_type_fault known n t.shape) in
      let tags = inside (codes "tags") (any_type_fault known n t.tags) in
      let first = no_fault_either parents (option_or shape tags) e in
      let rest = no_fault_either shape tags first.1 in
      record {
        text = full_text n t.name space own;
        above = entities_declared w s same n 0 t.parents (no_fault_under (codes "memberOfTypes") (entity_types_fault known n t.parents) first.0);
        shape_type = fine_any_type w s same n t.shape h.shape_type (no_fault_under (codes "shape") (any_type_fault known n t.shape) rest.0);
        tag_type = fine_any_type w s same n t.tags h.tag_type (no_fault_under (codes "tags") (any_type_fault known n t.tags) rest.1);
        ids = record { texts = h.ids.texts; distinct = h.ids.distinct; few = h.ids.few };
        bare = λ some. (let bare = h.bare some in record {
          attributes = ap (option_map (resolved_type known n)) bare.attributes;
          tagless = ap (option_map (resolved_type known n)) bare.tagless;
          apart = ap (map (entity_type_of known n)) bare.apart;
        });
      }

  fine_entity_types : (n : List ℕ) → IsUtf8 n → (ts : List WrittenEntityType) → AllByRecursion IsUtf8 (map (λ (t : WrittenEntityType). t.name) ts) → AllByRecursion IsWrittenEntityType ts
      → AllByRecursion (λ (t : WrittenEntityType). declared_entity_type_fault known n t ≡ None) ts → AllByRecursion (IsResolvedEntityType s) (map (resolved_entity_type known n) ts)
  fine_entity_types n space [] own h e = tt
  fine_entity_types n space (t ∷ ts) own h e = (fine_entity_type n t space own.0 h.0 e.0, fine_entity_types n space ts own.1 h.1 e.1)

  fine_action : (n : List ℕ) (a : WrittenAction) → IsUtf8 n → IsUtf8 a.id → IfSome a.context IsWrittenType → action_fault known n a ≡ None → IsResolvedAction s (resolved_action known n a)
  fine_action n a space own h e =
      let applies = inside (codes "appliesTo") (applies_to_fault known n a) in
      let parents = first_item (parent_fault known n) 0 a.parents in
      let context = inside (codes "context") (any_type_fault known n a.context) in
      let principals = inside (codes "principalTypes") (entity_types_fault known n a.principals) in
      let resources = inside (codes "resourceTypes") (entity_types_fault known n a.resources) in
      let both = no_fault_either applies (inside (codes "memberOf") parents) e in
      let first = no_fault_either context (option_or principals resources) (no_fault_under (codes "appliesTo") (applies_to_fault known n a) both.0) in
      let rest = no_fault_either principals resources first.1 in
      record {
        type_text = action_text n space;
        id_text = own;
        above = parents_declared w s same n 0 a.parents (no_fault_under (codes "memberOf") parents both.1);
        principal_types = entities_declared w s same n 0 a.principals (no_fault_under (codes "principalTypes") (entity_types_fault known n a.principals) rest.0);
        resource_types = entities_declared w s same n 0 a.resources (no_fault_under (codes "resourceTypes") (entity_types_fault known n a.resources) rest.1);
        context_type = fine_any_type w s same n a.context h (no_fault_under (codes "context") (any_type_fault known n a.context) first.0);
      }

  fine_actions : (n : List ℕ) → IsUtf8 n → (xs : List WrittenAction) → AllByRecursion IsUtf8 (map (λ (a : WrittenAction). a.id) xs) → AllByRecursion (λ (a : WrittenAction). IfSome a.context IsWrittenType) xs
      → AllByRecursion (λ (a : WrittenAction). action_fault known n a ≡ None) xs → AllByRecursion (IsResolvedAction s) (map (resolved_action known n) xs)
  fine_actions n space [] own h e = tt
  fine_actions n space (a ∷ xs) own h e = (fine_action n a space own.0 h.0 e.0, fine_actions n space xs own.1 h.1 e.1)

  -- what a namespace declares
  record IsFine (n : WrittenNamespace) : Type 0 where
    commons : AllByRecursion (λ (c : ResolvedCommonType). IsResolvedType s c.body) (map (resolved_common_type known n.name) n.common_types)
    entities : AllByRecursion (IsResolvedEntityType s) (map (resolved_entity_type known n.name) n.entity_types)
    uids : AllByRecursion (IsResolvedAction s) (map (resolved_action known n.name) n.actions)

  fine_namespace : (n : WrittenNamespace) → IsGood known n → IsFine n
  fine_namespace n g =
      let of_actions = first_member (λ (a : WrittenAction). a.id) (action_fault known n.name) n.actions in
      let of_commons = first_member (λ (c : WrittenCommonType). c.name) (common_type_fault known n.name) n.common_types in
      let of_types = first_member (λ (e : WrittenEntityType). e.name) (declared_entity_type_fault known n.name) n.entity_types in
      let first = no_fault_either (inside (codes "actions") of_actions) (option_or (inside (codes "commonTypes") of_commons) (inside (codes "entityTypes") of_types)) g.no_fault in
      let rest = no_fault_either (inside (codes "commonTypes") of_commons) (inside (codes "entityTypes") of_types) first.1 in
      record {
        commons = fine_commons n.name n.common_types g.written.each_common (members_faultless (λ (c : WrittenCommonType). c.name) (common_type_fault known n.name) n.common_types (no_fault_under (codes "commonTypes") of_commons rest.0));
        entities = fine_entity_types n.name g.text n.entity_types g.written.entity_names.texts g.written.each_entity
            (members_faultless (λ (t : WrittenEntityType). t.name) (declared_entity_type_fault known n.name) n.entity_types (no_fault_under (codes "entityTypes") of_types rest.1));
        uids = fine_actions n.name g.text n.actions g.written.ids.texts g.written.each_action
            (members_faultless (λ (a : WrittenAction). a.id) (action_fault known n.name) n.actions (no_fault_under (codes "actions") of_actions first.0));
      }

-- ---- the whole

-- what holds of the declarations of each namespace holds of all that is declared
all_declared : {N X Y : Type 0} (P : Y → Type 0) (f : X → List Y) (g : N → X) (ns : List N) → AllByRecursion (λ n. AllByRecursion P (f (g n))) ns → AllByRecursion P (flat_map f (map g ns))
all_declared P f g ns h = all-flat_map P f (map g ns) (all-map (λ n. AllByRecursion P (f n)) g ns h)

resolved_is : (w : WrittenSchema) → IsWritten w → first_unknown w ≡ None → IsResolved (resolved w)
resolved_is w h e =
    let k : Known = known_in w in
    let ns = w.namespaces in
    let same = same_names w in
    let g = goods k ns h.names.texts h.each_namespace e in
    let fine = all_weaker (IsGood k) (IsFine w (resolved w) same) (fine_namespace w (resolved w) same) ns g in
    record {
      common_distinct = subst (IsDistinct bytes_eq) (sym same.commons) (distinct_commons k ns g h.names.ascending);
      entities_distinct = subst (IsDistinct bytes_eq) (sym same.entities) (distinct_entities k ns g h.names.ascending);
      actions_distinct = subst (IsDistinct uid_eq) (sym same.uids) (distinct_uids k ns g h.names.ascending);
      no_action = subst (λ (uids : List Uid). AllByRecursion (λ name. list_any (λ (u : Uid). bytes_eq name u.type_name) uids ≡ false) (entity_names (resolved w))) (sym same.uids)
          (subst (AllByRecursion (λ name. list_any (λ (u : Uid). bytes_eq name u.type_name) (actions w) ≡ false)) (sym same.entities) (no_action_types k ns g h.names.ascending));
      each_common = all_declared (λ (c : ResolvedCommonType). IsResolvedType (resolved w) c.body) (λ (n : ResolvedNamespace). n.common_types) (resolved_namespace k) ns
          (all_weaker (IsFine w (resolved w) same) (λ n. AllByRecursion (λ (c : ResolvedCommonType). IsResolvedType (resolved w) c.body) (map (resolved_common_type k n.name) n.common_types)) (λ n x. x.commons) ns fine);
      each_entity = all_declared (IsResolvedEntityType (resolved w)) (λ (n : ResolvedNamespace). n.entity_types) (resolved_namespace k) ns
          (all_weaker (IsFine w (resolved w) same) (λ n. AllByRecursion (IsResolvedEntityType (resolved w)) (map (resolved_entity_type k n.name) n.entity_types)) (λ n x. x.entities) ns fine);
      each_action = all_declared (IsResolvedAction (resolved w)) (λ (n : ResolvedNamespace). n.actions) (resolved_namespace k) ns
          (all_weaker (IsFine w (resolved w) same) (λ n. AllByRecursion (IsResolvedAction (resolved w)) (map (resolved_action k n.name) n.actions)) (λ n x. x.uids) ns fine);
    }

pub resolves_resolved : (w : WrittenSchema) (s : ResolvedSchema) → IsWritten w → Resolves w s → IsResolved s
resolves_resolved w s h r = subst IsResolved (sym r.schema) (resolved_is w h r.no_fault)
