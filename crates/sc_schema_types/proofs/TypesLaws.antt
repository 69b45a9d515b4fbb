-- Laws of orders, expansions and faults.
use Rattle.std.proofs.Common.{◌≡◌, ◌⊎◌, ℕ, List, [], ◌∷◌, ◌++◌, map, false, Option, Some, None, option_map, Contains, refl, sym, ap, ◌∙◌, inl, inr, subst, IsSome}
use Rattle.std.specs.List.{AllByRecursion, IsDistinct, flat_map, list_any}
use Rattle.std.specs.Option.{IfSome}
use Rattle.std.specs.Str.{bytes_eq}
use Rattle.std.proofs.lemmas.Cmp.{nat_list_cmp_total}
use Rattle.std.proofs.lemmas.Map.Lookups.{exact_bytes}
use Rattle.sc_names.specs.declared.uid.Uid.{Uid}
use Rattle.sc_schema.proofs.LawfulLaws.{no_fields_over}
use Rattle.sc_graphs.proofs.KeyLaws.{one_least}
use Rattle.sc_schema.proofs.SizesLaws.{no_fields_small}
use Rattle.sc_schema.specs.Declarations.{uid_eq}
use Rattle.sc_schema.specs.Sizes.{IsSmall}
use Rattle.sc_schema.specs.declared.ty.Ty.{Ty}
use Rattle.sc_schema.specs.declared.resolved_action.ResolvedAction.{ResolvedAction}
use Rattle.sc_schema.specs.declared.resolved_entity_type.ResolvedEntityType.{ResolvedEntityType}
use Rattle.sc_schema.specs.declared.expanded.ExpandedAction.{ExpandedAction}
use Rattle.sc_schema.specs.declared.expanded.ExpandedEntityType.{ExpandedEntityType}
use Rattle.sc_schema.specs.declared.expanded.ExpandedSchema.{ExpandedSchema}
use Rattle.sc_schema.specs.declared.resolved_namespace.ResolvedNamespace.{ResolvedNamespace}
use Rattle.sc_schema.specs.declared.resolved_type.ResolvedType.{ResolvedType}
use Rattle.sc_schema.specs.declared.resolved_schema.ResolvedSchema.{ResolvedSchema}
use Rattle.sc_schema.specs.Expanded.{expanded_names, expanded_kinds, expanded_uids, IsTypeAmong, IsRecordTypeAmong, IsExpandedEntityType, IsExpandedAction, IsExpanded}
use Rattle.sc_schema.specs.Resolved.{entity_types, actions, entity_names, action_uids, AreDeclared, IsResolvedType, IsResolvedEntityType, IsResolvedAction, IsResolved}
use Rattle.sc_schema_syntax.specs.declared.fault.SchemaFault.{SchemaFault}
use Rattle.sc_schema_types.specs.declared.wanted.Wanted.TheVariants.{AnyType, RecordType}
use Rattle.sc_schema_types.specs.References.{Names, references, body_of, Reaches}
use Rattle.sc_schema_types.specs.Orders.{IsOrder}
use Rattle.sc_schema_types.specs.Expansions.{Kinds, kind_of_type, kinds_of, Meaning, expanded, IsMeaning}
use Rattle.sc_schema_types.specs.Faults.{type_fault, fault_of, optional_fault, first_fault}
use Rattle.sc_schema_types.specs.Tables.{meaning_by}
use Rattle.sc_schema_types.specs.Types.{record_type, expanded_action, expanded_entity_type, expanded_schema, IsExpansion, HasTypeFault, IsSettled, KeepsParents}
use Rattle.sc_schema_types.proofs.ArrangedLaws.{order_or_cycle}
use Rattle.sc_schema_types.proofs.CyclesLaws.{leads_declared}
use Rattle.sc_schema_types.proofs.DeclaredLaws.{body_in_order}
use Rattle.sc_schema_types.proofs.FaultsLaws.{AreTypes, faults_same, HasRecordContext, HasShapeAndTags, AreRecords, no_fault_records, record_without_fault}
use Rattle.sc_schema_types.proofs.KindsLaws.{each_mapped}
use Rattle.sc_schema_types.proofs.LeadsLaws.{none_circles}
use Rattle.sc_schema_types.proofs.MembersLaws.{all_weaker}
use Rattle.sc_schema_types.proofs.SizesLaws.{small_without_fault}
use Rattle.sc_schema_types.proofs.UniqueLaws.{order_means, one_type, proper_type}

-- ---- cycles

pub order_no_cycle : (s : ResolvedSchema) (order : Names) (a : List ℕ) → IsOrder s order → ¬ Reaches (references (body_of s)) a a
order_no_cycle s order a h r = none_circles (references (body_of s)) order h.leads_back a (in_order (body_of s a) refl (leads_declared (body_of s) r)) r where
  in_order : (o : Option ResolvedType) → body_of s a ≡ o → IsSome o → Contains order a
  in_order None is some = absurd cc
  in_order (Some body) is some = body_in_order s order a body h is

-- ---- lists

all_both : {X : Type 0} (P Q R : X → Type 0) → ((x : X) → P x → Q x → R x) → (xs : List X) → AllByRecursion P xs → AllByRecursion Q xs → AllByRecursion R xs
all_both P Q R f [] ps qs = tt
all_both P Q R f (x ∷ xs) ps qs = (f x ps.0 qs.0, all_both P Q R f xs ps.1 qs.1)

all_mapped : {X Y : Type 0} (f : X → Y) (P : Y → Type 0) (xs : List X) → AllByRecursion (λ x. P (f x)) xs → AllByRecursion P (map f xs)
all_mapped f P [] h = tt
all_mapped f P (x ∷ xs) h = (h.0, all_mapped f P xs h.1)

same_mapped : {X Y : Type 0} (f g : X → Y) (xs : List X) → AllByRecursion (λ x. f x ≡ g x) xs → map f xs ≡ map g xs
same_mapped f g [] h = refl
same_mapped f g (x ∷ xs) h =
    let first : f x ≡ g x = h.0 in
    let rest : map f xs ≡ map g xs = same_mapped f g xs h.1 in
    λ i. first i ∷ rest i

twice_mapped : {X Y Z : Type 0} (f : X → Y) (g : Y → Z) (h : X → Z) → ((x : X) → g (f x) ≡ h x) → (xs : List X) → map g (map f xs) ≡ map h xs
twice_mapped f g h same [] = refl
twice_mapped f g h same (x ∷ xs) =
    let first : g (f x) ≡ h x = same x in
    let rest : map g (map f xs) ≡ map h xs = twice_mapped f g h same xs in
    λ i. first i ∷ rest i

-- ---- the expansion of a schema

abbrev listed : Meaning → ResolvedSchema → ExpandedSchema
listed m s = record { entity_types = map (expanded_entity_type (kinds_of s) m) (entity_types s); actions = map (expanded_action (kinds_of s) m) (actions s) }

-- all entity types and all actions, one after the other
expanded_listed : (m : Meaning) (s : ResolvedSchema) → expanded_schema m s ≡ listed m s
expanded_listed m s =
    let types = each_mapped (λ (n : ResolvedNamespace). n.entity_types) (expanded_entity_type (kinds_of s) m) s.namespaces in
    let acts = each_mapped (λ (n : ResolvedNamespace). n.actions) (expanded_action (kinds_of s) m) s.namespaces in
    λ i. record { entity_types = types i; actions = acts i }

module _ (m : Meaning) (s : ResolvedSchema) where
  listed_names : expanded_names (listed m s) ≡ entity_names s
  listed_names = twice_mapped (expanded_entity_type (kinds_of s) m) (λ (t : ExpandedEntityType). t.name) (λ (t : ResolvedEntityType). t.name) (λ t. refl) (entity_types s)

  listed_kinds : expanded_kinds (listed m s) ≡ kinds_of s
  listed_kinds =
      twice_mapped (expanded_entity_type (kinds_of s) m) (λ (t : ExpandedEntityType). record { name = t.name; choices = t.choices }) kind_of_type (λ t. refl) (entity_types s)
      ∙ sym (each_mapped (λ (n : ResolvedNamespace). n.entity_types) kind_of_type s.namespaces)

  listed_uids : expanded_uids (listed m s) ≡ action_uids s
  listed_uids = twice_mapped (expanded_action (kinds_of s) m) (λ (a : ExpandedAction). a.uid) (λ (a : ResolvedAction). a.uid) (λ a. refl) (actions s)

  listed_parents : KeepsParents s (listed m s)
  listed_parents = record {
    names = listed_names;
    above_types = twice_mapped (expanded_entity_type (kinds_of s) m) (λ (t : ExpandedEntityType). (t.name, t.parents)) (λ (t : ResolvedEntityType). (t.name, t.parents)) (λ t. refl) (entity_types s);
    uids = listed_uids;
    above_actions = twice_mapped (expanded_action (kinds_of s) m) (λ (a : ExpandedAction). (a.uid, a.parents)) (λ (a : ResolvedAction). (a.uid, a.parents)) (λ a. refl) (actions s);
  }

pub expansion_parents : (s : ResolvedSchema) (x : ExpandedSchema) → IsExpansion s x → KeepsParents s x
expansion_parents s x h = subst (KeepsParents s) (sym (h.schema ∙ expanded_listed h.m s)) (listed_parents h.m s)

-- ---- one expansion

types_of_action : (s : ResolvedSchema) (a : ResolvedAction) → IsResolvedAction s a → IfSome a.context (IsResolvedType s)
types_of_action s a h = h.context_type

types_of_entity : (s : ResolvedSchema) (e : ResolvedEntityType) → IsResolvedEntityType s e → IfSome e.shape (IsResolvedType s) × IfSome e.tags (IsResolvedType s)
types_of_entity s e h = (h.shape_type, h.tag_type)

resolved_types : (s : ResolvedSchema) → IsResolved s → AreTypes (IsResolvedType s) s
resolved_types s h = record {
  contexts = all_weaker (IsResolvedAction s) (λ (a : ResolvedAction). IfSome a.context (IsResolvedType s)) (actions s) (types_of_action s) h.each_action;
  bodies = h.each_common;
  types = all_weaker (IsResolvedEntityType s) (λ (e : ResolvedEntityType). IfSome e.shape (IsResolvedType s) × IfSome e.tags (IsResolvedType s)) (entity_types s) (types_of_entity s) h.each_entity;
}

module _ (s : ResolvedSchema) (resolved : IsResolved s) (order : Names) (ordered : IsOrder s order) (m n : Meaning) (means : IsMeaning (kinds_of s) (body_of s) m) (also : IsMeaning (kinds_of s) (body_of s) n) where
  same_type : (type : ResolvedType) → IsResolvedType s type → expanded (kinds_of s) m type ≡ expanded (kinds_of s) n type
  same_type = one_type s resolved order ordered m means n also

  pub same_faults : first_fault (fault_of (kinds_of s) m) s ≡ first_fault (fault_of (kinds_of s) n) s
  same_faults = faults_same (IsResolvedType s) (fault_of (kinds_of s) m) (fault_of (kinds_of s) n) (λ wanted type h. ap (type_fault wanted) (same_type type h)) s (resolved_types s resolved)

  same_record : (o : Option ResolvedType) → IfSome o (IsResolvedType s) → record_type (kinds_of s) m o ≡ record_type (kinds_of s) n o
  same_record None h = refl
  same_record (Some type) h = same_type type h

  same_tags : (o : Option ResolvedType) → IfSome o (IsResolvedType s) → option_map (expanded (kinds_of s) m) o ≡ option_map (expanded (kinds_of s) n) o
  same_tags None h = refl
  same_tags (Some type) h = ap (λ (u : Ty). Some u) (same_type type h)

  same_entity : (e : ResolvedEntityType) → IsResolvedEntityType s e → expanded_entity_type (kinds_of s) m e ≡ expanded_entity_type (kinds_of s) n e
  same_entity e h =
      let shape : record_type (kinds_of s) m e.shape ≡ record_type (kinds_of s) n e.shape = same_record e.shape h.shape_type in
      let tags : option_map (expanded (kinds_of s) m) e.tags ≡ option_map (expanded (kinds_of s) n) e.tags = same_tags e.tags h.tag_type in
      λ i. record { name = e.name; parents = e.parents; shape = shape i; tags = tags i; choices = e.choices }

  same_action : (a : ResolvedAction) → IsResolvedAction s a → expanded_action (kinds_of s) m a ≡ expanded_action (kinds_of s) n a
  same_action a h =
      let context : record_type (kinds_of s) m a.context ≡ record_type (kinds_of s) n a.context = same_record a.context h.context_type in
      λ i. record { uid = a.uid; parents = a.parents; principals = a.principals; resources = a.resources; context = context i }

  same_listed : listed m s ≡ listed n s
  same_listed =
      let types : map (expanded_entity_type (kinds_of s) m) (entity_types s) ≡ map (expanded_entity_type (kinds_of s) n) (entity_types s) =
      same_mapped (expanded_entity_type (kinds_of s) m) (expanded_entity_type (kinds_of s) n) (entity_types s) (all_weaker (IsResolvedEntityType s) (λ (e : ResolvedEntityType). expanded_entity_type (kinds_of s) m e ≡ expanded_entity_type (kinds_of s) n e) (entity_types s) same_entity resolved.each_entity) in
      let acts : map (expanded_action (kinds_of s) m) (actions s) ≡ map (expanded_action (kinds_of s) n) (actions s) =
      same_mapped (expanded_action (kinds_of s) m) (expanded_action (kinds_of s) n) (actions s) (all_weaker (IsResolvedAction s) (λ (a : ResolvedAction). expanded_action (kinds_of s) m a ≡ expanded_action (kinds_of s) n a) (actions s) same_action resolved.each_action) in
      λ i. record { entity_types = types i; actions = acts i }

  pub same_schema : expanded_schema m s ≡ expanded_schema n s
  same_schema = expanded_listed m s ∙ same_listed ∙ sym (expanded_listed n s)

-- ---- exactly one of the two

ends : (s : ResolvedSchema) (order : Names) (ordered : IsOrder s order) (m : Meaning) (means : IsMeaning (kinds_of s) (body_of s) m) (found : Option SchemaFault) → first_fault (fault_of (kinds_of s) m) s ≡ found
    → ((x : ExpandedSchema) × IsExpansion s x) ⊎ ((fault : SchemaFault) × HasTypeFault s fault)
ends s order ordered m means None is = inl (expanded_schema m s, record { order = order; ordered = ordered; m = m; means = means; no_fault = is; schema = refl })
ends s order ordered m means (Some fault) is = inr (fault, record { order = order; ordered = ordered; m = m; means = means; told = is })

pub settled : (s : ResolvedSchema) → IsResolved s → IsSettled s
settled s resolved = record {
  order_or_cycle = order_or_cycle s resolved;
  one_cycle = one_least nat_list_cmp_total exact_bytes;
  no_cycle = λ order a h. order_no_cycle s order a h;
  meaning = λ order h. (meaning_by (kinds_of s) (body_of s) order, order_means s order h);
  either = λ order h. ends s order h (meaning_by (kinds_of s) (body_of s) order) (order_means s order h) (first_fault (fault_of (kinds_of s) (meaning_by (kinds_of s) (body_of s) order)) s) refl;
  one_expansion = λ x y h k. h.schema ∙ same_schema s resolved h.order h.ordered h.m k.m h.means k.means ∙ sym k.schema;
  one_fault = λ a b h k. (let same : Some a ≡ Some b = sym h.told ∙ same_faults s resolved h.order h.ordered h.m k.m h.means k.means ∙ k.told in cc);
  not_both = λ x fault h k. (let no : None ≡ Some fault = sym h.no_fault ∙ same_faults s resolved h.order h.ordered h.m k.m h.means k.means ∙ k.told in cc);
}

-- ---- what an expansion names is declared

module _ (s : ResolvedSchema) (resolved : IsResolved s) (order : Names) (ordered : IsOrder s order) (m : Meaning) (means : IsMeaning (kinds_of s) (body_of s) m) where
  proper : (type : ResolvedType) → IsResolvedType s type → IsTypeAmong (kinds_of s) (expanded (kinds_of s) m type)
  proper = proper_type s resolved order ordered m means

  proper_record_type : (o : Option ResolvedType) → IfSome o (IsResolvedType s) → optional_fault (fault_of (kinds_of s) m) RecordType o ≡ None → IsRecordTypeAmong (kinds_of s) (record_type (kinds_of s) m o)
  proper_record_type None h none = no_fields_over (Contains (kinds_of s))
  proper_record_type (Some type) h none =
      let p = record_without_fault (expanded (kinds_of s) m type) none in
      record { fields = p.0; record_type = p.1; proper = proper type h }

  proper_tags : (o : Option ResolvedType) → IfSome o (IsResolvedType s) → IfSome (option_map (expanded (kinds_of s) m) o) (IsTypeAmong (kinds_of s))
  proper_tags None h = tt
  proper_tags (Some type) h = proper type h

  small_record_type : (o : Option ResolvedType) → optional_fault (fault_of (kinds_of s) m) RecordType o ≡ None → IsSmall (record_type (kinds_of s) m o)
  small_record_type None none = no_fields_small
  small_record_type (Some type) none = small_without_fault RecordType (expanded (kinds_of s) m type) none

  small_tags : (o : Option ResolvedType) → optional_fault (fault_of (kinds_of s) m) AnyType o ≡ None → IfSome (option_map (expanded (kinds_of s) m) o) IsSmall
  small_tags None none = tt
  small_tags (Some type) none = small_without_fault AnyType (expanded (kinds_of s) m type) none

  abbrev x : ExpandedSchema
  x = listed m s

  proper_entity : (e : ResolvedEntityType) → IsResolvedEntityType s e → HasShapeAndTags (fault_of (kinds_of s) m) e → IsExpandedEntityType x (expanded_entity_type (kinds_of s) m e)
  proper_entity e h none =
      let names : entity_names s ≡ expanded_names x = sym (listed_names m s) in
      let kinds : kinds_of s ≡ expanded_kinds x = sym (listed_kinds m s) in
      record {
        text = h.text;
        above = subst (λ (ns : Names). AreDeclared ns e.parents) names h.above;
        shape_type = subst (λ (ks : Kinds). IsRecordTypeAmong ks (record_type (kinds_of s) m e.shape)) kinds (proper_record_type e.shape h.shape_type none.0);
        shape_size = small_record_type e.shape none.0;
        tag_type = subst (λ (ks : Kinds). IfSome (option_map (expanded (kinds_of s) m) e.tags) (IsTypeAmong ks)) kinds (proper_tags e.tags h.tag_type);
        tag_size = small_tags e.tags none.1;
        ids = h.ids;
        bare = λ some. (let bare = h.bare some in record {
          attributes = ap (record_type (kinds_of s) m) bare.attributes;
          tagless = ap (option_map (expanded (kinds_of s) m)) bare.tagless;
          apart = bare.apart;
        });
      }

  proper_action : (a : ResolvedAction) → IsResolvedAction s a → HasRecordContext (fault_of (kinds_of s) m) a → IsExpandedAction x (expanded_action (kinds_of s) m a)
  proper_action a h none =
      let names : entity_names s ≡ expanded_names x = sym (listed_names m s) in
      let kinds : kinds_of s ≡ expanded_kinds x = sym (listed_kinds m s) in
      let uids : action_uids s ≡ expanded_uids x = sym (listed_uids m s) in
      record {
        type_text = h.type_text;
        id_text = h.id_text;
        above = subst (λ (us : List Uid). AllByRecursion (Contains us) a.parents) uids h.above;
        principal_types = subst (λ (ns : Names). AreDeclared ns a.principals) names h.principal_types;
        resource_types = subst (λ (ns : Names). AreDeclared ns a.resources) names h.resource_types;
        context_type = subst (λ (ks : Kinds). IsRecordTypeAmong ks (record_type (kinds_of s) m a.context)) kinds (proper_record_type a.context h.context_type none);
        context_size = small_record_type a.context none;
      }

  abbrev AreNoActions : List Uid → Names → Type 0
  AreNoActions us ns = AllByRecursion (λ (name : List ℕ). list_any (λ (u : Uid). bytes_eq name u.type_name) us ≡ false) ns

  pub proper_listed : AreRecords (fault_of (kinds_of s) m) (actions s) (entity_types s) → IsExpanded x
  proper_listed records =
      let names : entity_names s ≡ expanded_names x = sym (listed_names m s) in
      let uids : action_uids s ≡ expanded_uids x = sym (listed_uids m s) in
      record {
        types_distinct = subst (IsDistinct bytes_eq) names resolved.entities_distinct;
        actions_distinct = subst (IsDistinct uid_eq) uids resolved.actions_distinct;
        no_action = subst (λ (us : List Uid). AreNoActions us (expanded_names x)) uids (subst (AreNoActions (action_uids s)) names resolved.no_action);
        each_type = all_mapped (expanded_entity_type (kinds_of s) m) (IsExpandedEntityType x) (entity_types s)
            (all_both (IsResolvedEntityType s) (HasShapeAndTags (fault_of (kinds_of s) m)) (λ (e : ResolvedEntityType). IsExpandedEntityType x (expanded_entity_type (kinds_of s) m e)) proper_entity (entity_types s) resolved.each_entity records.shapes);
        each_action = all_mapped (expanded_action (kinds_of s) m) (IsExpandedAction x) (actions s)
            (all_both (IsResolvedAction s) (HasRecordContext (fault_of (kinds_of s) m)) (λ (a : ResolvedAction). IsExpandedAction x (expanded_action (kinds_of s) m a)) proper_action (actions s) resolved.each_action records.contexts);
      }

pub expansion_proper : (s : ResolvedSchema) (x : ExpandedSchema) → IsResolved s → IsExpansion s x → IsExpanded x
expansion_proper s x resolved h =
    subst IsExpanded (sym (h.schema ∙ expanded_listed h.m s)) (proper_listed s resolved h.order h.ordered h.m h.means (no_fault_records (fault_of (kinds_of s) h.m) s h.no_fault))
