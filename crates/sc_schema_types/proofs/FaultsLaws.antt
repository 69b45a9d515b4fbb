-- The first fault of a schema by those of its types.
use Rattle.std.proofs.Common.{◌≡◌, ℕ, List, [], ◌∷◌, ◌++◌, Bool, true, false, cond, Option, Some, None, refl, sym, ap, ◌∙◌, codes, ◌<◌, ◌+◌, length, drop, get_or}
use Rattle.std.specs.List.{AllByRecursion, flat_map}
use Rattle.std.specs.Option.{option_or, IfSome}
use Rattle.std.proofs.lemmas.List.{drop_more}
use Rattle.sc_lists.proofs.ListLaws.{all_append}
use Rattle.sc_schema.specs.declared.ty.Ty.{Ty, Ty-F, out-Ty, roll-Ty, roll-out-Ty}
use Rattle.sc_schema.specs.declared.ty.Ty.TheOpen as t
use Rattle.sc_schema.specs.declared.ty.Ty.TheVariants as ty
use Rattle.sc_schema.specs.declared.ty.Ty.TheVariants.{rolls-Record}
use Rattle.sc_schema.proofs.EveryTypeLaws.{Fields}
use Rattle.sc_schema.specs.declared.resolved_action.ResolvedAction.{ResolvedAction}
use Rattle.sc_schema.specs.declared.resolved_common_type.ResolvedCommonType.{ResolvedCommonType}
use Rattle.sc_schema.specs.declared.resolved_entity_type.ResolvedEntityType.{ResolvedEntityType}
use Rattle.sc_schema.specs.declared.resolved_namespace.ResolvedNamespace.{ResolvedNamespace}
use Rattle.sc_schema.specs.declared.resolved_type.ResolvedType.{ResolvedType}
use Rattle.sc_schema.specs.declared.resolved_schema.ResolvedSchema.{ResolvedSchema}
use Rattle.sc_schema.specs.Resolved.{common_types, entity_types, actions}
use Rattle.sc_schema_syntax.specs.declared.fault.SchemaFault.{SchemaFault}
use Rattle.sc_schema_syntax.specs.declared.fault.SchemaFault.TheVariants.{NotRecord}
use Rattle.sc_schema_types.specs.declared.wanted.Wanted.{Wanted}
use Rattle.sc_schema_types.specs.declared.wanted.Wanted.TheVariants.{AnyType, RecordType}
use Rattle.sc_schema_types.specs.Sizes.{is_record_level, is_record}
use Rattle.sc_schema_types.specs.Faults.{Judge, type_fault, inside, first, optional_fault, action_fault, common_type_fault, entity_type_fault, namespace_fault, first_fault}

abbrev Found : Type 0
Found = Option SchemaFault

all_split : {X : Type 0} (P : X → Type 0) (xs ys : List X) → AllByRecursion P (xs ++ ys) → AllByRecursion P xs × AllByRecursion P ys
all_split P [] ys all = (tt, all)
all_split P (x ∷ xs) ys all = let rest = all_split P xs ys all.1 in ((all.0, rest.0), rest.1)

-- ---- the elements of a list, one after the other

module _ {X : Type 0} (fault : X → Found) (xs : List X) (i : ℕ) (x : X) (found : Found) (within : i < length xs) (is : x ≡ get_or xs i x) (given : found ≡ fault x) (before : first fault (drop i xs) ≡ first fault xs) where
  first_split : option_or found (first fault (drop (i + 1) xs)) ≡ first fault xs
  first_split =
      let here : drop i xs ≡ x ∷ drop (i + 1) xs = drop_more xs i x within ∙ ap (λ (y : X). y ∷ drop (i + 1) xs) (sym is) in
      ap (λ (o : Found). option_or o (first fault (drop (i + 1) xs))) given ∙ sym (ap (first fault) here) ∙ before

  -- one has no fault
  pub first_more : found ≡ None → first fault (drop (i + 1) xs) ≡ first fault xs
  first_more none = sym (ap (λ (o : Found). option_or o (first fault (drop (i + 1) xs))) none) ∙ first_split

  -- one has a fault
  pub first_here : (f : SchemaFault) → found ≡ Some f → Some f ≡ first fault xs
  first_here f some = sym (ap (λ (o : Found). option_or o (first fault (drop (i + 1) xs))) some) ∙ first_split

-- ---- judges that say the same of each type of a schema

module _ (T : ResolvedType → Type 0) where
  abbrev pub HasContext : ResolvedAction → Type 0
  HasContext a = IfSome a.context T

  abbrev pub HasBody : ResolvedCommonType → Type 0
  HasBody c = T c.body

  abbrev pub HasTypes : ResolvedEntityType → Type 0
  HasTypes e = IfSome e.shape T × IfSome e.tags T

  -- this holds of each type of a schema
  pub record AreTypes (s : ResolvedSchema) : Type 0 where
    pub contexts : AllByRecursion HasContext (actions s)
    pub bodies : AllByRecursion HasBody (common_types s)
    pub types : AllByRecursion HasTypes (entity_types s)

  module _ (j k : Judge) (same : (wanted : Wanted) (type : ResolvedType) → T type → j wanted type ≡ k wanted type) where
    optional_same : (wanted : Wanted) (o : Option ResolvedType) → IfSome o T → optional_fault j wanted o ≡ optional_fault k wanted o
    optional_same wanted None h = refl
    optional_same wanted (Some type) h = same wanted type h

    actions_same : (xs : List ResolvedAction) → AllByRecursion HasContext xs → first (action_fault j) xs ≡ first (action_fault k) xs
    actions_same [] h = refl
    actions_same (a ∷ xs) h =
        let here : optional_fault j RecordType a.context ≡ optional_fault k RecordType a.context = optional_same RecordType a.context h.0 in
        let rest : first (action_fault j) xs ≡ first (action_fault k) xs = actions_same xs h.1 in
        λ i. option_or (inside a.uid.id (inside (codes "appliesTo") (inside (codes "context") (here i)))) (rest i)

    bodies_same : (xs : List ResolvedCommonType) → AllByRecursion HasBody xs → first (common_type_fault j) xs ≡ first (common_type_fault k) xs
    bodies_same [] h = refl
    bodies_same (c ∷ xs) h =
        let here : j AnyType c.body ≡ k AnyType c.body = same AnyType c.body h.0 in
        let rest : first (common_type_fault j) xs ≡ first (common_type_fault k) xs = bodies_same xs h.1 in
        λ i. option_or (inside c.key (here i)) (rest i)

    types_same : (xs : List ResolvedEntityType) → AllByRecursion HasTypes xs → first (entity_type_fault j) xs ≡ first (entity_type_fault k) xs
    types_same [] h = refl
    types_same (e ∷ xs) h =
        let shape : optional_fault j RecordType e.shape ≡ optional_fault k RecordType e.shape = optional_same RecordType e.shape h.0.0 in
        let tags : optional_fault j AnyType e.tags ≡ optional_fault k AnyType e.tags = optional_same AnyType e.tags h.0.1 in
        let rest : first (entity_type_fault j) xs ≡ first (entity_type_fault k) xs = types_same xs h.1 in
        λ i. option_or (inside e.key (option_or (inside (codes "shape") (shape i)) (inside (codes "tags") (tags i)))) (rest i)

    namespace_same : (n : ResolvedNamespace) → AllByRecursion HasContext n.actions → AllByRecursion HasBody n.common_types → AllByRecursion HasTypes n.entity_types → namespace_fault j n ≡ namespace_fault k n
    namespace_same n contexts bodies types =
        let a : first (action_fault j) n.actions ≡ first (action_fault k) n.actions = actions_same n.actions contexts in
        let c : first (common_type_fault j) n.common_types ≡ first (common_type_fault k) n.common_types = bodies_same n.common_types bodies in
        let e : first (entity_type_fault j) n.entity_types ≡ first (entity_type_fault k) n.entity_types = types_same n.entity_types types in
        λ i. inside n.name (option_or (inside (codes "actions") (a i)) (option_or (inside (codes "commonTypes") (c i)) (inside (codes "entityTypes") (e i))))

    namespaces_same : (ns : List ResolvedNamespace) → AllByRecursion HasContext (flat_map (λ (n : ResolvedNamespace). n.actions) ns)
        → AllByRecursion HasBody (flat_map (λ (n : ResolvedNamespace). n.common_types) ns) → AllByRecursion HasTypes (flat_map (λ (n : ResolvedNamespace). n.entity_types) ns)
        → first (namespace_fault j) ns ≡ first (namespace_fault k) ns
    namespaces_same [] contexts bodies types = refl
    namespaces_same (n ∷ ns) contexts bodies types =
        let a = all_split HasContext n.actions (flat_map (λ (m : ResolvedNamespace). m.actions) ns) contexts in
        let c = all_split HasBody n.common_types (flat_map (λ (m : ResolvedNamespace). m.common_types) ns) bodies in
        let e = all_split HasTypes n.entity_types (flat_map (λ (m : ResolvedNamespace). m.entity_types) ns) types in
        let here : namespace_fault j n ≡ namespace_fault k n = namespace_same n a.0 c.0 e.0 in
        let rest : first (namespace_fault j) ns ≡ first (namespace_fault k) ns = namespaces_same ns a.1 c.1 e.1 in
        λ i. option_or (here i) (rest i)

    pub faults_same : (s : ResolvedSchema) → AreTypes s → first_fault j s ≡ first_fault k s
    faults_same s h = namespaces_same s.namespaces h.contexts h.bodies h.types

-- ---- a schema with no fault

or_none : (o p : Found) → option_or o p ≡ None → (o ≡ None) × (p ≡ None)
or_none None p h = (refl, h)
or_none (Some x) p h = absurd cc

inside_none : (key : List ℕ) (o : Found) → inside key o ≡ None → o ≡ None
inside_none key None h = refl
inside_none key (Some x) h = absurd cc

module _ (j : Judge) where
  -- no fault is where the context, or the shape, is to be a record type
  abbrev pub HasRecordContext : ResolvedAction → Type 0
  HasRecordContext a = optional_fault j RecordType a.context ≡ None

  abbrev pub HasShapeAndTags : ResolvedEntityType → Type 0
  HasShapeAndTags e = (optional_fault j RecordType e.shape ≡ None) × (optional_fault j AnyType e.tags ≡ None)

  contexts_none : (xs : List ResolvedAction) → first (action_fault j) xs ≡ None → AllByRecursion HasRecordContext xs
  contexts_none [] h = tt
  contexts_none (a ∷ xs) h =
      let parts = or_none (action_fault j a) (first (action_fault j) xs) h in
      (inside_none (codes "context") _ (inside_none (codes "appliesTo") _ (inside_none a.uid.id _ parts.0)), contexts_none xs parts.1)

  shapes_none : (xs : List ResolvedEntityType) → first (entity_type_fault j) xs ≡ None → AllByRecursion HasShapeAndTags xs
  shapes_none [] h = tt
  shapes_none (e ∷ xs) h =
      let parts = or_none (entity_type_fault j e) (first (entity_type_fault j) xs) h in
      let here = or_none (inside (codes "shape") (optional_fault j RecordType e.shape)) (inside (codes "tags") (optional_fault j AnyType e.tags)) (inside_none e.key _ parts.0) in
      ((inside_none (codes "shape") _ here.0, inside_none (codes "tags") _ here.1), shapes_none xs parts.1)

  pub record AreRecords (actions : List ResolvedAction) (types : List ResolvedEntityType) : Type 0 where
    pub contexts : AllByRecursion HasRecordContext actions
    pub shapes : AllByRecursion HasShapeAndTags types

  namespace_none : (n : ResolvedNamespace) → namespace_fault j n ≡ None → AreRecords n.actions n.entity_types
  namespace_none n h =
      let a : Found = inside (codes "actions") (first (action_fault j) n.actions) in
      let c : Found = inside (codes "commonTypes") (first (common_type_fault j) n.common_types) in
      let e : Found = inside (codes "entityTypes") (first (entity_type_fault j) n.entity_types) in
      let parts = or_none a (option_or c e) (inside_none n.name (option_or a (option_or c e)) h) in
      let rest = or_none c e parts.1 in
      record { contexts = contexts_none n.actions (inside_none (codes "actions") _ parts.0); shapes = shapes_none n.entity_types (inside_none (codes "entityTypes") _ rest.1) }

  namespaces_none : (ns : List ResolvedNamespace) → first (namespace_fault j) ns ≡ None → AreRecords (flat_map (λ (n : ResolvedNamespace). n.actions) ns) (flat_map (λ (n : ResolvedNamespace). n.entity_types) ns)
  namespaces_none [] h = record { contexts = tt; shapes = tt }
  namespaces_none (n ∷ ns) h =
      let parts = or_none (namespace_fault j n) (first (namespace_fault j) ns) h in
      let here = namespace_none n parts.0 in
      let rest = namespaces_none ns parts.1 in
      record {
        contexts = all_append HasRecordContext n.actions (flat_map (λ (m : ResolvedNamespace). m.actions) ns) here.contexts rest.contexts;
        shapes = all_append HasShapeAndTags n.entity_types (flat_map (λ (m : ResolvedNamespace). m.entity_types) ns) here.shapes rest.shapes;
      }

  pub no_fault_records : (s : ResolvedSchema) → first_fault j s ≡ None → AreRecords (actions s) (entity_types s)
  no_fault_records s h = namespaces_none s.namespaces h

-- ---- record types

record_by_test : (b : Bool) (o : Found) (fault : SchemaFault) → cond b o (Some fault) ≡ None → b ≡ true
record_by_test true o fault h = refl
record_by_test false o fault h = absurd cc

record_level : (x : Ty-F Ty) → is_record_level x ≡ true → (fields : Fields) × (x ≡ t.Record fields)
record_level t.True h = absurd cc
record_level t.False h = absurd cc
record_level t.Bool h = absurd cc
record_level t.Long h = absurd cc
record_level t.String h = absurd cc
record_level t.Decimal h = absurd cc
record_level t.Ip h = absurd cc
record_level (t.Entity name) h = absurd cc
record_level (t.Set u) h = absurd cc
record_level (t.Record fields) h = (fields, refl)

-- a type that has no fault where a record type is wanted
pub record_without_fault : (u : Ty) → type_fault RecordType u ≡ None → (fields : Fields) × (u ≡ ty.Record fields)
record_without_fault u h =
    let p = record_level (out-Ty u) (record_by_test (is_record u) _ (NotRecord []) h) in
    (p.0, sym (roll-out-Ty u) ∙ ap roll-Ty p.1 ∙ rolls-Record p.0)
