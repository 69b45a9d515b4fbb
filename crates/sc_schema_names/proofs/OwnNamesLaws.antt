-- Names in full of what well-written namespaces declare: each declaration has a name of its own.
use Rattle.std.proofs.Common.{◌≡◌, ◌∙◌, ℕ, List, [], ◌∷◌, ◌++◌, map, Bool, true, false, not, ◌&&◌, None, Less, codes, refl, sym, ap}
use Rattle.std.specs.List.{AllByRecursion, flat_map, list_any, IsDistinct}
use Rattle.std.specs.List.Sorted.{IsStrictlySortedBy}
use Rattle.std.specs.Str.{IsUtf8, bytes_eq}
use Rattle.std.proofs.lemmas.Bool.{and_parts, and_left, and_right, not-true}
use Rattle.std.proofs.lemmas.List.{map-append}
use Rattle.std.proofs.lemmas.Slice.Eq.{bytes_eq-Decides}
use Rattle.sc_lists.proofs.ListLaws.{list_any_false, all_always, all_weaker}
use Rattle.sc_lists.proofs.TextLaws.{bytes_eq_false}
use Rattle.sc_names.specs.declared.uid.Uid.{Uid}
use Rattle.sc_names.specs.Names.{is_ident}
use Rattle.sc_names.specs.Uids.{text_cmp}
use Rattle.sc_schema.specs.Declarations.{uid_eq}
use Rattle.sc_schema_syntax.specs.declared.written_action.WrittenAction.{WrittenAction}
use Rattle.sc_schema_syntax.specs.declared.written_common_type.WrittenCommonType.{WrittenCommonType}
use Rattle.sc_schema_syntax.specs.declared.written_entity_type.WrittenEntityType.{WrittenEntityType}
use Rattle.sc_schema_syntax.specs.declared.written_namespace.WrittenNamespace.{WrittenNamespace}
use Rattle.sc_schema_syntax.specs.declared.written_schema.WrittenSchema.{WrittenSchema}
use Rattle.sc_schema_syntax.specs.TypeWords.{is_reserved}
use Rattle.sc_schema_syntax.specs.WellWritten.{IsWrittenNamespace}
use Rattle.sc_schema_syntax.proofs.FaultsLaws.{no_fault_either, no_fault_under}
use Rattle.sc_schema.specs.declared.resolved_action.ResolvedAction.{ResolvedAction}
use Rattle.sc_schema.specs.declared.resolved_common_type.ResolvedCommonType.{ResolvedCommonType}
use Rattle.sc_schema.specs.declared.resolved_entity_type.ResolvedEntityType.{ResolvedEntityType}
use Rattle.sc_schema.specs.declared.resolved_namespace.ResolvedNamespace.{ResolvedNamespace}
use Rattle.sc_schema_names.specs.Names.{Known, known_in, full, action_type, action_uid, entity_types_of, common_types_of, actions_of}
use Rattle.sc_schema_names.specs.Resolution.{resolved_action, resolved_common_type, resolved_entity_type, resolved_namespace, resolved}
use Rattle.sc_schema_names.specs.Unknown.{inside, first_member, namespace_fault}
use Rattle.sc_schema_names.proofs.DistinctLaws.{all-map, all-unmap, all-flat_map, below_differ, Apart, distinct-map, distinct-flat_map}
use Rattle.sc_schema_names.proofs.FullLaws.{HasNoColon, no_colon, full_parts, full_same}
use Rattle.sc_schema_names.proofs.TypesLaws.{SameNames}

-- ---- the same names are declared

flat_map-map : {N M X : Type 0} (f : M → List X) (g : N → M) (ns : List N) → flat_map f (map g ns) ≡ flat_map (λ n. f (g n)) ns
flat_map-map f g [] = refl
flat_map-map f g (n ∷ ns) = ap (λ (xs : List _). f (g n) ++ xs) (flat_map-map f g ns)

module _ {N X Y Z : Type 0} (items : N → List X) (make : N → X → Y) (name : Y → Z) (named : N → X → Z) (same : (n : N) (x : X) → name (make n x) ≡ named n x) where
  names_made : (n : N) (xs : List X) → map name (map (make n) xs) ≡ map (named n) xs
  names_made n [] = refl
  names_made n (x ∷ xs) = λ i. same n x i ∷ names_made n xs i

  flat_names : (ns : List N) → map name (flat_map (λ n. map (make n) (items n)) ns) ≡ flat_map (λ n. map (named n) (items n)) ns
  flat_names [] = refl
  flat_names (n ∷ ns) =
      map-append name (map (make n) (items n)) (flat_map (λ m. map (make m) (items m)) ns)
      ∙ (λ i. names_made n (items n) i ++ flat_names ns i)

pub same_names : (w : WrittenSchema) → SameNames w (resolved w)
same_names w =
    let known : Known = known_in w in
    record {
      commons =
          ap (map (λ (c : ResolvedCommonType). c.name)) (flat_map-map (λ (n : ResolvedNamespace). n.common_types) (resolved_namespace known) w.namespaces)
          ∙ flat_names (λ (n : WrittenNamespace). n.common_types) (λ n. resolved_common_type known n.name) (λ (c : ResolvedCommonType). c.name) (λ n c. full n.name c.name) (λ n c. refl) w.namespaces;
      entities =
          ap (map (λ (e : ResolvedEntityType). e.name)) (flat_map-map (λ (n : ResolvedNamespace). n.entity_types) (resolved_namespace known) w.namespaces)
          ∙ flat_names (λ (n : WrittenNamespace). n.entity_types) (λ n. resolved_entity_type known n.name) (λ (e : ResolvedEntityType). e.name) (λ n e. full n.name e.name) (λ n e. refl) w.namespaces;
      uids =
          ap (map (λ (a : ResolvedAction). a.uid)) (flat_map-map (λ (n : ResolvedNamespace). n.actions) (resolved_namespace known) w.namespaces)
          ∙ flat_names (λ (n : WrittenNamespace). n.actions) (λ n. resolved_action known n.name) (λ (a : ResolvedAction). a.uid) (λ n a. action_uid n.name a.id) (λ n a. refl) w.namespaces;
    }

-- ---- what holds of each namespace

pub record IsGood (known : Known) (n : WrittenNamespace) : Type 0 where
  pub text : IsUtf8 n.name
  pub written : IsWrittenNamespace n
  pub no_fault : namespace_fault known n ≡ None

pub goods : (known : Known) (ns : List WrittenNamespace) → AllByRecursion IsUtf8 (map (λ (n : WrittenNamespace). n.name) ns) → AllByRecursion IsWrittenNamespace ns
    → first_member (λ (n : WrittenNamespace). n.name) (namespace_fault known) ns ≡ None → AllByRecursion (IsGood known) ns
goods known [] t h e = tt
goods known (n ∷ ns) t h e =
    let parts = no_fault_either (inside n.name (namespace_fault known n)) (first_member (λ (m : WrittenNamespace). m.name) (namespace_fault known) ns) e in
    (record { text = t.0; written = h.0; no_fault = no_fault_under n.name (namespace_fault known n) parts.0 }, goods known ns t.1 h.1 parts.1)

-- ---- names

action_no_colon : HasNoColon (codes "Action")
action_no_colon = no_colon (codes "Action") refl

-- identifiers that a further test admits
module _ {X : Type 0} (own : X → List ℕ) (test : List ℕ → Bool) where
  no_colons : (xs : List X) → AllByRecursion (λ name. (is_ident name && test name) ≡ true) (map own xs) → AllByRecursion (λ x. HasNoColon (own x)) xs
  no_colons xs h =
      all_weaker (λ x. (is_ident (own x) && test (own x)) ≡ true) (λ x. HasNoColon (own x)) (λ x e. no_colon (own x) (and_parts (is_ident (own x)) (test (own x)) e).0) xs
      (all-unmap (λ name. (is_ident name && test name) ≡ true) own xs h)

  all_tested : (xs : List X) → AllByRecursion (λ name. (is_ident name && test name) ≡ true) (map own xs) → AllByRecursion (λ x. test (own x) ≡ true) xs
  all_tested xs h =
      all_weaker (λ x. (is_ident (own x) && test (own x)) ≡ true) (λ x. test (own x) ≡ true) (λ x e. (and_parts (is_ident (own x)) (test (own x)) e).1) xs
      (all-unmap (λ name. (is_ident name && test name) ≡ true) own xs h)

-- names in full of two namespaces differ, as do two names of one namespace
other_namespace : (n m x y : List ℕ) → text_cmp n m ≡ Less → HasNoColon x → HasNoColon y → bytes_eq (full n x) (full m y) ≡ false
other_namespace n m x y less p q = bytes_eq_false (full n x) (full m y) (λ e. below_differ n m less (full_parts n m x y p q e).0)

other_name : (n x y : List ℕ) → text_cmp x y ≡ Less → bytes_eq (full n x) (full n y) ≡ false
other_name n x y less = bytes_eq_false (full n x) (full n y) (λ e. below_differ x y less (full_same n x y e))

no_action_name : (n m x : List ℕ) → HasNoColon x → bytes_eq x (codes "Action") ≡ false → bytes_eq (full n x) (action_type m) ≡ false
no_action_name n m x p other =
    bytes_eq_false (full n x) (action_type m) (λ e.
    let same : x ≡ codes "Action" = (full_parts n m x (codes "Action") p action_no_colon e).1 in
    let both : true ≡ false = sym ((bytes_eq-Decides x (codes "Action")).1 same) ∙ other in
    cc)

-- the names in full of declarations with names of their own
module _ {X : Type 0} (own : X → List ℕ) where
  abbrev fulls : List ℕ → List X → List (List ℕ)
  fulls n = map (λ x. full n (own x))

  apart_names : (n m : List ℕ) → text_cmp n m ≡ Less → (xs ys : List X) → AllByRecursion (λ x. HasNoColon (own x)) xs → AllByRecursion (λ y. HasNoColon (own y)) ys
      → Apart bytes_eq (fulls n xs) (fulls m ys)
  apart_names n m less xs ys h k =
      all-map (λ a. AllByRecursion (λ b. bytes_eq a b ≡ false) (fulls m ys)) (λ x. full n (own x)) xs
      (all_weaker (λ x. HasNoColon (own x)) (λ x. AllByRecursion (λ b. bytes_eq (full n (own x)) b ≡ false) (fulls m ys))
      (λ x p.
      all-map (λ b. bytes_eq (full n (own x)) b ≡ false) (λ y. full m (own y)) ys
      (all_weaker (λ y. HasNoColon (own y)) (λ y. bytes_eq (full n (own x)) (full m (own y)) ≡ false) (λ y q. other_namespace n m (own x) (own y) less p q) ys k)) xs h)

  distinct_names : (n : List ℕ) (xs : List X) → IsStrictlySortedBy text_cmp (map own xs) → IsDistinct bytes_eq (fulls n xs)
  distinct_names n xs h = distinct-map bytes_eq own (λ x. full n (own x)) (λ a b less. other_name n (own a) (own b) less) xs h

-- ---- each declaration has a name of its own

module _ (known : Known) where
  common_no_colons : (n : WrittenNamespace) → IsGood known n → AllByRecursion (λ (c : WrittenCommonType). HasNoColon c.name) n.common_types
  common_no_colons n g = no_colons (λ (c : WrittenCommonType). c.name) (λ name. not (is_reserved name)) n.common_types g.written.common_names.admitted

  entity_no_colons : (n : WrittenNamespace) → IsGood known n → AllByRecursion (λ (t : WrittenEntityType). HasNoColon t.name) n.entity_types
  entity_no_colons n g = no_colons (λ (t : WrittenEntityType). t.name) (λ name. not (bytes_eq name (codes "Action"))) n.entity_types g.written.entity_names.admitted

  entity_no_actions : (n : WrittenNamespace) → IsGood known n → AllByRecursion (λ (t : WrittenEntityType). not (bytes_eq t.name (codes "Action")) ≡ true) n.entity_types
  entity_no_actions n g = all_tested (λ (t : WrittenEntityType). t.name) (λ name. not (bytes_eq name (codes "Action"))) n.entity_types g.written.entity_names.admitted

  apart_actions : (n m : WrittenNamespace) → IsGood known n → IsGood known m → text_cmp n.name m.name ≡ Less → Apart uid_eq (actions_of n) (actions_of m)
  apart_actions n m g h less =
      all-map (λ x. AllByRecursion (λ y. uid_eq x y ≡ false) (actions_of m)) (λ (a : WrittenAction). action_uid n.name a.id) n.actions
      (all_always (λ (a : WrittenAction). AllByRecursion (λ y. uid_eq (action_uid n.name a.id) y ≡ false) (actions_of m))
      (λ a.
      all-map (λ y. uid_eq (action_uid n.name a.id) y ≡ false) (λ (b : WrittenAction). action_uid m.name b.id) m.actions
      (all_always (λ (b : WrittenAction). uid_eq (action_uid n.name a.id) (action_uid m.name b.id) ≡ false)
      (λ b. and_left (bytes_eq (action_type n.name) (action_type m.name)) (bytes_eq a.id b.id) (other_namespace n.name m.name (codes "Action") (codes "Action") less action_no_colon action_no_colon))
      m.actions))
      n.actions)

  distinct_actions : (n : WrittenNamespace) → IsGood known n → IsDistinct uid_eq (actions_of n)
  distinct_actions n g =
      distinct-map uid_eq (λ (a : WrittenAction). a.id) (λ a. action_uid n.name a.id)
      (λ a b less. and_right (bytes_eq (action_type n.name) (action_type n.name)) (bytes_eq a.id b.id) (bytes_eq_false a.id b.id (below_differ a.id b.id less))) n.actions g.written.ids.ascending

  -- no entity type has the name of a type of actions
  no_actions : (ns : List WrittenNamespace) (n : WrittenNamespace) → IsGood known n
      → AllByRecursion (λ name. list_any (λ (u : Uid). bytes_eq name u.type_name) (flat_map actions_of ns) ≡ false) (entity_types_of n)
  no_actions ns n g =
      all-map (λ name. list_any (λ (u : Uid). bytes_eq name u.type_name) (flat_map actions_of ns) ≡ false) (λ (t : WrittenEntityType). full n.name t.name) n.entity_types
      (each n.entity_types (entity_no_colons n g) (entity_no_actions n g)) where
        each : (ts : List WrittenEntityType) → AllByRecursion (λ (t : WrittenEntityType). HasNoColon t.name) ts → AllByRecursion (λ (t : WrittenEntityType). not (bytes_eq t.name (codes "Action")) ≡ true) ts
            → AllByRecursion (λ (t : WrittenEntityType). list_any (λ (u : Uid). bytes_eq (full n.name t.name) u.type_name) (flat_map actions_of ns) ≡ false) ts
        each [] p q = tt
        each (t ∷ ts) p q = (
          list_any_false (λ (u : Uid). bytes_eq (full n.name t.name) u.type_name) (flat_map actions_of ns)
              (all-flat_map (λ (u : Uid). bytes_eq (full n.name t.name) u.type_name ≡ false) actions_of ns
              (all_always (λ m. AllByRecursion (λ (u : Uid). bytes_eq (full n.name t.name) u.type_name ≡ false) (actions_of m))
              (λ m.
              all-map (λ (u : Uid). bytes_eq (full n.name t.name) u.type_name ≡ false) (λ (a : WrittenAction). action_uid m.name a.id) m.actions
              (all_always (λ (a : WrittenAction). bytes_eq (full n.name t.name) (action_type m.name) ≡ false)
              (λ a. no_action_name n.name m.name t.name p.0 (not-true (bytes_eq t.name (codes "Action")) q.0)) m.actions)) ns)),
          each ts p.1 q.1,
        )

  -- ---- over all namespaces

  module _ (ns : List WrittenNamespace) (g : AllByRecursion (IsGood known) ns) (ascending : IsStrictlySortedBy text_cmp (map (λ (n : WrittenNamespace). n.name) ns)) where
    pub distinct_commons : IsDistinct bytes_eq (flat_map common_types_of ns)
    distinct_commons =
        distinct-flat_map bytes_eq (λ (n : WrittenNamespace). n.name) common_types_of (IsGood known)
        (λ n m h k less. apart_names (λ (c : WrittenCommonType). c.name) n.name m.name less n.common_types m.common_types (common_no_colons n h) (common_no_colons m k)) ns g ascending
        (all_weaker (IsGood known) (λ n. IsDistinct bytes_eq (common_types_of n)) (λ n h. distinct_names (λ (c : WrittenCommonType). c.name) n.name n.common_types h.written.common_names.ascending) ns g)

    pub distinct_entities : IsDistinct bytes_eq (flat_map entity_types_of ns)
    distinct_entities =
        distinct-flat_map bytes_eq (λ (n : WrittenNamespace). n.name) entity_types_of (IsGood known)
        (λ n m h k less. apart_names (λ (t : WrittenEntityType). t.name) n.name m.name less n.entity_types m.entity_types (entity_no_colons n h) (entity_no_colons m k)) ns g ascending
        (all_weaker (IsGood known) (λ n. IsDistinct bytes_eq (entity_types_of n)) (λ n h. distinct_names (λ (t : WrittenEntityType). t.name) n.name n.entity_types h.written.entity_names.ascending) ns g)

    pub distinct_uids : IsDistinct uid_eq (flat_map actions_of ns)
    distinct_uids =
        distinct-flat_map uid_eq (λ (n : WrittenNamespace). n.name) actions_of (IsGood known) apart_actions ns g ascending
        (all_weaker (IsGood known) (λ n. IsDistinct uid_eq (actions_of n)) distinct_actions ns g)

    pub no_action_types : AllByRecursion (λ name. list_any (λ (u : Uid). bytes_eq name u.type_name) (flat_map actions_of ns) ≡ false) (flat_map entity_types_of ns)
    no_action_types =
        all-flat_map (λ name. list_any (λ (u : Uid). bytes_eq name u.type_name) (flat_map actions_of ns) ≡ false) entity_types_of ns
        (all_weaker (IsGood known) (λ n. AllByRecursion (λ name. list_any (λ (u : Uid). bytes_eq name u.type_name) (flat_map actions_of ns) ≡ false) (entity_types_of n)) (no_actions ns) ns g)
