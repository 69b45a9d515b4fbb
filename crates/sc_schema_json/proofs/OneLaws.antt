-- What a file declares makes one schema.
use Rattle.std.proofs.Common.{◌≡◌, ◌↔◌, ℕ, List, [], ◌∷◌, map, refl, sym, subst, ◌∙◌, inl, inr, Contains}
use Rattle.std.specs.Cmp.{IsTotalOrder}
use Rattle.std.specs.List.{AllByRecursion}
use Rattle.std.specs.List.Sorted.{IsStrictlySortedBy}
use Rattle.std.specs.Ordering.{on}
use Rattle.std.specs.declared.cmp.Ordering.{Ordering}
use Rattle.std.specs.declared.cmp.Ordering.TheVariants.{Less}
use Rattle.std.proofs.lemmas.Cmp.{nat_list_cmp_total, on_total}
use Rattle.std.proofs.lemmas.Map.Keys.{sorted_tail}
use Rattle.sc_lists.proofs.ListLaws.{contains_nothing, contains_split, contains_rest, contains_first}
use Rattle.sc_names.specs.Uids.{text_cmp, uid_cmp}
use Rattle.sc_names.proofs.UidLaws.{uid_cmp_total}
use Rattle.sc_schema.specs.Declarations.{Declarations}
use Rattle.sc_schema.specs.declared.declarations.Action.{Action}
use Rattle.sc_schema.specs.declared.declarations.EntityType.{EntityType}
use Rattle.sc_schema.proofs.OrderLaws.{not_below, both_below, first_below}
use Rattle.sc_schema.specs.declared.expanded.ExpandedAction.{ExpandedAction}
use Rattle.sc_schema.specs.declared.expanded.ExpandedEntityType.{ExpandedEntityType}
use Rattle.sc_schema.specs.declared.expanded.ExpandedSchema.{ExpandedSchema}
use Rattle.sc_schema_json.specs.Above.{Links, AreAbove}
use Rattle.sc_schema_json.specs.Schemas.{AreInOrder, IsEntityTypeOf, IsActionOf, AreTypesOf, AreActionsOf, IsSchemaOf, type_links, action_links}

-- ---- ascending lists of the same elements are one

module _ {X : Type 0} {R : X → X → Ordering} (o : IsTotalOrder R) where
  one_first : (x y : X) (xs ys : List X) → IsStrictlySortedBy R (x ∷ xs) → IsStrictlySortedBy R (y ∷ ys) → Contains (y ∷ ys) x → Contains (x ∷ xs) y → x ≡ y
  one_first x y xs ys a b has had = elim (contains_split y ys x has) [
    | inl is ↦ sym is
    | inr later ↦ elim (contains_split x xs y had) [
      | inl is ↦ is
      | inr after ↦ absurd (both_below o y x (first_below R y ys x b later) (first_below R x xs y a after))
    ]
  ]

  rest_has : (x y : X) (xs ys : List X) (z : X) → x ≡ y → IsStrictlySortedBy R (x ∷ xs) → Contains xs z → Contains (y ∷ ys) z → Contains ys z
  rest_has x y xs ys z same_first a has had = elim (contains_split y ys z had) [
    | inl is ↦ absurd (not_below o z (subst (λ (v : X). R v z ≡ Less) (same_first ∙ is) (first_below R x xs z a has)))
    | inr later ↦ later
  ]

  one_list : (xs ys : List X) → IsStrictlySortedBy R xs → IsStrictlySortedBy R ys → ((x : X) → Contains xs x ↔ Contains ys x) → xs ≡ ys
  one_list [] [] a b h = refl
  one_list [] (y ∷ ys) a b h = absurd (contains_nothing y ((h y).1 (contains_first y ys)))
  one_list (x ∷ xs) [] a b h = absurd (contains_nothing x ((h x).0 (contains_first x xs)))
  one_list (x ∷ xs) (y ∷ ys) a b h =
      let first : x ≡ y = one_first x y xs ys a b ((h x).0 (contains_first x xs)) ((h y).1 (contains_first y ys)) in
      let rest : xs ≡ ys = one_list xs ys (sorted_tail R x xs a) (sorted_tail R y ys b) (λ z.
      (λ has. rest_has x y xs ys z first a has ((h z).0 (contains_rest x xs z has)), λ has. rest_has y x ys xs z (sym first) b has ((h z).1 (contains_rest y ys z has)))) in
      cc

  -- of the same members
  same_members : (P : X → Type 0) (xs ys : List X) → IsStrictlySortedBy R xs → IsStrictlySortedBy R ys → ((x : X) → Contains xs x ↔ P x) → ((x : X) → Contains ys x ↔ P x) → xs ≡ ys
  same_members P xs ys a b has had = one_list xs ys a b (λ x. (λ h. (had x).1 ((has x).0 h), λ h. (has x).1 ((had x).0 h)))

module _ {X K : Type 0} (R : K → K → Ordering) (key : X → K) where
  all_on : (x : X) (xs : List X) → AllByRecursion (λ k. R (key x) k ≡ Less) (map key xs) → AllByRecursion (λ y. on key R x y ≡ Less) xs
  all_on x [] h = tt
  all_on x (y ∷ ys) h = (h.0, all_on x ys h.1)

  sorted_on : (xs : List X) → IsStrictlySortedBy R (map key xs) → IsStrictlySortedBy (on key R) xs
  unfolding IsStrictlySortedBy
  sorted_on [] h = tt
  sorted_on (x ∷ xs) h = (all_on x xs h.0, sorted_on xs h.1)

-- ---- each declaration makes one entity type or action

one_above : {K : Type 0} {R : K → K → Ordering} (o : IsTotalOrder R) (links : Links K) (k : K) (xs ys : List K) → AreAbove R links k xs → AreAbove R links k ys → xs ≡ ys
one_above o links k xs ys a b = same_members o _ xs ys a.ascending b.ascending a.members b.members

one_order : (names xs ys : List (List ℕ)) → AreInOrder names xs → AreInOrder names ys → xs ≡ ys
one_order names xs ys a b = same_members nat_list_cmp_total _ xs ys a.ascending b.ascending a.members b.members

one_type : (links : Links (List ℕ)) (d : ExpandedEntityType) (s t : EntityType) → IsEntityTypeOf links d s → IsEntityTypeOf links d t → s ≡ t
one_type links d s t a b =
    let names : s.name ≡ t.name = a.name ∙ sym b.name in
    let above : s.ancestors ≡ t.ancestors = one_above nat_list_cmp_total links d.name s.ancestors t.ancestors a.ancestors b.ancestors in
    let shapes : s.shape ≡ t.shape = a.shape ∙ sym b.shape in
    let tags : s.tags ≡ t.tags = a.tags ∙ sym b.tags in
    let choices : s.choices ≡ t.choices = a.choices ∙ sym b.choices in
    λ i. record { name = names i; ancestors = above i; shape = shapes i; tags = tags i; choices = choices i }

one_action : (links : Links _) (d : ExpandedAction) (s t : Action) → IsActionOf links d s → IsActionOf links d t → s ≡ t
one_action links d s t a b =
    let uids : s.uid ≡ t.uid = a.uid ∙ sym b.uid in
    let above : s.ancestors ≡ t.ancestors = one_above uid_cmp_total links d.uid s.ancestors t.ancestors a.ancestors b.ancestors in
    let principals : s.principals ≡ t.principals = one_order d.principals s.principals t.principals a.principals b.principals in
    let resources : s.resources ≡ t.resources = one_order d.resources s.resources t.resources a.resources b.resources in
    let contexts : s.context ≡ t.context = a.context ∙ sym b.context in
    λ i. record { uid = uids i; ancestors = above i; principals = principals i; resources = resources i; context = contexts i }

-- ---- all declarations make one schema

type_there : (ds : List ExpandedEntityType) (ss ts : List EntityType) → AreTypesOf ds ss → AreTypesOf ds ts → (t : EntityType) → Contains ss t → Contains ts t
type_there ds ss ts a b t has =
    let declared = a.each t has in
    let other = b.all declared.0 declared.1 in
    subst (λ (u : EntityType). Contains ts u) (one_type (type_links ds) declared.0 other.0 t other.2 declared.2) other.1

one_types : (ds : List ExpandedEntityType) (ss ts : List EntityType) → AreTypesOf ds ss → AreTypesOf ds ts → ss ≡ ts
one_types ds ss ts a b =
    one_list (on_total (λ (t : EntityType). t.name) nat_list_cmp_total) ss ts (sorted_on text_cmp (λ (t : EntityType). t.name) ss a.ascending) (sorted_on text_cmp (λ (t : EntityType). t.name) ts b.ascending)
    (λ t. (type_there ds ss ts a b t, type_there ds ts ss b a t))

action_there : (ds : List ExpandedAction) (ss ts : List Action) → AreActionsOf ds ss → AreActionsOf ds ts → (a : Action) → Contains ss a → Contains ts a
action_there ds ss ts a b t has =
    let declared = a.each t has in
    let other = b.all declared.0 declared.1 in
    subst (λ (u : Action). Contains ts u) (one_action (action_links ds) declared.0 other.0 t other.2 declared.2) other.1

one_actions : (ds : List ExpandedAction) (ss ts : List Action) → AreActionsOf ds ss → AreActionsOf ds ts → ss ≡ ts
one_actions ds ss ts a b =
    one_list (on_total (λ (t : Action). t.uid) uid_cmp_total) ss ts (sorted_on uid_cmp (λ (t : Action). t.uid) ss a.ascending) (sorted_on uid_cmp (λ (t : Action). t.uid) ts b.ascending)
    (λ t. (action_there ds ss ts a b t, action_there ds ts ss b a t))

pub schema_is_one : (x : ExpandedSchema) (s t : Declarations) → IsSchemaOf x s → IsSchemaOf x t → s ≡ t
schema_is_one x s t a b =
    let types : s.types ≡ t.types = one_types x.entity_types s.types t.types a.types b.types in
    let actions : s.actions ≡ t.actions = one_actions x.actions s.actions t.actions a.actions b.actions in
    λ i. record { types = types i; actions = actions i }
