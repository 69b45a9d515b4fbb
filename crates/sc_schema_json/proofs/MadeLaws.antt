-- Each file whose types are written out makes a schema.
use Rattle.std.proofs.Common.{◌≡◌, ◌⊎◌, ℕ, List, [], ◌∷◌, map, Bool, true, false, Contains, inl, inr, refl, sym, ap, subst, ◌∙◌}
use Rattle.std.specs.Bool.{Decides}
use Rattle.std.specs.Cmp.{IsTotalOrder}
use Rattle.std.specs.List.{IsDistinct}
use Rattle.std.specs.List.Sorted.{IsStrictlySortedBy}
use Rattle.std.specs.Ordering.{is_eq}
use Rattle.std.specs.Str.{bytes_eq}
use Rattle.std.specs.declared.cmp.Ordering.{Ordering}
use Rattle.std.specs.declared.cmp.Ordering.TheVariants.{Equal}
use Rattle.std.proofs.lemmas.Cmp.{nat_list_cmp_total}
use Rattle.std.proofs.lemmas.Map.Text.{is_eq-slice_cmp}
use Rattle.std.proofs.lemmas.Slice.Eq.{bytes_eq-Decides}
use Rattle.sc_lists.proofs.ListLaws.{contains_map, map_itself, contains_from_map}
use Rattle.sc_lists.proofs.TextLaws.{bytes_eq_true}
use Rattle.sc_names.specs.Uids.{text_cmp, uid_cmp}
use Rattle.sc_names.proofs.UidLaws.{uid_cmp_total, uid_cmp_level}
use Rattle.sc_names.specs.declared.uid.Uid.{Uid}
use Rattle.sc_schema.specs.Declarations.{Declarations, uid_eq}
use Rattle.sc_schema.specs.declared.declarations.Action.{Action}
use Rattle.sc_schema.specs.declared.declarations.EntityType.{EntityType}
use Rattle.sc_schema.proofs.PlaceLaws.{uid_eq-Decides}
use Rattle.sc_schema.specs.Expanded.{IsExpanded}
use Rattle.sc_schema.specs.declared.expanded.ExpandedAction.{ExpandedAction}
use Rattle.sc_schema.specs.declared.expanded.ExpandedEntityType.{ExpandedEntityType}
use Rattle.sc_schema.specs.declared.expanded.ExpandedSchema.{ExpandedSchema}
use Rattle.sc_schema_json.specs.Above.{Links, AreAbove, NoCycle, IsLeastCycle}
use Rattle.sc_schema_json.specs.Schemas.{AreInOrder, IsEntityTypeOf, IsActionOf, AreTypesOf, AreActionsOf, IsSchemaOf, type_links, action_links}
use Rattle.sc_schema_json.proofs.AscendingLaws.{Ascends, ascending_of}
use Rattle.sc_schema_json.proofs.KeyedLaws.{one_keyed}
use Rattle.sc_schema_json.proofs.SpelledLinksLaws.{are_above, cycle_or_none}

pub text_level : (a b : List ℕ) → text_cmp a b ≡ Equal → a ≡ b
text_level a b is = bytes_eq_true a b (sym (is_eq-slice_cmp a b) ∙ ap is_eq is)

-- ---- what declarations of different keys make, in ascending order

module _ {D T K : Type 0} {R : K → K → Ordering} (o : IsTotalOrder R) (level : (x y : K) → R x y ≡ Equal → x ≡ y)
    (eq : K → K → Bool) (decides : (a b : K) → Decides (eq a b) (a ≡ b)) (key : D → K) (key_of : T → K) (make : D → T)
    (keeps : (d : D) → key_of (make d) ≡ key d) where
  made_tie : (ds : List D) → IsDistinct eq (map key ds) → (x y : T) → Contains (map make ds) x → Contains (map make ds) y → R (key_of x) (key_of y) ≡ Equal → x ≡ y
  made_tie ds distinct x y has had tied = from (contains_from_map make ds x has) (contains_from_map make ds y had) where
    from : (d : D) × Contains ds d × (make d ≡ x) → (e : D) × Contains ds e × (make e ≡ y) → x ≡ y
    from p q =
        let first : key p.0 ≡ key_of x = sym (keeps p.0) ∙ ap key_of p.2 in
        let second : key_of y ≡ key q.0 = sym (ap key_of q.2) ∙ keeps q.0 in
        let same : p.0 ≡ q.0 = one_keyed eq decides key ds distinct p.0 q.0 p.1 q.1 (first ∙ level (key_of x) (key_of y) tied ∙ second) in
        sym p.2 ∙ ap make same ∙ q.2

  all_made : (ds : List D) → IsDistinct eq (map key ds) → Ascends R key_of (Contains (map make ds))
  all_made ds distinct = ascending_of o key_of (map make ds) (made_tie ds distinct)

-- ---- entity types

in_order : (names : List (List ℕ)) → (ks : List (List ℕ)) × AreInOrder names ks
in_order names = of (ascending_of nat_list_cmp_total (λ (k : List ℕ). k) names (λ x y has had tied. text_level x y tied)) where
  of : Ascends text_cmp (λ (k : List ℕ). k) (Contains names) → (ks : List (List ℕ)) × AreInOrder names ks
  of all = (all.list, record { ascending = subst (IsStrictlySortedBy text_cmp) (map_itself all.list) all.ascending; members = all.members })

types_above : (links : Links (List ℕ)) (name : List ℕ) → (ks : List (List ℕ)) × AreAbove text_cmp links name ks
types_above links name = are_above nat_list_cmp_total text_level bytes_eq bytes_eq-Decides links name

abbrev made_type : List ExpandedEntityType → ExpandedEntityType → EntityType
made_type ds d = record { name = d.name; ancestors = (types_above (type_links ds) d.name).0; shape = d.shape; tags = d.tags; choices = d.choices }

is_made_type : (ds : List ExpandedEntityType) (d : ExpandedEntityType) → IsEntityTypeOf (type_links ds) d (made_type ds d)
is_made_type ds d = record { name = refl; ancestors = (types_above (type_links ds) d.name).1; shape = refl; tags = refl; choices = refl }

made_types : (ds : List ExpandedEntityType) → IsDistinct bytes_eq (map (λ (d : ExpandedEntityType). d.name) ds) → (types : List EntityType) × AreTypesOf ds types
made_types ds distinct =
    of (all_made nat_list_cmp_total text_level bytes_eq bytes_eq-Decides (λ (d : ExpandedEntityType). d.name) (λ (t : EntityType). t.name) (made_type ds) (λ d. refl) ds distinct) where
      from : (t : EntityType) → (d : ExpandedEntityType) × Contains ds d × (made_type ds d ≡ t) → (d : ExpandedEntityType) × Contains ds d × IsEntityTypeOf (type_links ds) d t
      from t found = (found.0, found.1, subst (λ (u : EntityType). IsEntityTypeOf (type_links ds) found.0 u) found.2 (is_made_type ds found.0))

      of : Ascends text_cmp (λ (t : EntityType). t.name) (Contains (map (made_type ds) ds)) → (types : List EntityType) × AreTypesOf ds types
      of all = (
        all.list,
        record {
          ascending = all.ascending;
          each = λ t has. from t (contains_from_map (made_type ds) ds t ((all.members t).0 has));
          all = λ d has. (made_type ds d, (all.members (made_type ds d)).1 (contains_map (made_type ds) ds d has), is_made_type ds d);
        },
      )

-- ---- actions

actions_above : (links : Links Uid) (uid : Uid) → (us : List Uid) × AreAbove uid_cmp links uid us
actions_above links uid = are_above uid_cmp_total uid_cmp_level uid_eq uid_eq-Decides links uid

pub action_cycle_or_none : (links : Links Uid) → ((u : Uid) × IsLeastCycle uid_cmp links u) ⊎ NoCycle links
action_cycle_or_none links = cycle_or_none uid_cmp_total uid_cmp_level uid_eq uid_eq-Decides links

abbrev made_action : List ExpandedAction → ExpandedAction → Action
made_action ds d =
    record {
      uid = d.uid;
      ancestors = (actions_above (action_links ds) d.uid).0;
      principals = (in_order d.principals).0;
      resources = (in_order d.resources).0;
      context = d.context;
    }

is_made_action : (ds : List ExpandedAction) (d : ExpandedAction) → IsActionOf (action_links ds) d (made_action ds d)
is_made_action ds d =
    record {
      uid = refl;
      ancestors = (actions_above (action_links ds) d.uid).1;
      principals = (in_order d.principals).1;
      resources = (in_order d.resources).1;
      context = refl;
    }

made_actions : (ds : List ExpandedAction) → IsDistinct uid_eq (map (λ (d : ExpandedAction). d.uid) ds) → (actions : List Action) × AreActionsOf ds actions
made_actions ds distinct =
    of (all_made uid_cmp_total uid_cmp_level uid_eq uid_eq-Decides (λ (d : ExpandedAction). d.uid) (λ (a : Action). a.uid) (made_action ds) (λ d. refl) ds distinct) where
      from : (a : Action) → (d : ExpandedAction) × Contains ds d × (made_action ds d ≡ a) → (d : ExpandedAction) × Contains ds d × IsActionOf (action_links ds) d a
      from a found = (found.0, found.1, subst (λ (u : Action). IsActionOf (action_links ds) found.0 u) found.2 (is_made_action ds found.0))

      of : Ascends uid_cmp (λ (a : Action). a.uid) (Contains (map (made_action ds) ds)) → (actions : List Action) × AreActionsOf ds actions
      of all = (
        all.list,
        record {
          ascending = all.ascending;
          each = λ a has. from a (contains_from_map (made_action ds) ds a ((all.members a).0 has));
          all = λ d has. (made_action ds d, (all.members (made_action ds d)).1 (contains_map (made_action ds) ds d has), is_made_action ds d);
        },
      )

-- ---- all of them

pub made_schema : (x : ExpandedSchema) → IsExpanded x → (s : Declarations) × IsSchemaOf x s
made_schema x proper = of (made_types x.entity_types proper.types_distinct) (made_actions x.actions proper.actions_distinct) where
  of : (types : List EntityType) × AreTypesOf x.entity_types types → (actions : List Action) × AreActionsOf x.actions actions → (s : Declarations) × IsSchemaOf x s
  of p q = (record { types = p.0; actions = q.0 }, record { types = p.1; actions = q.1 })
