-- What rules bring in by a term's row are terms, and so are the inputs of its definition.
use Rattle.std.proofs.Common.{◌≡◌, inl, inr, ⊎_elim, List, [], ◌∷◌, map, ℕ, true, Option, Some, None, unwrap_or, option_map, IsSome, Contains, refl, sym, ap, ◌∙◌, subst}
use Rattle.std.specs.List.{AllByRecursion}
use Rattle.sc_lists.proofs.ListLaws.{all_element, contains_nothing}
use Rattle.sc_lists.proofs.MemberLaws.{map-Has, flat_map-Has, Has-append, Contains-from_Has}
use Rattle.sc_lists.specs.Members.{Has}
use Rattle.sc_names.specs.declared.uid.Uid.{Uid}
use Rattle.sc_schema.specs.declared.declarations.Action.{Action}
use Rattle.sc_schema.specs.declared.declarations.Env.{Env}
use Rattle.sc_schema.specs.declared.ty.Ty.{Ty}
use Rattle.sc_schema.specs.Declarations.{Declarations, action, action_uids, action_ancestors, ancestor_types, tags_of, environments}
use Rattle.sc_schema.specs.Lawful.{IsLawful}
use Rattle.sc_schema.proofs.LookupLaws.{action_declared}
use Rattle.sc_world.specs.Named.{IsDeclared}
use Rattle.sc_sorts.specs.Entities.{of_type_name, choices_of, entity_sort}
use Rattle.sc_sorts.specs.Inside.{SortField}
use Rattle.sc_sorts.specs.OfTypes.{sort_of}
use Rattle.sc_sorts.specs.declared.sort.Sort.{Sort, Sort-F, out-Sort}
use Rattle.sc_sorts.specs.declared.sort.Sort.TheVariants as sort
use Rattle.sc_sorts.specs.declared.sort.Sort.TheVariants.{rolls-Bool, rolls-Record, rolls-Option, rolls-Set}
use Rattle.sc_sorts.specs.declared.sort.Sort.TheOpen as s
use Rattle.sc_sorts.proofs.OutLaws.{out_Entity}
use Rattle.sc_sorts.specs.declared.node.Leaf.{Leaf}
use Rattle.sc_sorts.specs.declared.node.Leaf.TheVariants.{Literal}
use Rattle.sc_sorts.specs.declared.node.Literal.TheVariants.{Bool as bool}
use Rattle.sc_sorts.specs.declared.node.BinaryOp.TheVariants as binary
use Rattle.sc_sorts.specs.declared.node.UnaryOp.TheVariants as unary
use Rattle.sc_terms.specs.Trees.{Tree, leaf, one, two, choice}
use Rattle.sc_terms.specs.TreeSorts.{tree_sort}
use Rattle.sc_terms.specs.Folds.{equal_term, field_term, held_term, default_term}
use Rattle.sc_term_laws.specs.Judging.{IsTermOf, IsTerm}
use Rattle.sc_term_laws.specs.Judging as judged
use Rattle.sc_term_laws.proofs.ChoicesLaws.{chosen, there_action}
use Rattle.sc_term_laws.proofs.DefaultMade.{default_made, held_made}
use Rattle.sc_term_laws.proofs.JudgingLaws.{sort_is}
use Rattle.sc_term_laws.proofs.SortsLawful.{listed_below, lawful_action, tags_lawful, type_lawful}
use Rattle.sc_term_laws.proofs.TestLaws.{at_level}
use Rattle.sc_term_definitions.specs.Definitions.{definition, inputs_of, chosen_of, over_leaf}
use Rattle.sc_term_definitions.specs.Truths.{InputsAreTerms}
use Rattle.sc_rule_laws.specs.Terms.{member, written}
use Rattle.sc_rule_laws.proofs.WrittenTerms.{written_made}
use Rattle.sc_closure_rules.specs.Closure.{memberships, standing_by, picked, within_by, common_by, uid_term, branches, equations, ancestors_of, declared_members, declared_ancestors, ancestors_by, beside}
use Rattle.sc_closure_rules.proofs.PartLaws.{own}
use Rattle.sc_closure_rules.proofs.MadeLaws.{at, equated, uid_at, field_of}

-- ---- what a definition names is of a truth value

chosen_bool : (c a b t : Tree) (l : Sort-F Sort) → out-Sort (tree_sort a) ≡ l → Has ((chosen_of l c a b).inputs) t → tree_sort a ≡ sort.Bool
chosen_bool c a b t s.Bool e h = at_level (tree_sort a) s.Bool e ∙ rolls-Bool
chosen_bool c a b t _ e h = absurd h

leaf_defined : (l : Leaf) (t : Tree) → Has ((over_leaf l).inputs) t → tree_sort (leaf l) ≡ sort.Bool
leaf_defined (Literal (bool true)) t h = absurd h
leaf_defined _ t h = absurd h

defined_bool : (x t : Tree) → Has (inputs_of x) t → tree_sort x ≡ sort.Bool
unfolding definition tree_sort
defined_bool (one (unary.Bit i) a) t h = refl
defined_bool (one (unary.CarryIn i) a) t h = refl
defined_bool (one (unary.ProductRow i j) a) t h = refl
defined_bool (one (unary.ProductCarry i j) a) t h = refl
defined_bool (two binary.And a b) t h = refl
defined_bool (two binary.Or a b) t h = refl
defined_bool (two binary.Equal a b) t h = refl
defined_bool (two binary.AddOverflows a b) t h = refl
defined_bool (two binary.SubtractOverflows a b) t h = refl
defined_bool (two binary.MultiplyOverflows a b) t h = refl
defined_bool (two binary.Less a b) t h = refl
defined_bool (two binary.InRange a b) t h = refl
defined_bool (two (binary.Low i) a b) t h = refl
defined_bool (choice c a b) t h = chosen_bool c a b t (out-Sort (tree_sort a)) refl h
defined_bool (leaf l) t h = leaf_defined l t h
defined_bool _ t h = absurd h

module _ (d : Declarations) (env : Env) (literals : List Uid) (lawful : IsLawful d) (among : Contains (environments d) env) (declared : AllByRecursion (IsDeclared d) literals) where
  abbrev Of : Sort → Tree → Type 0
  Of = IsTermOf d env literals

  abbrev Is : Tree → Type 0
  Is = IsTerm d env literals

  self : (k : Sort) (t : Tree) → Of k t → Is t
  self = own d env literals

  pub inputs_made : InputsAreTerms → (x t : Tree) → Is x → Has (inputs_of x) t → Is t
  inputs_made inputs x t h m = self sort.Bool t (inputs d env literals x t (at d env literals sort.Bool x (defined_bool x t m) h) (Contains-from_Has (inputs_of x) t m))

  -- ---- choices and equations

  branches_two : (l : Sort-F Sort) (x a b t : Tree) → Has (branches l x a b) t → Has (equal_term x a ∷ equal_term x b ∷ []) t
  branches_two s.Bool x a b t m = absurd m
  branches_two _ x a b t m = m

  two_made : (k : Sort) (x a b t : Tree) → Of k x → Of k a → Of k b → Has (equal_term x a ∷ equal_term x b ∷ []) t → Is t
  two_made k x a b t f g h (inl m) = subst Is m (equated d env literals k x a f g)
  two_made k x a b t f g h (inr (inl m)) = subst Is m (equated d env literals k x b f h)
  two_made k x a b t f g h (inr (inr m)) = absurd m

  equations_made : (l : Sort-F Sort) (k : Sort) (a b t : Tree) → out-Sort k ≡ l → Of k a → Of k b → Has (equations l a b) t → Is t
  equations_made (s.Record fs) k a b t e g h m =
      let same = at_level k (s.Record fs) e ∙ rolls-Record fs in
      let q = map-Has (λ (f : SortField). equal_term (field_term f.0 a) (field_term f.0 b)) fs t m in
      let first = field_of d env literals lawful among declared fs q.0 a (subst (λ (z : Sort). Of z a) same g) q.1 in
      let second = field_of d env literals lawful among declared fs q.0 b (subst (λ (z : Sort). Of z b) same h) q.1 in
      subst Is q.2 (equated d env literals q.0.1 (field_term q.0.0 a) (field_term q.0.0 b) first second)
  equations_made (s.Option held) k a b t e g h (inl m) =
      let same = at_level k (s.Option held) e ∙ rolls-Option held in
      let first = held_made d env literals held a (subst (λ (z : Sort). Of z a) same g) in
      let second = held_made d env literals held b (subst (λ (z : Sort). Of z b) same h) in
      subst Is m (equated d env literals held (held_term a) (held_term b) first second)
  equations_made (s.Option held) k a b t e g h (inr m) = absurd m
  equations_made (s.Set member) k a b t e g h (inl m) =
      let same = at_level k (s.Set member) e ∙ rolls-Set member in
      subst Is m (self sort.Bool (two binary.Subset a b) (judged.of_sets binary.Subset member a b judged.subset_test (subst (λ (z : Sort). Of z a) same g) (subst (λ (z : Sort). Of z b) same h)))
  equations_made (s.Set member) k a b t e g h (inr (inl m)) =
      let same = at_level k (s.Set member) e ∙ rolls-Set member in
      subst Is m (self sort.Bool (two binary.Subset b a) (judged.of_sets binary.Subset member b a judged.subset_test (subst (λ (z : Sort). Of z b) same h) (subst (λ (z : Sort). Of z a) same g)))
  equations_made (s.Set member) k a b t e g h (inr (inr m)) = absurd m
  equations_made _ k a b t e g h m = absurd m

  -- ---- ancestors

  -- an action's ancestors are declared
  ancestor_declared : (u v : Uid) → Contains (action_uids d) u → Contains (unwrap_or (action_ancestors d u) []) v → Contains (action_uids d) v
  ancestor_declared u v here h = by (action d u) refl h
    where
      by : (o : Option Action) → action d u ≡ o → Contains (unwrap_or (option_map (λ (a : Action). a.ancestors) o) []) v → Contains (action_uids d) v
      by None e h = absurd (contains_nothing v h)
      by (Some a) e h =
          let it = lawful_action d lawful a (action_declared d u a e).0 in
          there_action d v (all_element (λ (w : Uid). IsSome (action d w)) a.ancestors v it.declared h)

  module _ (name above : List ℕ) (names : List (List ℕ)) (types : ancestor_types d name ≡ Some names) (is_above : Contains names above) where
    abbrev set_sort : Sort
    set_sort = entity_sort d above

    set_of : (e : Tree) → Of (entity_sort d name) e → Of (sort.Set set_sort) (ancestors_of set_sort e)
    set_of e h = judged.of_ancestors name above names e types is_above h

    members_made : (u : Uid) (x t : Tree) → Contains (action_uids d) u → Of (entity_sort d name) x
        → Has (map (λ (v : Uid). two binary.Member (uid_term (choices_of d above) v) (ancestors_of set_sort x)) (of_type_name above (unwrap_or (action_ancestors d u) []))) t → Is t
    members_made u x t here h m =
        let q = map-Has (λ (v : Uid). two binary.Member (uid_term (choices_of d above) v) (ancestors_of set_sort x)) (of_type_name above (unwrap_or (action_ancestors d u) [])) t m in
        let c = chosen above (unwrap_or (action_ancestors d u) []) q.0 (Contains-from_Has (of_type_name above (unwrap_or (action_ancestors d u) [])) q.0 q.1) in
        let member = uid_at d env literals above (choices_of d above) q.0 refl (ancestor_declared u q.0 here c.among) c.named in
        subst Is q.2 (self sort.Bool (two binary.Member (uid_term (choices_of d above) q.0) (ancestors_of set_sort x))
        (judged.of_member set_sort (uid_term (choices_of d above) q.0) (ancestors_of set_sort x) member (set_of x h)))

    -- what goes with an entity's ancestors of the type above
    action_made : (u : Uid) (t : Tree) → Contains (choices_of d name) u
        → Has (ancestors_of set_sort (uid_term (choices_of d name) u) ∷ declared_members d (out-Sort set_sort) set_sort (uid_term (choices_of d name) u) u) t → Is t
    action_made u t here m =
        let c = listed_below d lawful name above names types is_above u here in
        let entity = uid_at d env literals name (choices_of d name) u refl c.among c.named in
        let members = λ (n : Has (declared_members d (out-Sort set_sort) set_sort (uid_term (choices_of d name) u) u) t).
        members_made u (uid_term (choices_of d name) u) t c.among entity
        (subst (λ (l : Sort-F Sort). Has (declared_members d l set_sort (uid_term (choices_of d name) u) u) t) (out_Entity above (choices_of d above)) n) in
        ⊎_elim (λ e. subst Is e (self (sort.Set set_sort) (ancestors_of set_sort (uid_term (choices_of d name) u)) (set_of (uid_term (choices_of d name) u) entity))) members m

    declared_made : (t : Tree) → Has (declared_ancestors d set_sort (choices_of d name)) t → Is t
    declared_made t m =
        let q = flat_map-Has (λ (u : Uid). ancestors_of set_sort (uid_term (choices_of d name) u) ∷ declared_members d (out-Sort set_sort) set_sort (uid_term (choices_of d name) u) u) (choices_of d name) t m in
        action_made q.0 t (Contains-from_Has (choices_of d name) q.0 q.1) q.2

    types_made : (e t : Tree) → Of (entity_sort d name) e → Has (map (λ (n : List ℕ). ancestors_of (entity_sort d n) e) (unwrap_or (ancestor_types d name) [])) t → Is t
    types_made e t h m =
        let all : unwrap_or (ancestor_types d name) [] ≡ names = ap (λ (o : Option (List (List ℕ))). unwrap_or o []) types in
        let q = map-Has (λ (n : List ℕ). ancestors_of (entity_sort d n) e) (unwrap_or (ancestor_types d name) []) t m in
        subst Is q.2 (self (sort.Set (entity_sort d q.0)) (ancestors_of (entity_sort d q.0) e)
        (judged.of_ancestors name q.0 names e types (subst (λ (ns : List (List ℕ)). Contains ns q.0) all (Contains-from_Has (unwrap_or (ancestor_types d name) []) q.0 q.1)) h))

    pub ancestors_made : (e t : Tree) → Of (entity_sort d name) e → Has (ancestors_by d (out-Sort (tree_sort e)) set_sort e) t → Is t
    ancestors_made e t h m =
        let level : out-Sort (tree_sort e) ≡ s.Entity name (choices_of d name) = ap out-Sort (sort_is d env literals (entity_sort d name) e h) ∙ out_Entity name (choices_of d name) in
        let n = subst (λ (l : Sort-F Sort). Has (ancestors_by d l set_sort e) t) level m in
        ⊎_elim (types_made e t h) (declared_made t)
        (Has-append (map (λ (n : List ℕ). ancestors_of (entity_sort d n) e) (unwrap_or (ancestor_types d name) [])) (declared_ancestors d set_sort (choices_of d name)) t n)

  -- ---- tags

  tag_made : (name : List ℕ) (y : Ty) (e k t : Tree) → tags_of d name ≡ Some y → Of (entity_sort d name) e → Of sort.String k
      → Has (one unary.Keys e ∷ two binary.Member k (one unary.Keys e) ∷ equal_term (two (binary.Tag (sort_of y)) e k) (default_term (sort_of y)) ∷ []) t → Is t
  tag_made name y e k t stored g h (inl m) = subst Is m (self (sort.Set sort.String) (one unary.Keys e) (judged.of_keys name y e stored g))
  tag_made name y e k t stored g h (inr (inl m)) =
      subst Is m (self sort.Bool (two binary.Member k (one unary.Keys e)) (judged.of_member sort.String k (one unary.Keys e) h (judged.of_keys name y e stored g)))
  tag_made name y e k t stored g h (inr (inr (inl m))) =
      subst Is m (equated d env literals (sort_of y) (two (binary.Tag (sort_of y)) e k) (default_term (sort_of y)) (judged.of_tag name y e k stored g h)
      (default_made d env literals (sort_of y) (type_lawful d lawful y (tags_lawful d lawful name y stored))))
  tag_made name y e k t stored g h (inr (inr (inr m))) = absurd m

  -- ---- all rows

  membership_made : (k : Sort) (x a : Tree) → Of k x → Of (sort.Set k) a → Is (two binary.Member x a)
  membership_made k x a h i = self sort.Bool (two binary.Member x a) (judged.of_member k x a h i)

  memberships_made : (k : Sort) (us : List Tree) (a t : Tree) → ((u : Tree) → Has us u → Of k u) → Of (sort.Set k) a → Has (memberships us a) t → Is t
  memberships_made k us a t each h m = let q = map-Has (λ u. member u a) us t m in subst Is q.2 (membership_made k q.0 a (each q.0 q.1) h)

  picked_made : (k : Sort) (x a b t : Tree) → Of k x → Of (sort.Set k) a → Of (sort.Set k) b → Has (picked x a b) t → Is t
  picked_made k x a b t h i j (inl e) = subst Is e (self k x h)
  picked_made k x a b t h i j (inr (inl e)) = subst Is e (membership_made k x a h i)
  picked_made k x a b t h i j (inr (inr (inl e))) = subst Is e (membership_made k x b h j)
  picked_made k x a b t h i j (inr (inr (inr m))) = absurd m

  standing_made : (k : Sort) (x a t : Tree) (o : Option (List Tree)) → written a ≡ o → Of k x → Of (sort.Set k) a → Has (standing_by o x) t → Is t
  standing_made k x a t (Some us) e h i m =
      let q = map-Has (equal_term x) us t m in
      subst Is q.2 (equated d env literals k x q.0 h (written_made d env literals k a us q.0 i e q.1))
  standing_made k x a t None e h i m = absurd m

  within_made : (k : Sort) (a b t : Tree) (o : Option (List Tree)) → written a ≡ o → Of (sort.Set k) a → Of (sort.Set k) b → Has (within_by o a b) t → Is t
  within_made k a b t (Some us) e h i m = memberships_made k us b t (λ u n. written_made d env literals k a us u h e n) i m
  within_made k a b t None e h i m = picked_made k (two binary.DifferencePick a b) a b t (judged.of_pick binary.DifferencePick k a b judged.difference h i) h i m

  common_made : (k : Sort) (a b t : Tree) (o p : Option (List Tree)) → written a ≡ o → written b ≡ p → Of (sort.Set k) a → Of (sort.Set k) b → Has (common_by o p a b) t → Is t
  common_made k a b t (Some us) p e f h i m = memberships_made k us b t (λ u n. written_made d env literals k a us u h e n) i m
  common_made k a b t None (Some us) e f h i m = memberships_made k us a t (λ u n. written_made d env literals k b us u i f n) h m
  common_made k a b t None None e f h i m = picked_made k (two binary.CommonPick a b) a b t (judged.of_pick binary.CommonPick k a b judged.intersection h i) h i m

  beside_of : (k : Sort) (x t : Tree) → Of k x → Has (beside d x) t → Is t
  beside_of _ _ t (judged.of_truth b) m = absurd m
  beside_of _ _ t (judged.of_number n f) m = absurd m
  beside_of _ _ t (judged.of_text u f) m = absurd m
  beside_of _ _ t (judged.of_decimal_number n f) m = absurd m
  beside_of _ _ t (judged.of_address ip f) m = absurd m
  beside_of _ _ t (judged.of_uid u f) m = absurd m
  beside_of _ _ t (judged.of_default name f g) m = absurd m
  beside_of _ _ t (judged.of_none k f) m = absurd m
  beside_of _ _ t judged.of_principal m = absurd m
  beside_of _ _ t judged.of_resource m = absurd m
  beside_of _ _ t (judged.of_context u f) m = absurd m
  beside_of _ _ t (judged.of_not a h s) m = absurd m
  beside_of _ _ t (judged.of_and a b h i s) m = absurd m
  beside_of _ _ t (judged.of_or a b h i s) m = absurd m
  beside_of _ _ t (judged.of_choice k c a b h i j s) m = two_made k (choice c a b) a b t (judged.of_choice k c a b h i j s) i j (branches_two (out-Sort (tree_sort a)) (choice c a b) a b t m)
  beside_of _ _ t (judged.of_equal k a b h i s) m = equations_made (out-Sort (tree_sort a)) k a b t (ap out-Sort (sym (sort_is d env literals k a h))) h i m
  beside_of _ _ t (judged.of_arithmetic _ a b (judged.of_sum _ judged.addition) h i) m = absurd m
  beside_of _ _ t (judged.of_arithmetic _ a b (judged.of_sum _ judged.subtraction) h i) m = absurd m
  beside_of _ _ t (judged.of_arithmetic _ a b judged.multiplication h i) m = absurd m
  beside_of _ _ t (judged.of_overflow _ a b judged.addition_overflow h i) m = absurd m
  beside_of _ _ t (judged.of_overflow _ a b judged.subtraction_overflow h i) m = absurd m
  beside_of _ _ t (judged.of_overflow _ a b judged.multiplication_overflow h i) m = absurd m
  beside_of _ _ t (judged.of_less k a b f h i) m = absurd m
  beside_of _ _ t (judged.of_bit k i a f h s) m = absurd m
  beside_of _ _ t (judged.of_in_range a b h i) m = absurd m
  beside_of _ _ t (judged.of_carry o i a b f g h) m = absurd m
  beside_of _ _ t (judged.of_low k i a b f g h j) m = absurd m
  beside_of _ _ t (judged.of_row i j a b f g h) m = absurd m
  beside_of _ _ t (judged.of_product_carry i j a b f g h) m = absurd m
  beside_of _ _ t (judged.of_attributes name u a f h) m = absurd m
  beside_of _ _ t (judged.of_ancestors name above names a f g h) m = ancestors_made name above names f g a t h m
  beside_of _ _ t (judged.of_keys name u a f h) m = absurd m
  beside_of _ _ t (judged.of_tag name u a k f h i) m = tag_made name u a k t f h i m
  beside_of _ _ t (judged.of_field fs name k a h l s) m = absurd m
  beside_of _ _ t (judged.of_record fs ts f hs) m = absurd m
  beside_of _ _ t (judged.of_set k ts f hs) m = absurd m
  beside_of _ _ t (judged.of_present k a h s) m = absurd m
  beside_of _ _ t (judged.of_held k a h s) m = absurd m
  beside_of _ _ t (judged.of_member k x a h i) m = standing_made k x a t (written a) refl h i m
  beside_of _ _ t (judged.of_sets _ k a b judged.subset_test h i) m = within_made k a b t (written a) refl h i m
  beside_of _ _ t (judged.of_sets _ k a b judged.common_test h i) m = common_made k a b t (written a) (written b) refl refl h i m
  beside_of _ _ t (judged.of_pick _ k a b judged.difference h i) m = absurd m
  beside_of _ _ t (judged.of_pick _ k a b judged.intersection h i) m = absurd m
  beside_of _ _ t (judged.of_like p a h s) m = absurd m

  pub beside_made : (x t : Tree) → Is x → Has (beside d x) t → Is t
  beside_made x t h m = beside_of (tree_sort x) x t h m
