-- Candidates, sets, flows and ancestors that are taken in, with what goes with each.
use Rattle.std.proofs.Common.{◌≡◌, ◌⊎◌, inl, inr, ⊎_elim, Bool, true, List, [], ◌∷◌, ◌++◌, map, flat_map, refl, sym, ap, ◌∙◌, subst}
use Rattle.sc_lists.proofs.MemberLaws.{Has-left, Has-right, Has-append, Has-last, Has-push, Has-map, map-Has, Has-flat_map, flat_map-Has}
use Rattle.sc_lists.specs.Members.{Has}
use Rattle.sc_sorts.specs.declared.sort.Sort.{Sort}
use Rattle.sc_sorts.specs.declared.node.Node.{Node}
use Rattle.sc_sorts.specs.declared.node.UnaryOp.TheVariants as unary
use Rattle.sc_terms.specs.Order.{tree_eq}
use Rattle.sc_terms.specs.Trees.{Tree, one}
use Rattle.sc_terms.specs.Tables.{tree}
use Rattle.sc_terms.specs.Folds.{equal_term}
use Rattle.sc_terms.proofs.OrderLaws.{tree_eq-exact, tree_eq-itself}
use Rattle.sc_rule_laws.specs.Terms.{member}
use Rattle.sc_closure_rules.specs.Making.{stood}
use Rattle.sc_closure_rules.specs.Closure.{Role, named, candidate, set, flow, above, pattern, meet, equated_by, members_by, memberships, are_linked, ancestors_of, ancestors_up}
use Rattle.sc_closure_rules.proofs.MetLaws.{equated_is, member_is}
use Rattle.sc_candidates.specs.declared.crowds.Crowd.{Crowd}
use Rattle.sc_candidates.specs.Crowds.{HasCandidate, HasTarget, JoinsCandidate, JoinsTarget, met_crowd, crowd_told, linked_told, set_of, set_told, flow_of, flow_told}
use Rattle.sc_candidates.specs.Ancestors.{up_of, entity_of, both_told, ups_of, entity_told}
use Rattle.sc_candidates.specs.Kins.{HasKin, AreKins}
use Rattle.sc_candidates.proofs.DividedLaws.{where_in, in_where}
use Rattle.sc_closure.specs.declared.roles.Roles.{Roles}
use Rattle.sc_closure.specs.Following.{Held, GoesWith, TakesIn}
use Rattle.sc_closure.proofs.HeldLaws.{is_equated, is_member}
use Rattle.sc_closure.proofs.TakingLaws.{takes_one, takes_new}

-- ---- roles of which one kind is of others

abbrev pub but_crowds : Roles → Roles → Roles
but_crowds r t = record { named = r.named; crowds = t.crowds; kins = t.kins; sets = r.sets; above = r.above; patterns = r.patterns }

abbrev pub but_sets : Roles → Roles → Roles
but_sets r t = record { named = r.named; crowds = r.crowds; kins = r.kins; sets = t.sets; above = r.above; patterns = r.patterns }

abbrev pub but_above : Roles → Roles → Roles
but_above r t = record { named = r.named; crowds = r.crowds; kins = r.kins; sets = r.sets; above = t.above; patterns = r.patterns }

-- ---- what crowds tell of a candidate of a set

module _ (xs : List Node) (crowds : List Crowd) (x s : Tree) where
  -- its equation with another of the set, and its membership in a target of the set
  pub crowds_equation : (y : Tree) → HasCandidate xs crowds y s → Has (flat_map (crowd_told xs x s) crowds) (equal_term y x)
  crowds_equation y h =
      Has-flat_map (crowd_told xs x s) crowds h.crowd (equal_term y x) h.there
      (in_where (tree_eq (tree xs h.crowd.set) s) (met_crowd xs x h.crowd) (equal_term y x) (subst (λ t. tree_eq (tree xs h.crowd.set) t ≡ true) h.of_set (tree_eq-itself (tree xs h.crowd.set)))
      (Has-left (map (λ y. equal_term y x) (stood xs h.crowd.members)) (map (member x) (stood xs h.crowd.targets)) (equal_term y x) (Has-map (λ y. equal_term y x) (stood xs h.crowd.members) y h.among)))

  pub crowds_membership : (t : Tree) → HasTarget xs crowds s t → Has (flat_map (crowd_told xs x s) crowds) (member x t)
  crowds_membership t h =
      Has-flat_map (crowd_told xs x s) crowds h.crowd (member x t) h.there
      (in_where (tree_eq (tree xs h.crowd.set) s) (met_crowd xs x h.crowd) (member x t) (subst (λ u. tree_eq (tree xs h.crowd.set) u ≡ true) h.of_set (tree_eq-itself (tree xs h.crowd.set)))
      (Has-right (map (λ y. equal_term y x) (stood xs h.crowd.members)) (map (member x) (stood xs h.crowd.targets)) (member x t) (Has-map (member x) (stood xs h.crowd.targets) t h.among)))

  -- and nothing else
  pub crowds_only : (z : Tree) → Has (flat_map (crowd_told xs x s) crowds) z
      → ((y : Tree) × HasCandidate xs crowds y s × (equal_term y x ≡ z)) ⊎ ((t : Tree) × HasTarget xs crowds s t × (member x t ≡ z))
  crowds_only z h =
      let c = flat_map-Has (crowd_told xs x s) crowds z h in
      let w = where_in (tree_eq (tree xs c.0.set) s) (met_crowd xs x c.0) z c.2 in
      let same = tree_eq-exact (tree xs c.0.set) s w.0 in
      ⊎_elim
      (λ i. let y = map-Has (λ y. equal_term y x) (stood xs c.0.members) z i in inl (y.0, record { crowd = c.0; there = c.1; of_set = same; among = y.1 }, y.2))
      (λ i. let t = map-Has (member x) (stood xs c.0.targets) z i in inr (t.0, record { crowd = c.0; there = c.1; of_set = same; among = t.1 }, t.2))
      (Has-append (map (λ y. equal_term y x) (stood xs c.0.members)) (map (member x) (stood xs c.0.targets)) z w.1)

-- ---- what sets tell of a candidate of a set

module _ (x s : Tree) (ts : List Tree) where
  pub linked_there : (t : Tree) → Has ts t → are_linked s t ≡ true → Has (linked_told x s ts) (member x t)
  linked_there t h e = Has-flat_map (λ t. members_by (are_linked s t) x t) ts t (member x t) h (is_member (are_linked s t) x t e)

  pub linked_only : (z : Tree) → Has (linked_told x s ts) z → (t : Tree) × Has ts t × (are_linked s t ≡ true) × (member x t ≡ z)
  linked_only z h =
      let t = flat_map-Has (λ t. members_by (are_linked s t) x t) ts z h in
      let q = member_is (are_linked s t.0) x t.0 z t.2 in
      (t.0, t.1, q.0, q.1)

  -- and ancestors of entities
  pub up_there : (own : Sort) (e z : Tree) → Has ts (ancestors_of own e) → Has (ancestors_up x s own e) z → Has (flat_map (up_of x s) ts) z
  up_there own e z h m = Has-flat_map (up_of x s) ts (ancestors_of own e) z h m

  is_above : (a z : Tree) → Has (up_of x s a) z → (own : Sort) × (e : Tree) × (a ≡ ancestors_of own e) × Has (ancestors_up x s own e) z
  is_above (one (unary.Ancestors own) e) z m = (own, e, refl, m)
  is_above _ z m = absurd m

  pub up_only : (z : Tree) → Has (flat_map (up_of x s) ts) z → (own : Sort) × (e : Tree) × Has ts (ancestors_of own e) × Has (ancestors_up x s own e) z
  up_only z h =
      let a = flat_map-Has (up_of x s) ts z h in
      let r = is_above a.0 z a.2 in
      (r.0, r.1, subst (Has ts) r.2 a.1, r.3)

-- ---- a candidate

module _ (turned : (x y : Tree) → equal_term x y ≡ equal_term y x) (xs : List Node) (r t : Roles) (x s : Tree) (j : JoinsCandidate xs r.crowds.items t.crowds.items x s) where
  abbrev first_part : List Tree
  first_part = flat_map (crowd_told xs x s) t.crowds.items

  abbrev second_part : List Tree
  second_part = linked_told x s (stood xs r.sets)

  abbrev third_part : List Tree
  third_part = flat_map (up_of x s) (stood xs r.above)

  abbrev told : List Tree
  told = first_part ++ (second_part ++ third_part)

  old : (q : Role) → Held xs r q → Held xs (but_crowds r t) q
  old (named y) h = h
  old (candidate y u) h = j.old_candidate y u h
  old (set y) h = h
  old (flow y u) h = j.old_target y u h
  old (above own e) h = h
  old (pattern ps) h = h

  only : (q : Role) → Held xs (but_crowds r t) q → Held xs r q ⊎ (candidate x s ≡ q)
  only (named y) h = inl h
  only (candidate y u) h = ⊎_elim inl (λ e. inr (λ i. candidate (e.0 i) (e.1 i))) (j.only_candidate y u h)
  only (set y) h = inl h
  only (flow y u) h = inl (j.only_target y u h)
  only (above own e) h = inl h
  only (pattern ps) h = inl h

  -- by another candidate of the set, and by a set to which it flows
  equated_forth : (y u z : Tree) → HasCandidate xs t.crowds.items y u → Has (equated_by (tree_eq s u) x y) z → Has first_part z
  equated_forth y u z h m =
      let q = equated_is (tree_eq s u) x y z m in
      let same = tree_eq-exact s u q.0 in
      subst (Has first_part) (turned y x ∙ q.1) (crowds_equation xs t.crowds.items x s y (subst (HasCandidate xs t.crowds.items y) (sym same) h))

  equated_back : (y u z : Tree) → HasCandidate xs t.crowds.items y u → Has (equated_by (tree_eq u s) y x) z → Has first_part z
  equated_back y u z h m =
      let q = equated_is (tree_eq u s) y x z m in
      let same = tree_eq-exact u s q.0 in
      subst (Has first_part) q.1 (crowds_equation xs t.crowds.items x s y (subst (HasCandidate xs t.crowds.items y) same h))

  flowing_to : (y u z : Tree) → HasTarget xs t.crowds.items y u → Has (members_by (tree_eq s y) x u) z → Has first_part z
  flowing_to y u z h m =
      let q = member_is (tree_eq s y) x u z m in
      let same = tree_eq-exact s y q.0 in
      subst (Has first_part) q.1 (crowds_membership xs t.crowds.items x s u (subst (λ v. HasTarget xs t.crowds.items v u) (sym same) h))

  in_crowds : (z : Tree) → Has first_part z → (q : Role) × Held xs (but_crowds r t) q × (Has (meet (candidate x s) q) z ⊎ Has (meet q (candidate x s)) z)
  in_crowds z i = ⊎_elim
      (λ y. (candidate y.0 s, y.1, inr (subst (Has (equated_by (tree_eq s s) y.0 x)) y.2 (is_equated (tree_eq s s) y.0 x (tree_eq-itself s)))))
      (λ u. (flow s u.0, u.1, inl (subst (Has (members_by (tree_eq s s) x u.0)) u.2 (is_member (tree_eq s s) x u.0 (tree_eq-itself s)))))
      (crowds_only xs t.crowds.items x s z i)

  -- one that is new
  forth : (q : Role) (z : Tree) → Held xs (but_crowds r t) q → Has (meet (candidate x s) q) z → Has told z
  forth (candidate y u) z h m = Has-left first_part (second_part ++ third_part) z (equated_forth y u z h m)
  forth (flow y u) z h m = Has-left first_part (second_part ++ third_part) z (flowing_to y u z h m)
  forth (set u) z h m =
      let q = member_is (are_linked s u) x u z m in
      Has-right first_part (second_part ++ third_part) z
      (Has-left second_part third_part z (subst (Has second_part) q.1 (linked_there x s (stood xs r.sets) u h q.0)))
  forth (above own e) z h m =
      Has-right first_part (second_part ++ third_part) z (Has-right second_part third_part z (up_there x s (stood xs r.above) own e z h m))
  forth (named y) z h m = absurd m
  forth (pattern ps) z h m = absurd m

  back : (q : Role) (z : Tree) → Held xs (but_crowds r t) q → Has (meet q (candidate x s)) z → Has first_part z
  back (candidate y u) z h m = equated_back y u z h m
  back (named y) z h m = absurd m
  back (set u) z h m = absurd m
  back (flow y u) z h m = absurd m
  back (above own e) z h m = absurd m
  back (pattern ps) z h m = absurd m

  sound : (z : Tree) → Has told z → (q : Role) × Held xs (but_crowds r t) q × (Has (meet (candidate x s) q) z ⊎ Has (meet q (candidate x s)) z)
  sound z h = ⊎_elim (in_crowds z) (λ k. ⊎_elim in_sets in_above (Has-append second_part third_part z k)) (Has-append first_part (second_part ++ third_part) z h)
    where
      in_sets : Has second_part z → (q : Role) × Held xs (but_crowds r t) q × (Has (meet (candidate x s) q) z ⊎ Has (meet q (candidate x s)) z)
      in_sets i =
          let u = linked_only x s (stood xs r.sets) z i in
          (set u.0, u.1, inl (subst (Has (members_by (are_linked s u.0) x u.0)) u.3 (is_member (are_linked s u.0) x u.0 u.2)))

      in_above : Has third_part z → (q : Role) × Held xs (but_crowds r t) q × (Has (meet (candidate x s) q) z ⊎ Has (meet q (candidate x s)) z)
      in_above i = let a = up_only x s (stood xs r.above) z i in (above a.0 a.1, a.2, inl a.3)

  pub candidate_taken : TakesIn (Held xs r) (Held xs (but_crowds r t)) (candidate x s ∷ []) told
  candidate_taken =
      takes_one (Held xs r) (Held xs (but_crowds r t)) (candidate x s) told old j.there only sound forth
      (λ q z h m. Has-left first_part (second_part ++ third_part) z (back q z h m))

  -- One that is a candidate of a set of its kin: of which linked sets, and of which ancestors, it is one too has been told.
  module _ (k : HasKin xs r.crowds.items x s) where
    forth_known : (q : Role) (z : Tree) → Held xs (but_crowds r t) q → Has (meet (candidate x s) q) z → GoesWith (Held xs r) z ⊎ Has first_part z
    forth_known (candidate y u) z h m = inr (equated_forth y u z h m)
    forth_known (flow y u) z h m = inr (flowing_to y u z h m)
    forth_known (set u) z h m = inl (candidate x k.kin, set u, k.has, h, subst (λ (b : Bool). Has (members_by b x u) z) (sym (k.are.links u)) m)
    forth_known (above own e) z h m = inl (candidate x k.kin, above own e, k.has, h, subst (λ (ts : List Tree). Has ts z) (sym (k.are.ups x own e)) m)
    forth_known (named y) z h m = absurd m
    forth_known (pattern ps) z h m = absurd m

    pub known_taken : TakesIn (Held xs r) (Held xs (but_crowds r t)) (candidate x s ∷ []) first_part
    known_taken = takes_new (Held xs r) (Held xs (but_crowds r t)) (candidate x s) first_part old j.there only in_crowds forth_known (λ q z h m. inr (back q z h m))

-- ---- a set

module _ (xs : List Node) (r t : Roles) (kins : AreKins xs r.crowds.items r.kins.items) (own : Tree) (all : stood xs t.sets ≡ stood xs r.sets ++ own ∷ []) where
  abbrev members : List Tree
  members = set_told xs own r.kins.items

  old_set : (q : Role) → Held xs r q → Held xs (but_sets r t) q
  old_set (set y) h = subst (λ (ts : List Tree). Has ts y) (sym all) (Has-left (stood xs r.sets) (own ∷ []) y h)
  old_set (named y) h = h
  old_set (candidate y u) h = h
  old_set (flow y u) h = h
  old_set (above k e) h = h
  old_set (pattern ps) h = h

  only_set : (q : Role) → Held xs (but_sets r t) q → Held xs r q ⊎ (set own ≡ q)
  only_set (set y) h = ⊎_elim inl (λ e. inr (ap set e)) (Has-push (stood xs r.sets) own y (subst (λ (ts : List Tree). Has ts y) all h))
  only_set (named y) h = inl h
  only_set (candidate y u) h = inl h
  only_set (flow y u) h = inl h
  only_set (above k e) h = inl h
  only_set (pattern ps) h = inl h

  back_set : (q : Role) (z : Tree) → Held xs (but_sets r t) q → Has (meet q (set own)) z → Has members z
  back_set (candidate y u) z h m =
      let q = member_is (are_linked u own) y own z m in
      let k = kins.there y u h in
      let c = k.has.crowd in
      Has-flat_map (set_of xs own) r.kins.items c z k.has.there
      (in_where (are_linked (tree xs c.set) own) (memberships (stood xs c.members) own) z (ap (λ v. are_linked v own) k.has.of_set ∙ k.are.links own ∙ q.0)
      (subst (Has (memberships (stood xs c.members) own)) q.1 (Has-map (λ v. member v own) (stood xs c.members) y k.has.among)))
  back_set (named y) z h m = absurd m
  back_set (set y) z h m = absurd m
  back_set (flow y u) z h m = absurd m
  back_set (above k e) z h m = absurd m
  back_set (pattern ps) z h m = absurd m

  sound_set : (z : Tree) → Has members z → (q : Role) × Held xs (but_sets r t) q × (Has (meet (set own) q) z ⊎ Has (meet q (set own)) z)
  sound_set z h =
      let c = flat_map-Has (set_of xs own) r.kins.items z h in
      let w = where_in (are_linked (tree xs c.0.set) own) (memberships (stood xs c.0.members) own) z c.2 in
      let y = map-Has (λ v. member v own) (stood xs c.0.members) z w.1 in
      let k = kins.only y.0 (tree xs c.0.set) (record { crowd = c.0; there = c.1; of_set = refl; among = y.1 }) in
      (candidate y.0 k.kin, k.has, inr (subst (Has (members_by (are_linked k.kin own) y.0 own)) y.2 (is_member (are_linked k.kin own) y.0 own (k.are.links own ∙ w.0))))

  pub set_taken : TakesIn (Held xs r) (Held xs (but_sets r t)) (set own ∷ []) members
  set_taken =
      takes_one (Held xs r) (Held xs (but_sets r t)) (set own) members old_set (subst (λ (ts : List Tree). Has ts own) (sym all) (Has-last (stood xs r.sets) own)) only_set sound_set (λ q z h m. absurd m) back_set

-- ---- a flow

module _ (xs : List Node) (r t : Roles) (s u : Tree) (j : JoinsTarget xs r.crowds.items t.crowds.items s u) where
  abbrev flowing : List Tree
  flowing = flow_told xs s u t.crowds.items

  old_flow : (q : Role) → Held xs r q → Held xs (but_crowds r t) q
  old_flow (named y) h = h
  old_flow (candidate y v) h = j.old_candidate y v h
  old_flow (set y) h = h
  old_flow (flow y v) h = j.old_target y v h
  old_flow (above k e) h = h
  old_flow (pattern ps) h = h

  only_flow : (q : Role) → Held xs (but_crowds r t) q → Held xs r q ⊎ (flow s u ≡ q)
  only_flow (named y) h = inl h
  only_flow (candidate y v) h = inl (j.only_candidate y v h)
  only_flow (set y) h = inl h
  only_flow (flow y v) h = ⊎_elim inl (λ e. inr (λ i. flow (e.0 i) (e.1 i))) (j.only_target y v h)
  only_flow (above k e) h = inl h
  only_flow (pattern ps) h = inl h

  back_flow : (q : Role) (z : Tree) → Held xs (but_crowds r t) q → Has (meet q (flow s u)) z → Has flowing z
  back_flow (candidate y v) z h m =
      let q = member_is (tree_eq v s) y u z m in
      Has-flat_map (flow_of xs s u) t.crowds.items h.crowd z h.there
      (in_where (tree_eq (tree xs h.crowd.set) s) (memberships (stood xs h.crowd.members) u) z (ap (λ w. tree_eq w s) h.of_set ∙ q.0)
      (subst (Has (memberships (stood xs h.crowd.members) u)) q.1 (Has-map (λ w. member w u) (stood xs h.crowd.members) y h.among)))
  back_flow (named y) z h m = absurd m
  back_flow (set y) z h m = absurd m
  back_flow (flow y v) z h m = absurd m
  back_flow (above k e) z h m = absurd m
  back_flow (pattern ps) z h m = absurd m

  sound_flow : (z : Tree) → Has flowing z → (q : Role) × Held xs (but_crowds r t) q × (Has (meet (flow s u) q) z ⊎ Has (meet q (flow s u)) z)
  sound_flow z h =
      let c = flat_map-Has (flow_of xs s u) t.crowds.items z h in
      let w = where_in (tree_eq (tree xs c.0.set) s) (memberships (stood xs c.0.members) u) z c.2 in
      let y = map-Has (λ v. member v u) (stood xs c.0.members) z w.1 in (
        candidate y.0 (tree xs c.0.set),
        record { crowd = c.0; there = c.1; of_set = refl; among = y.1 },
        inr (subst (Has (members_by (tree_eq (tree xs c.0.set) s) y.0 u)) y.2 (is_member (tree_eq (tree xs c.0.set) s) y.0 u w.0)),
      )

  pub flow_taken : TakesIn (Held xs r) (Held xs (but_crowds r t)) (flow s u ∷ []) flowing
  flow_taken = takes_one (Held xs r) (Held xs (but_crowds r t)) (flow s u) flowing old_flow j.there only_flow sound_flow (λ q z h m. absurd m) back_flow

-- ---- the ancestors of an entity

module _ (xs : List Node) (r t : Roles) (kins : AreKins xs r.crowds.items r.kins.items) (own : Sort) (e : Tree) (all : stood xs t.above ≡ stood xs r.above ++ ancestors_of own e ∷ []) where
  abbrev here : Tree
  here = ancestors_of own e

  abbrev pairs : List Tree
  pairs = flat_map (both_told (ancestors_of own e)) (stood xs t.above)

  abbrev ups : List Tree
  ups = flat_map (ups_of xs (ancestors_of own e)) r.kins.items

  old_above : (q : Role) → Held xs r q → Held xs (but_above r t) q
  old_above (above k f) h = subst (λ (ts : List Tree). Has ts (ancestors_of k f)) (sym all) (Has-left (stood xs r.above) (ancestors_of own e ∷ []) (ancestors_of k f) h)
  old_above (named y) h = h
  old_above (candidate y u) h = h
  old_above (set y) h = h
  old_above (flow y u) h = h
  old_above (pattern ps) h = h

  same_role : (k : Sort) (f : Tree) → ancestors_of own e ≡ ancestors_of k f → above own e ≡ above k f
  same_role k f h = ap role_of h
    where
      role_of : Tree → Role
      role_of (one (unary.Ancestors j) g) = above j g
      role_of x = above own x

  only_above : (q : Role) → Held xs (but_above r t) q → Held xs r q ⊎ (above own e ≡ q)
  only_above (above k f) h =
      ⊎_elim inl (λ i. inr (same_role k f i)) (Has-push (stood xs r.above) (ancestors_of own e) (ancestors_of k f) (subst (λ (ts : List Tree). Has ts (ancestors_of k f)) all h))
  only_above (named y) h = inl h
  only_above (candidate y u) h = inl h
  only_above (set y) h = inl h
  only_above (flow y u) h = inl h
  only_above (pattern ps) h = inl h

  forth_above : (q : Role) (z : Tree) → Held xs (but_above r t) q → Has (meet (above own e) q) z → Has (pairs ++ ups) z
  forth_above (above k f) z h m =
      Has-left pairs ups z (Has-flat_map (both_told (ancestors_of own e)) (stood xs t.above) (ancestors_of k f) z h
      (Has-left (entity_of (ancestors_of own e) (ancestors_of k f)) (entity_of (ancestors_of k f) (ancestors_of own e)) z m))
  forth_above (named y) z h m = absurd m
  forth_above (candidate y u) z h m = absurd m
  forth_above (set y) z h m = absurd m
  forth_above (flow y u) z h m = absurd m
  forth_above (pattern ps) z h m = absurd m

  back_above : (q : Role) (z : Tree) → Held xs (but_above r t) q → Has (meet q (above own e)) z → Has (pairs ++ ups) z
  back_above (above k f) z h m =
      Has-left pairs ups z (Has-flat_map (both_told (ancestors_of own e)) (stood xs t.above) (ancestors_of k f) z h
      (Has-right (entity_of (ancestors_of own e) (ancestors_of k f)) (entity_of (ancestors_of k f) (ancestors_of own e)) z m))
  back_above (candidate y u) z h m =
      let k = kins.there y u h in
      let c = k.has.crowd in
      Has-right pairs ups z (Has-flat_map (ups_of xs (ancestors_of own e)) r.kins.items c z k.has.there
      (Has-flat_map (λ x. up_of x (tree xs c.set) (ancestors_of own e)) (stood xs c.members) y z k.has.among
      (subst (λ v. Has (ancestors_up y v own e) z) (sym k.has.of_set) (subst (λ (ts : List Tree). Has ts z) (sym (k.are.ups y own e)) m))))
  back_above (named y) z h m = absurd m
  back_above (set y) z h m = absurd m
  back_above (flow y u) z h m = absurd m
  back_above (pattern ps) z h m = absurd m

  two_above : (b z : Tree) → Has (stood xs t.above) b → Has (entity_of (ancestors_of own e) b ++ entity_of b (ancestors_of own e)) z
      → (q : Role) × Held xs (but_above r t) q × (Has (meet (above own e) q) z ⊎ Has (meet q (above own e)) z)
  two_above (one (unary.Ancestors k) f) z h m =
      (above k f, h, ⊎_elim inl inr (Has-append (entity_of (ancestors_of own e) (ancestors_of k f)) (entity_of (ancestors_of k f) (ancestors_of own e)) z m))
  two_above _ z h m = absurd m

  sound_above : (z : Tree) → Has (pairs ++ ups) z → (q : Role) × Held xs (but_above r t) q × (Has (meet (above own e) q) z ⊎ Has (meet q (above own e)) z)
  sound_above z h = ⊎_elim in_pairs in_ups (Has-append pairs ups z h)
    where
      in_pairs : Has pairs z → (q : Role) × Held xs (but_above r t) q × (Has (meet (above own e) q) z ⊎ Has (meet q (above own e)) z)
      in_pairs i = let b = flat_map-Has (both_told (ancestors_of own e)) (stood xs t.above) z i in two_above b.0 z b.1 b.2

      in_ups : Has ups z → (q : Role) × Held xs (but_above r t) q × (Has (meet (above own e) q) z ⊎ Has (meet q (above own e)) z)
      in_ups i =
          let c = flat_map-Has (ups_of xs (ancestors_of own e)) r.kins.items z i in
          let x = flat_map-Has (λ x. up_of x (tree xs c.0.set) (ancestors_of own e)) (stood xs c.0.members) z c.2 in
          let k = kins.only x.0 (tree xs c.0.set) (record { crowd = c.0; there = c.1; of_set = refl; among = x.1 }) in
          (candidate x.0 k.kin, k.has, inr (subst (λ (ts : List Tree). Has ts z) (sym (k.are.ups x.0 own e)) x.2))

  pub above_taken : TakesIn (Held xs r) (Held xs (but_above r t)) (above own e ∷ []) (entity_told xs r.kins.items (stood xs t.above) (ancestors_of own e))
  above_taken =
      takes_one (Held xs r) (Held xs (but_above r t)) (above own e) (pairs ++ ups) old_above (subst (λ (ts : List Tree). Has ts (ancestors_of own e)) (sym all) (Has-last (stood xs r.above) (ancestors_of own e)))
      only_above sound_above forth_above back_above
