-- Candidates, sets, flows and ancestors that are taken in by numbers, while the table grows.
use Rattle.std.proofs.Common.{◌≡◌, ⊎_elim, ℕ, ◌<◌, List, [], ◌∷◌, ◌++◌, flat_map, length, sym, ap, ◌∙◌, subst}
use Rattle.std.proofs.lemmas.List.{map-append}
use Rattle.std.specs.Cmp.{IsTotalOrder}
use Rattle.std.specs.List.{AllByRecursion}
use Rattle.sc_lists.specs.Members.{Has}
use Rattle.sc_sorts.specs.declared.node.Node.{Node}
use Rattle.sc_terms.specs.Order.{tree_cmp}
use Rattle.sc_terms.specs.Trees.{Tree}
use Rattle.sc_terms.specs.Tables.{tree}
use Rattle.sc_terms.proofs.EqualLaws.{equal_turned}
use Rattle.sc_terms.proofs.TableLaws.{keeps_then}
use Rattle.sc_closure_rules.specs.Making.{Puts, stood}
use Rattle.sc_closure_rules.proofs.MakingLaws.{stood_later, puts_then, puts_same}
use Rattle.sc_closure_rules.proofs.MemberLaws.{within_push}
use Rattle.sc_closure_rules.specs.Closure.{Role, candidate, set, flow, above, roles_in, ancestors_of}
use Rattle.sc_closure.specs.declared.roles.Roles.{Roles}
use Rattle.sc_candidates.specs.Ancestors.{IsAbove, up_of, entity_told}
use Rattle.sc_candidates.specs.Equations.{Equates}
use Rattle.sc_candidates.specs.Kins.{HasKin, AreKins}
use Rattle.sc_candidates.proofs.KinLaws.{kins_same, known_of}
use Rattle.sc_candidates.specs.Crowds.{JoinsCandidate, JoinsTarget, crowd_told, linked_told, set_told, flow_told}
use Rattle.sc_closure.specs.Following.{Held, AreRoles, Takes}
use Rattle.sc_closure.proofs.CrowdLaws.{but_crowds, but_sets, but_above, crowds_equation, candidate_taken, known_taken, set_taken, flow_taken, above_taken}
use Rattle.sc_closure.proofs.HeldLaws.{taken_put, takes_same, told_back, told_forth}

-- ---- a candidate of a set

module _ (total : IsTotalOrder tree_cmp) (xs : List Node) (r t : Roles) (are : AreRoles xs r) (n s : ℕ) (j : JoinsCandidate xs r.crowds.items t.crowds.items (tree xs n) (tree xs s))
    (kins : AreKins xs t.crowds.items t.kins.items) where
  candidate_roles : AreRoles xs (but_crowds r t)
  candidate_roles = record { of_named = are.of_named; of_crowds = j.are are.of_crowds; of_kins = kins; of_sets = are.of_sets; of_above = are.of_above; of_patterns = are.of_patterns }

  abbrev in_crowds : List Tree
  in_crowds = flat_map (crowd_told xs (tree xs n) (tree xs s)) t.crowds.items

  abbrev in_sets : List Tree
  in_sets = linked_told (tree xs n) (tree xs s) (stood xs r.sets)

  abbrev in_above : List Tree
  in_above = flat_map (up_of (tree xs n) (tree xs s)) (stood xs r.above)

  pub candidate_takes : (ys zs ws : List Node) (ls ms ns ks : List ℕ) → n < length xs → s < length xs → Equates xs ys ls ms in_crowds (tree xs n) → Puts ys zs ms ns (linked_told (tree ys n) (tree ys s) (stood ys r.sets))
      → Puts zs ws ns ks (flat_map (up_of (tree zs n) (tree zs s)) (stood zs r.above)) → Takes xs ws r (but_crowds r t) (candidate (tree xs n) (tree xs s) ∷ []) ls ks
  candidate_takes ys zs ws ls ms ns ks n_in s_in p q u =
      let first = p.puts.kept in
      let second = keeps_then xs ys zs first q.kept in
      let own = crowds_equation xs t.crowds.items (tree xs n) (tree xs s) (tree xs n) j.there in
      let n_first = first.same n n_in in
      let s_first = first.same s s_in in
      let n_second = second.same n n_in in
      let s_second = second.same s s_in in
      let sets = stood_later xs ys first r.sets are.of_sets in
      let all = stood_later xs zs second r.above are.of_above in
      taken_put xs ws r (but_crowds r t) (candidate (tree xs n) (tree xs s) ∷ []) ls ks (p.told ++ (in_sets ++ in_above)) candidate_roles
      (takes_same (Held xs r) (Held xs (but_crowds r t)) (candidate (tree xs n) (tree xs s) ∷ []) (in_crowds ++ (in_sets ++ in_above)) (p.told ++ (in_sets ++ in_above))
      (told_back xs ys ls ms in_crowds (tree xs n) p own (in_sets ++ in_above)) (told_forth xs ys ls ms in_crowds (tree xs n) p (in_sets ++ in_above))
      (candidate_taken (equal_turned total) xs r t (tree xs n) (tree xs s) j))
      (puts_then xs ys ws ls ms ks p.told (in_sets ++ in_above) p.puts
      (puts_then ys zs ws ms ns ks in_sets in_above
      (puts_same ys zs ms ns (linked_told (tree ys n) (tree ys s) (stood ys r.sets)) in_sets (λ i. linked_told (n_first i) (s_first i) (sets i)) q)
      (puts_same zs ws ns ks (flat_map (up_of (tree zs n) (tree zs s)) (stood zs r.above)) in_above (λ i. flat_map (up_of (n_second i) (s_second i)) (all i)) u)))

  -- one that is a candidate of a set of its kin
  pub known_takes : (ys : List Node) (ls ms : List ℕ) → HasKin xs r.kins.items (tree xs n) (tree xs s) → Equates xs ys ls ms in_crowds (tree xs n) → Takes xs ys r (but_crowds r t) (candidate (tree xs n) (tree xs s) ∷ []) ls ms
  known_takes ys ls ms known p =
      let own = crowds_equation xs t.crowds.items (tree xs n) (tree xs s) (tree xs n) j.there in
      taken_put xs ys r (but_crowds r t) (candidate (tree xs n) (tree xs s) ∷ []) ls ms p.told candidate_roles
      (takes_same (Held xs r) (Held xs (but_crowds r t)) (candidate (tree xs n) (tree xs s) ∷ []) in_crowds p.told
      (λ z h. ⊎_elim (λ i. i) (λ e. subst (Has in_crowds) e own) (p.only z h)) p.whole
      (known_taken (equal_turned total) xs r t (tree xs n) (tree xs s) j (known_of xs r.crowds.items r.kins.items (tree xs n) (tree xs s) are.of_kins known)))
      p.puts

-- ---- a set, a flow, and the ancestors of an entity

module _ (xs ys : List Node) (r t : Roles) (are : AreRoles xs r) (n : ℕ) (within : n < length xs) (ls ms : List ℕ) where
  pushed : (ns ks : List ℕ) → ks ≡ ns ++ n ∷ [] → stood xs ks ≡ stood xs ns ++ tree xs n ∷ []
  pushed ns ks e = ap (stood xs) e ∙ map-append (tree xs) ns (n ∷ [])

  push_within : (ns ks : List ℕ) → ks ≡ ns ++ n ∷ [] → AllByRecursion (λ m. m < length xs) ns → AllByRecursion (λ m. m < length xs) ks
  push_within ns ks e h = subst (AllByRecursion (λ m. m < length xs)) (sym e) (within_push (length xs) n ns h within)

  pub set_takes : t.sets ≡ r.sets ++ n ∷ [] → Puts xs ys ls ms (set_told xs (tree xs n) r.kins.items) → Takes xs ys r (but_sets r t) (set (tree xs n) ∷ []) ls ms
  set_takes e p =
      taken_put xs ys r (but_sets r t) (set (tree xs n) ∷ []) ls ms (set_told xs (tree xs n) r.kins.items)
      (record { of_named = are.of_named; of_crowds = are.of_crowds; of_kins = are.of_kins; of_sets = push_within r.sets t.sets e are.of_sets; of_above = are.of_above; of_patterns = are.of_patterns })
      (set_taken xs r t are.of_kins (tree xs n) (pushed r.sets t.sets e)) p

  pub above_takes : IsAbove (tree xs n) → t.above ≡ r.above ++ n ∷ [] → Puts xs ys ls ms (entity_told xs r.kins.items (stood xs t.above) (tree xs n))
      → Takes xs ys r (but_above r t) (roles_in (tree xs n)) ls ms
  above_takes a e p =
      let here = ancestors_of a.own a.entity in
      let all = pushed r.above t.above e ∙ ap (λ (x : Tree). stood xs r.above ++ x ∷ []) a.is in
      subst (λ (ps : List Role). Takes xs ys r (but_above r t) ps ls ms) (sym (ap roles_in a.is))
      (taken_put xs ys r (but_above r t) (above a.own a.entity ∷ []) ls ms (entity_told xs r.kins.items (stood xs t.above) here)
      (record { of_named = are.of_named; of_crowds = are.of_crowds; of_kins = are.of_kins; of_sets = are.of_sets; of_above = push_within r.above t.above e are.of_above; of_patterns = are.of_patterns })
      (above_taken xs r t are.of_kins a.own a.entity all)
      (puts_same xs ys ls ms (entity_told xs r.kins.items (stood xs t.above) (tree xs n)) (entity_told xs r.kins.items (stood xs t.above) here)
      (ap (entity_told xs r.kins.items (stood xs t.above)) a.is) p))

pub flow_takes : (xs ys : List Node) (r t : Roles) (are : AreRoles xs r) (s u : ℕ) (ls ms : List ℕ) → JoinsTarget xs r.crowds.items t.crowds.items (tree xs s) (tree xs u) → t.kins.items ≡ r.kins.items
    → Puts xs ys ls ms (flow_told xs (tree xs s) (tree xs u) t.crowds.items) → Takes xs ys r (but_crowds r t) (flow (tree xs s) (tree xs u) ∷ []) ls ms
flow_takes xs ys r t are s u ls ms j same p =
    taken_put xs ys r (but_crowds r t) (flow (tree xs s) (tree xs u) ∷ []) ls ms (flow_told xs (tree xs s) (tree xs u) t.crowds.items)
    (record {
      of_named = are.of_named;
      of_crowds = j.are are.of_crowds;
      of_kins = kins_same xs r.crowds.items t.crowds.items t.kins.items j.old_candidate j.only_candidate (subst (AreKins xs r.crowds.items) (sym same) are.of_kins);
      of_sets = are.of_sets;
      of_above = are.of_above;
      of_patterns = are.of_patterns;
    })
    (flow_taken xs r t (tree xs s) (tree xs u) j) p
