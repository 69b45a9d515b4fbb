-- Roles that are held by numbers of a table, as they are and as more are taken in.
use Rattle.std.proofs.Common.{◌≡◌, ◌⊎◌, inl, inr, ⊎_elim, ℕ, Bool, true, false, List, ◌++◌, map, length, refl, sym, ap, ◌∙◌, subst}
use Rattle.std.specs.Cmp.{IsTotalOrder}
use Rattle.sc_lists.proofs.MemberLaws.{Has-left, Has-right, Has-append, Has-map, map-Has}
use Rattle.sc_lists.specs.Members.{Has}
use Rattle.sc_pattern.specs.declared.part.Part.{Part}
use Rattle.sc_sorts.specs.declared.sort.Sort.{Sort, Sort-F}
use Rattle.sc_sorts.specs.declared.sort.Sort.TheOpen as s
use Rattle.sc_sorts.specs.contracts.sort.SortPartialEq.TheImpl.{ghosts as sorts}
use Rattle.sc_sorts.specs.OrderLaws.{sort_eq_decides}
use Rattle.sc_sorts.specs.declared.node.Node.{Node}
use Rattle.sc_terms.specs.Order.{tree_cmp}
use Rattle.sc_terms.specs.Trees.{Tree}
use Rattle.sc_terms.specs.TreeSorts.{tree_sort}
use Rattle.sc_terms.specs.Tables.{tree, Keeps}
use Rattle.sc_terms.specs.Folds.{equal_term, like_term}
use Rattle.sc_closure_rules.proofs.TestLaws.{same_sorts}
use Rattle.sc_closure_rules.specs.Making.{Puts, stood}
use Rattle.sc_closure_rules.proofs.MakingLaws.{stood_later}
use Rattle.sc_closure_rules.proofs.MemberLaws.{within_later}
use Rattle.sc_rule_laws.specs.Terms.{one_sort, member}
use Rattle.sc_closure_rules.specs.Closure.{Role, named, candidate, set, flow, above, pattern, ancestors_of, equated_by, members_by, matches_by}
use Rattle.sc_closure_rules.proofs.MetLaws.{equated_is}
use Rattle.sc_candidates.specs.Equations.{Equates}
use Rattle.sc_candidates.proofs.DividedLaws.{crowds_later}
use Rattle.sc_candidates.proofs.KinLaws.{candidate_later, candidate_before, target_later, target_before, kins_later}
use Rattle.sc_closure.specs.declared.roles.Group.{Group}
use Rattle.sc_closure.specs.declared.roles.Roles.{Roles}
use Rattle.sc_closure.specs.declared.roles.Meeting.TheVariants as meeting
use Rattle.sc_closure.specs.Following.{pattern_in, grouped, Held, AreGroups, AreRoles, Joins, is_text, met_among, TakesIn, Takes}
use Rattle.sc_terms.proofs.EqualLaws.{equal_turned}
use Rattle.sc_closure.proofs.GroupLaws.{groups_within, members_within, groups_later, among_has, has_among}

-- ---- roles stay while the table grows

module _ (xs ys : List Node) (e : Keeps xs ys) (r : Roles) (are : AreRoles xs r) where
  group_stays : (gs : List Group) → AreGroups xs gs → stood ys (grouped gs) ≡ stood xs (grouped gs)
  group_stays gs h = stood_later xs ys e (grouped gs) (members_within (length xs) gs (groups_within xs gs h))

  moved : (gs : List Group) (t : Tree) → AreGroups xs gs → Has (stood xs (grouped gs)) t → Has (stood ys (grouped gs)) t
  moved gs t h k = subst (λ (ts : List Tree). Has ts t) (sym (group_stays gs h)) k

  moved_back : (gs : List Group) (t : Tree) → AreGroups xs gs → Has (stood ys (grouped gs)) t → Has (stood xs (grouped gs)) t
  moved_back gs t h k = subst (λ (ts : List Tree). Has ts t) (group_stays gs h) k

  patterns_stay : stood ys r.patterns ≡ stood xs r.patterns
  patterns_stay = stood_later xs ys e r.patterns are.of_patterns

  sets_stay : stood ys r.sets ≡ stood xs r.sets
  sets_stay = stood_later xs ys e r.sets are.of_sets

  above_stays : stood ys r.above ≡ stood xs r.above
  above_stays = stood_later xs ys e r.above are.of_above

  pub held_later : (p : Role) → Held xs r p → Held ys r p
  held_later (named x) h = moved r.named.items x are.of_named h
  held_later (candidate x s) h = candidate_later xs ys e r.crowds.items are.of_crowds x s h
  held_later (set x) h = subst (λ (ts : List Tree). Has ts x) (sym sets_stay) h
  held_later (flow s t) h = target_later xs ys e r.crowds.items are.of_crowds s t h
  held_later (above k f) h = subst (λ (ts : List Tree). Has ts (ancestors_of k f)) (sym above_stays) h
  held_later (pattern ps) h = subst (λ (ts : List Tree). Has (map pattern_in ts) ps) (sym patterns_stay) h

  pub held_before : (p : Role) → Held ys r p → Held xs r p
  held_before (named x) h = moved_back r.named.items x are.of_named h
  held_before (candidate x s) h = candidate_before xs ys e r.crowds.items are.of_crowds x s h
  held_before (set x) h = subst (λ (ts : List Tree). Has ts x) sets_stay h
  held_before (flow s t) h = target_before xs ys e r.crowds.items are.of_crowds s t h
  held_before (above k f) h = subst (λ (ts : List Tree). Has ts (ancestors_of k f)) above_stays h
  held_before (pattern ps) h = subst (λ (ts : List Tree). Has (map pattern_in ts) ps) patterns_stay h

  pub roles_later : AreRoles ys r
  roles_later = record {
    of_named = groups_later xs ys e r.named.items are.of_named;
    of_crowds = crowds_later xs ys e r.crowds.items are.of_crowds;
    of_kins = kins_later xs ys e r.crowds.items r.kins.items are.of_crowds are.of_kins;
    of_sets = within_later (length xs) (length ys) e.longer r.sets are.of_sets;
    of_above = within_later (length xs) (length ys) e.longer r.above are.of_above;
    of_patterns = within_later (length xs) (length ys) e.longer r.patterns are.of_patterns;
  }

-- what goes with the roles that are taken in is put behind other numbers
pub taken_put : (xs ys : List Node) (r s : Roles) (ps : List Role) (ls ms : List ℕ) (zs : List Tree) → AreRoles xs s → TakesIn (Held xs r) (Held xs s) ps zs → Puts xs ys ls ms zs → Takes xs ys r s ps ls ms
taken_put xs ys r s ps ls ms zs are t p = record {
  kept = p.kept;
  more = p.more;
  is = p.is;
  within = p.within;
  are = roles_later xs ys p.kept s are;
  takes = record {
    old = λ q h. held_later xs ys p.kept s are q (t.old q h);
    taken = λ q h. held_later xs ys p.kept s are q (t.taken q h);
    only = λ q h. t.only q (held_before xs ys p.kept s are q h);
    sound = λ z h. let k = t.sound z (subst (λ (ts : List Tree). Has ts z) p.stands h) in
        (k.0, k.1, held_later xs ys p.kept s are k.0 k.2, held_later xs ys p.kept s are k.1 k.3, k.4);
    whole = λ q u z h k m. ⊎_elim inl (λ i. inr (subst (λ (ts : List Tree). Has ts z) (sym p.stands) i))
        (t.whole q u z (held_before xs ys p.kept s are q h) (held_before xs ys p.kept s are u k) m);
  };
}

-- lists of the same terms tell the same
pub takes_same : (held new : Role → Type 0) (ps : List Role) (ys zs : List Tree) → ((z : Tree) → Has zs z → Has ys z) → ((z : Tree) → Has ys z → Has zs z) → TakesIn held new ps ys → TakesIn held new ps zs
takes_same held new ps ys zs back forth t = record {
  old = t.old;
  taken = t.taken;
  only = t.only;
  sound = λ z h. t.sound z (back z h);
  whole = λ p q z h k m. ⊎_elim inl (λ i. inr (forth z i)) (t.whole p q z h k m);
}

-- ---- a term joins the others of its role

module _ (xs : List Node) (old new : List Group) (term : ℕ) (j : Joins xs old new term) where
  pub joined_old : (t : Tree) → Has (stood xs (grouped old)) t → Has (stood xs (grouped new)) t
  joined_old t h = let q = map-Has (tree xs) (grouped old) t h in subst (Has (stood xs (grouped new))) q.2 (Has-map (tree xs) (grouped new) q.0 (j.old_there q.0 q.1))

  pub joined_there : Has (stood xs (grouped new)) (tree xs term)
  joined_there = Has-map (tree xs) (grouped new) term j.there

  pub joined_only : (t : Tree) → Has (stood xs (grouped new)) t → Has (stood xs (grouped old)) t ⊎ (tree xs term ≡ t)
  joined_only t h =
      let q = map-Has (tree xs) (grouped new) t h in
      ⊎_elim (λ i. inl (subst (Has (stood xs (grouped old))) q.2 (Has-map (tree xs) (grouped old) q.0 i))) (λ e. inr (ap (tree xs) e ∙ q.2)) (j.only q.0 q.1)

-- ---- tests that tell what goes with two

pub is_equated : (b : Bool) (x y : Tree) → b ≡ true → Has (equated_by b x y) (equal_term x y)
is_equated true x y e = inl refl
is_equated false x y e = absurd cc

pub is_member : (b : Bool) (x y : Tree) → b ≡ true → Has (members_by b x y) (member x y)
is_member true x y e = inl refl
is_member false x y e = absurd cc

pub match_is : (l : Sort-F Sort) (x z : Tree) (ps : List Part) → Has (matches_by l x ps) z → (is_text l ≡ true) × (like_term x ps ≡ z)
match_is s.String x z ps (inl e) = (refl, e)
match_is s.String x z ps (inr h) = absurd h
match_is _ x z ps h = absurd h

pub is_match : (l : Sort-F Sort) (x : Tree) (ps : List Part) → is_text l ≡ true → Has (matches_by l x ps) (like_term x ps)
is_match s.String x ps e = inl refl
is_match _ x ps e = absurd cc

sorts_turned : (a b : Sort) → sorts.eq a b ≡ true → sorts.eq b a ≡ true
sorts_turned a b e = (sort_eq_decides b a).1 (sym (same_sorts a b e))

-- ---- equations with those of a role

module _ (total : IsTotalOrder tree_cmp) (xs : List Node) (gs : List Group) (are : AreGroups xs gs) (x : Tree) where
  abbrev equations : List Tree
  equations = met_among meeting.Equation xs gs x

  pub equation_back : (y z : Tree) → Has (stood xs (grouped gs)) y → Has (equated_by (one_sort y x) y x) z → Has equations z
  equation_back y z h m =
      let q = equated_is (one_sort y x) y x z m in
      subst (Has equations) q.1 (has_among xs meeting.Equation x gs y are h q.0)

  pub equation_forth : (y z : Tree) → Has (stood xs (grouped gs)) y → Has (equated_by (one_sort x y) x y) z → Has equations z
  equation_forth y z h m =
      let q = equated_is (one_sort x y) x y z m in
      let turned = sorts_turned (tree_sort x) (tree_sort y) q.0 in
      subst (Has equations) (equal_turned total y x ∙ q.1) (has_among xs meeting.Equation x gs y are h turned)

  pub equation_of : (z : Tree) → Has equations z → (y : Tree) × Has (stood xs (grouped gs)) y × Has (equated_by (one_sort y x) y x) z
  equation_of z h =
      let q = among_has xs meeting.Equation x gs z are h in
      (q.other, q.among, subst (Has (equated_by (one_sort q.other x) q.other x)) q.is (is_equated (one_sort q.other x) q.other x q.meets))

  -- a term of these is equated with itself
  pub own_equation : Has (stood xs (grouped gs)) x → Has equations (equal_term x x)
  own_equation h = equation_back x (equal_term x x) h (is_equated (one_sort x x) x x ((sort_eq_decides (tree_sort x) (tree_sort x)).1 refl))

-- what is told of equations, and what more, is the same where its equation with itself is one of them
module _ (xs ys : List Node) (ls ms : List ℕ) (all : List Tree) (x : Tree) (p : Equates xs ys ls ms all x) where
  pub told_back : Has all (equal_term x x) → (us : List Tree) (z : Tree) → Has (p.told ++ us) z → Has (all ++ us) z
  told_back own us z h = ⊎_elim (λ i. Has-left all us z (⊎_elim (λ j. j) (λ e. subst (Has all) e own) (p.only z i))) (λ i. Has-right all us z i) (Has-append p.told us z h)

  pub told_forth : (us : List Tree) (z : Tree) → Has (all ++ us) z → Has (p.told ++ us) z
  told_forth us z h = ⊎_elim (λ i. Has-left p.told us z (p.whole z i)) (λ i. Has-right p.told us z i) (Has-append all us z h)
