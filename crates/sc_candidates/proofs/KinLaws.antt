-- Sets whose candidates are one another's, and candidates that are kept once for all of them.
use Rattle.std.proofs.Common.{◌≡◌, ◌⊎◌, ⊎_elim, ℕ, ◌<◌, ◌==◌, ◌&&◌, Bool, true, false, List, [], get_or, length, refl, sym, ap, ◌∙◌, subst, nat_eq}
use Rattle.std.proofs.lemmas.Bool.{false≢true, MatchBool-at_true}
use Rattle.std.specs.List.{list_any}
use Rattle.sc_laws.proofs.BoolLaws.{and_first, and_second}
use Rattle.sc_lists.proofs.MemberLaws.{AllByRecursion-Has, Has-map, Has-at, list_any-Has}
use Rattle.sc_lists.specs.Members.{Has}
use Rattle.sc_sorts.specs.declared.sort.Sort.{Sort}
use Rattle.sc_sorts.specs.declared.sort.Sort.TheVariants as sort
use Rattle.sc_sorts.specs.contracts.sort.SortPartialEq.TheImpl.{ghosts as sorts}
use Rattle.sc_sorts.specs.Inside.{member_sort}
use Rattle.sc_sorts.specs.declared.node.Node.{Node}
use Rattle.sc_sorts.specs.declared.node.UnaryOp.TheVariants as unary
use Rattle.sc_terms.specs.Trees.{Tree, one}
use Rattle.sc_terms.specs.TreeSorts.{tree_sort}
use Rattle.sc_terms.specs.Tables.{tree, Keeps}
use Rattle.sc_rule_laws.specs.Terms.{one_sort, choices_in}
use Rattle.sc_rule_laws.specs.Places.{roots}
use Rattle.sc_closure_rules.proofs.TestLaws.{same_sorts}
use Rattle.sc_closure_rules.proofs.MakingLaws.{stood_later}
use Rattle.sc_closure_rules.proofs.JudgingLaws.{member_of}
use Rattle.sc_closure_rules.specs.Making.{stood}
use Rattle.sc_closure_rules.specs.Closure.{are_linked, members_by, ancestors_of, ancestors_up}
use Rattle.sc_candidates.specs.declared.crowds.Crowd.{Crowd}
use Rattle.sc_candidates.specs.Ancestors.{is_above}
use Rattle.sc_candidates.specs.Crowds.{IsCrowd, AreCrowds, HasCandidate, HasTarget, JoinsCandidate}
use Rattle.sc_candidates.specs.Kins.{AreKin, HasKin, AreKins, JoinsKin, kin_of_itself}
use Rattle.sc_candidates.proofs.DividedLaws.{crowds_later}

-- a test of numbers that passes
pub among_by : (b : Bool) (ns : List ℕ) (n : ℕ) → b ≡ list_any (λ m. nat_eq m n) ns → b ≡ true → Has ns n
among_by b ns n e h = MatchBool-at_true (Has ns n) (¬ (Has ns n)) (sym e ∙ h) (list_any-Has ns n)

-- ---- kin

turned : (s t : Tree) → AreKin s t → AreKin t s
turned s t k = record { links = λ u. sym (k.links u); ups = λ x own e. sym (k.ups x own e) }

joined : (s t u : Tree) → AreKin s t → AreKin t u → AreKin s u
joined s t u k l = record { links = λ v. k.links v ∙ l.links v; ups = λ x own e. k.ups x own e ∙ l.ups x own e }

pub kin_of_same : (s t : Tree) → s ≡ t → AreKin s t
kin_of_same s t e = subst (AreKin s) e (kin_of_itself s)

-- the ancestors, of one type, of entities of one type
linked_alike : (k : Sort) (f g u : Tree) → tree_sort f ≡ tree_sort g → are_linked (ancestors_of k f) u ≡ are_linked (ancestors_of k g) u
unfolding roots tree_sort
linked_alike k f g (one (unary.Ancestors l) e) h = λ i. sorts.eq (sort.Set k) (sort.Set l) && sorts.eq (h i) (tree_sort e)
linked_alike k f g (one o e) h = refl
linked_alike k f g u h = refl

up_alike : (k : Sort) (f g x : Tree) (own : Sort) (e : Tree) → tree_sort f ≡ tree_sort g → ancestors_up x (ancestors_of k f) own e ≡ ancestors_up x (ancestors_of k g) own e
up_alike k f g x own e h = λ i. members_by (sorts.eq (h i) own && (length (choices_in e) == 0)) x (ancestors_of k e)

kin_above : (k l : Sort) (f g : Tree) → k ≡ l → tree_sort f ≡ tree_sort g → AreKin (ancestors_of k f) (ancestors_of l g)
kin_above k l f g e h = subst (λ (j : Sort). AreKin (ancestors_of k f) (ancestors_of j g)) e
    (record { links = λ u. linked_alike k f g u h; ups = λ x own a. up_alike k f g x own a h })

nothing_else : (k : Sort) (f t : Tree) (b : Bool) → (b && false) ≡ true → AreKin (ancestors_of k f) t
nothing_else k f t b h = absurd (false≢true (and_second b false h))

above_linked : (k : Sort) (f t : Tree) → are_linked (ancestors_of k f) t ≡ true → AreKin (ancestors_of k f) t
unfolding roots tree_sort
above_linked k f (one (unary.Ancestors l) g) h =
    let both = one_sort (ancestors_of k f) (ancestors_of l g) in
    let own = one_sort f g in
    kin_above k l f g (sym (member_of k) ∙ ap member_sort (same_sorts (sort.Set k) (sort.Set l) (and_first both own h)) ∙ member_of l)
    (same_sorts (tree_sort f) (tree_sort g) (and_second both own h))
above_linked k f (one o g) h = nothing_else k f (one o g) (one_sort (ancestors_of k f) (one o g)) h
above_linked k f t h = nothing_else k f t (one_sort (ancestors_of k f) t) h

pub kin_linked : (s t : Tree) (a l : Bool) → a ≡ is_above s → a ≡ true → l ≡ are_linked s t → l ≡ true → AreKin s t
kin_linked (one (unary.Ancestors k) f) t a l is e told h = above_linked k f t (sym told ∙ h)
kin_linked s t a l is e told h = absurd (false≢true (sym is ∙ e))

-- a candidate that is read among kin
pub kin_at : (xs : List Node) (ks : List Crowd) (i n s : ℕ) (c : Crowd) → i < length ks → c ≡ get_or ks i c → AreKin (tree xs c.set) (tree xs s) × Has c.members n → HasKin xs ks (tree xs n) (tree xs s)
kin_at xs ks i n s c below at h = record {
  kin = tree xs c.set;
  are = h.0;
  has = record { crowd = c; there = Has-at ks i c below (sym at); of_set = refl; among = Has-map (tree xs) c.members n h.1 };
}

-- ---- candidates and targets stay while the table grows

module _ (xs ys : List Node) (e : Keeps xs ys) (cs : List Crowd) (are : AreCrowds xs cs) where
  module _ (c : Crowd) (there : Has cs c) where
    is_crowd : IsCrowd xs c
    is_crowd = AllByRecursion-Has (IsCrowd xs) cs c are there

    set_stays : tree ys c.set ≡ tree xs c.set
    set_stays = e.same c.set is_crowd.within.0

    members_stay : stood ys c.members ≡ stood xs c.members
    members_stay = stood_later xs ys e c.members is_crowd.within.1

    targets_stay : stood ys c.targets ≡ stood xs c.targets
    targets_stay = stood_later xs ys e c.targets is_crowd.within.2

  pub candidate_later : (x s : Tree) → HasCandidate xs cs x s → HasCandidate ys cs x s
  candidate_later x s h = record {
    crowd = h.crowd;
    there = h.there;
    of_set = set_stays h.crowd h.there ∙ h.of_set;
    among = subst (λ (ts : List Tree). Has ts x) (sym (members_stay h.crowd h.there)) h.among;
  }

  pub candidate_before : (x s : Tree) → HasCandidate ys cs x s → HasCandidate xs cs x s
  candidate_before x s h = record {
    crowd = h.crowd;
    there = h.there;
    of_set = sym (set_stays h.crowd h.there) ∙ h.of_set;
    among = subst (λ (ts : List Tree). Has ts x) (members_stay h.crowd h.there) h.among;
  }

  pub target_later : (s t : Tree) → HasTarget xs cs s t → HasTarget ys cs s t
  target_later s t h = record {
    crowd = h.crowd;
    there = h.there;
    of_set = set_stays h.crowd h.there ∙ h.of_set;
    among = subst (λ (ts : List Tree). Has ts t) (sym (targets_stay h.crowd h.there)) h.among;
  }

  pub target_before : (s t : Tree) → HasTarget ys cs s t → HasTarget xs cs s t
  target_before s t h = record {
    crowd = h.crowd;
    there = h.there;
    of_set = sym (set_stays h.crowd h.there) ∙ h.of_set;
    among = subst (λ (ts : List Tree). Has ts t) (targets_stay h.crowd h.there) h.among;
  }

-- ---- the candidates of crowds, each as one of some kin

-- of no crowds
pub no_kins : (xs : List Node) → AreKins xs [] []
no_kins xs = record { are = tt; there = λ x s h. absurd h.there; only = λ x s h. absurd h.there }

-- the same of a table that has grown
pub kins_later : (xs ys : List Node) (e : Keeps xs ys) (cs ks : List Crowd) → AreCrowds xs cs → AreKins xs cs ks → AreKins ys cs ks
kins_later xs ys e cs ks h a = record {
  are = crowds_later xs ys e ks a.are;
  there = λ x s c.
      let k = a.there x s (candidate_before xs ys e cs h x s c) in
      record { kin = k.kin; are = k.are; has = candidate_later xs ys e ks a.are x k.kin k.has };
  only = λ x s c.
      let k = a.only x s (candidate_before xs ys e ks a.are x s c) in
      record { kin = k.kin; are = k.are; has = candidate_later xs ys e cs h x k.kin k.has };
}

-- a candidate that is known is one of a set of the crowds
pub known_of : (xs : List Node) (cs ks : List Crowd) (x s : Tree) → AreKins xs cs ks → HasKin xs ks x s → HasKin xs cs x s
known_of xs cs ks x s a h = let k = a.only x h.kin h.has in record { kin = k.kin; are = joined k.kin h.kin s k.are h.are; has = k.has }

module _ (xs : List Node) (cs ds : List Crowd) where
  -- crowds with the same candidates
  pub kins_same : (ks : List Crowd) → ((x s : Tree) → HasCandidate xs cs x s → HasCandidate xs ds x s) → ((x s : Tree) → HasCandidate xs ds x s → HasCandidate xs cs x s) → AreKins xs cs ks → AreKins xs ds ks
  kins_same ks forth back a = record {
    are = a.are;
    there = λ x s h. a.there x s (back x s h);
    only = λ x s h. let k = a.only x s h in record { kin = k.kin; are = k.are; has = forth x k.kin k.has };
  }

  module _ (x s : Tree) (j : JoinsCandidate xs cs ds x s) where
    its_kin : (ks : List Crowd) → HasKin xs ks x s → (y t : Tree) → (x ≡ y) × (s ≡ t) → HasKin xs ks y t
    its_kin ks h y t e = subst (HasKin xs ks y) e.1 (subst (λ (z : Tree). HasKin xs ks z s) e.0 h)

    -- one candidate more, which is known
    pub kins_known : (ks : List Crowd) → HasKin xs ks x s → AreKins xs cs ks → AreKins xs ds ks
    kins_known ks known a = record {
      are = a.are;
      there = λ y t h. ⊎_elim (a.there y t) (its_kin ks known y t) (j.only_candidate y t h);
      only = λ y t h. let k = a.only y t h in record { kin = k.kin; are = k.are; has = j.old_candidate y k.kin k.has };
    }

    -- and one that joins the kin
    pub kins_joined : (ks ls : List Crowd) → JoinsKin xs ks ls x s → AreKins xs cs ks → AreKins xs ds ls
    kins_joined ks ls q a = record {
      are = q.joins.are a.are;
      there = λ y t h. ⊎_elim (λ i. let k = a.there y t i in record { kin = k.kin; are = k.are; has = q.joins.old_candidate y k.kin k.has })
          (its_kin ls (record { kin = q.kin; are = q.are; has = q.joins.there }) y t) (j.only_candidate y t h);
      only = λ y t h. ⊎_elim (λ i. let k = a.only y t i in record { kin = k.kin; are = k.are; has = j.old_candidate y k.kin k.has })
          (λ e. subst (HasKin xs ds y) e.1 (subst (λ (z : Tree). HasKin xs ds z q.kin) e.0 (record { kin = s; are = turned q.kin s q.are; has = j.there }))) (q.joins.only_candidate y t h);
    }
