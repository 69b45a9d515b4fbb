-- A term or a set that is put into the crowd of a set.
use Rattle.std.proofs.Common.{◌≡◌, ◌⊎◌, inl, inr, ⊎_elim, ℕ, zero, suc, ◌<◌, Bool, true, List, [], ◌∷◌, ◌++◌, get_or, length, refl, sym, ap, ◌∙◌, subst, arith}
use Rattle.std.proofs.lemmas.List.{map-append}
use Rattle.std.specs.Prelude.{slice_set}
use Rattle.std.specs.List.{AllByRecursion}
use Rattle.sc_lists.proofs.ListLaws.{all_append, all_weaker}
use Rattle.sc_lists.proofs.MemberLaws.{Has-left, Has-last, Has-push}
use Rattle.sc_lists.specs.Members.{Has}
use Rattle.sc_sorts.specs.declared.node.Node.{Node}
use Rattle.sc_terms.proofs.OrderLaws.{tree_eq-exact}
use Rattle.sc_terms.specs.Trees.{Tree}
use Rattle.sc_terms.specs.Order.{tree_eq}
use Rattle.sc_terms.specs.Folds.{literal_of}
use Rattle.sc_terms.specs.Tables.{tree}
use Rattle.sc_closure_rules.specs.Making.{stood}
use Rattle.sc_closure_rules.proofs.MemberLaws.{within_push}
use Rattle.sc_candidates.specs.declared.crowds.Crowd.{Crowd}
use Rattle.sc_candidates.specs.Values.{value_in}
use Rattle.sc_candidates.specs.Crowds.{no_crowd, crowd_of, with_candidate, with_target, IsCrowd, IsCrowdWithin, AreCrowds, IsPlaced, HasCandidate, HasTarget, JoinsCandidate, JoinsTarget}
use Rattle.sc_candidates.proofs.DividedLaws.{divided_push}

-- ---- a list of which one element is another

set_there : (cs : List Crowd) (p : ℕ) (c : Crowd) → p < length cs → Has (slice_set cs p c) c
set_there [] p c h = absurd (omega arith)
set_there (d ∷ ds) zero c h = inl refl
set_there (d ∷ ds) (suc p) c h = inr (set_there ds p c (omega arith))

set_old : (cs : List Crowd) (p : ℕ) (c d : Crowd) → Has cs d → Has (slice_set cs p c) d ⊎ (get_or cs p no_crowd ≡ d)
set_old [] p c d h = absurd h
set_old (e ∷ es) zero c d (inl h) = inr h
set_old (e ∷ es) zero c d (inr h) = inl (inr h)
set_old (e ∷ es) (suc p) c d (inl h) = inl (inl h)
set_old (e ∷ es) (suc p) c d (inr h) = ⊎_elim (λ i. inl (inr i)) inr (set_old es p c d h)

set_only : (cs : List Crowd) (p : ℕ) (c d : Crowd) → p < length cs → Has (slice_set cs p c) d → Has cs d ⊎ (c ≡ d)
set_only [] p c d k h = absurd (omega arith)
set_only (e ∷ es) zero c d k (inl h) = inr h
set_only (e ∷ es) zero c d k (inr h) = inl (inr h)
set_only (e ∷ es) (suc p) c d k (inl h) = inl (inl h)
set_only (e ∷ es) (suc p) c d k (inr h) = ⊎_elim (λ i. inl (inr i)) inr (set_only es p c d (omega arith) h)

read_there : (cs : List Crowd) (p : ℕ) → p < length cs → Has cs (get_or cs p no_crowd)
read_there [] p h = absurd (omega arith)
read_there (c ∷ cs) zero h = inl refl
read_there (c ∷ cs) (suc p) h = inr (read_there cs p (omega arith))

set_all : (P : Crowd → Type 0) (cs : List Crowd) (p : ℕ) (f : Crowd → Crowd) → p < length cs → ((d : Crowd) → P d → P (f d)) → AllByRecursion P cs → AllByRecursion P (slice_set cs p (f (get_or cs p no_crowd)))
set_all P [] p f h g k = absurd (omega arith)
set_all P (d ∷ ds) zero f h g k = (g d k.0, k.1)
set_all P (d ∷ ds) (suc p) f h g k = (k.0, set_all P ds p f (omega arith) g k.1)

-- ---- the place of a set's crowd

pub crowds_within : (xs : List Node) (cs : List Crowd) → AreCrowds xs cs → AllByRecursion (IsCrowdWithin (length xs)) cs
crowds_within xs cs h = all_weaker (IsCrowd xs) (IsCrowdWithin (length xs)) (λ c k. k.within) cs h

-- one that is there
pub placed_here : (xs : List Node) (cs : List Crowd) (p s : ℕ) → p < length cs → tree_eq (tree xs (get_or cs p no_crowd).set) (tree xs s) ≡ true → IsPlaced xs cs cs p (tree xs s)
placed_here xs cs p s h e = record {
  within = h;
  of_set = tree_eq-exact (tree xs (get_or cs p no_crowd).set) (tree xs s) e;
  old_there = λ c k. k;
  only = λ c k. inl k;
  are = λ k. k;
}

last_read : (cs : List Crowd) (c : Crowd) → get_or (cs ++ c ∷ []) (length cs) no_crowd ≡ c
last_read [] c = refl
last_read (d ∷ ds) c = last_read ds c

last_within : (cs : List Crowd) (c : Crowd) → length cs < length (cs ++ c ∷ [])
last_within [] c = omega arith
last_within (d ∷ ds) c = omega (arith, last_within ds c)

-- and one that is new
placed_last : (xs : List Node) (cs : List Crowd) (s : ℕ) → s < length xs → IsPlaced xs cs (cs ++ crowd_of s ∷ []) (length cs) (tree xs s)
placed_last xs cs s h = record {
  within = last_within cs (crowd_of s);
  of_set = ap (λ (c : Crowd). tree xs c.set) (last_read cs (crowd_of s));
  old_there = λ c k. Has-left cs (crowd_of s ∷ []) c k;
  only = λ c k. ⊎_elim inl (λ e. inr (ap (λ (d : Crowd). d.members) (sym e), ap (λ (d : Crowd). d.targets) (sym e))) (Has-push cs (crowd_of s) c k);
  are = λ k. all_append (IsCrowd xs) cs (crowd_of s ∷ []) k (record { within = (h, tt, tt); divided = record { others_in = λ n i. absurd i; divided = λ n i. absurd i } }, tt);
}

pub placed_new : (xs : List Node) (cs ds : List Crowd) (p s : ℕ) → s < length xs → p ≡ length cs → ds ≡ cs ++ crowd_of s ∷ [] → IsPlaced xs cs ds p (tree xs s)
placed_new xs cs ds p s h e is =
    subst (λ (n : ℕ). IsPlaced xs cs ds n (tree xs s)) (sym e) (subst (λ (l : List Crowd). IsPlaced xs cs l (length cs) (tree xs s)) (sym is) (placed_last xs cs s h))

-- ---- one more in a crowd at a place

module _ (xs : List Node) (cs ds : List Crowd) (p : ℕ) (s : Tree) (at : IsPlaced xs cs ds p s) where
  abbrev here : Crowd
  here = get_or ds p no_crowd

  here_there : Has ds here
  here_there = read_there ds p at.within

  -- a crowd with a candidate or a target was there
  with_member : (c : Crowd) (y : Tree) → Has ds c → Has (stood xs c.members) y → Has cs c
  with_member c y h k = ⊎_elim (λ i. i) (λ e. absurd (subst (λ (ns : List ℕ). Has (stood xs ns) y) e.0 k)) (at.only c h)

  with_aim : (c : Crowd) (y : Tree) → Has ds c → Has (stood xs c.targets) y → Has cs c
  with_aim c y h k = ⊎_elim (λ i. i) (λ e. absurd (subst (λ (ns : List ℕ). Has (stood xs ns) y) e.1 k)) (at.only c h)

  -- roles that are held with another crowd in its place, and roles that were held before
  module _ (new : Crowd) (es : List Crowd) (is : es ≡ slice_set ds p new) (same : new.set ≡ here.set) where
    new_there : Has es new
    new_there = subst (λ (l : List Crowd). Has l new) (sym is) (set_there ds p new at.within)

    of_old : (c : Crowd) → Has cs c → Has es c ⊎ (here ≡ c)
    of_old c h = ⊎_elim (λ i. inl (subst (λ (l : List Crowd). Has l c) (sym is) i)) inr (set_old ds p new c (at.old_there c h))

    of_new : (c : Crowd) → Has es c → Has ds c ⊎ (new ≡ c)
    of_new c h = set_only ds p new c at.within (subst (λ (l : List Crowd). Has l c) is h)

    same_set : (c : Crowd) → here ≡ c → tree xs new.set ≡ tree xs c.set
    same_set c e = ap (tree xs) (same ∙ ap (λ (d : Crowd). d.set) e)

    its_set : (c : Crowd) → new ≡ c → tree xs here.set ≡ tree xs c.set
    its_set c e = ap (tree xs) (sym same ∙ ap (λ (d : Crowd). d.set) e)

    old_members : ((y : Tree) → Has (stood xs here.members) y → Has (stood xs new.members) y) → (y t : Tree) → HasCandidate xs cs y t → HasCandidate xs es y t
    old_members more y t h = ⊎_elim (λ i. record { crowd = h.crowd; there = i; of_set = h.of_set; among = h.among })
        (λ e. record {
          crowd = new;
          there = new_there;
          of_set = same_set h.crowd e ∙ h.of_set;
          among = more y (subst (λ (c : Crowd). Has (stood xs c.members) y) (sym e) h.among);
        }) (of_old h.crowd h.there)

    old_targets : ((y : Tree) → Has (stood xs here.targets) y → Has (stood xs new.targets) y) → (y t : Tree) → HasTarget xs cs y t → HasTarget xs es y t
    old_targets more y t h = ⊎_elim (λ i. record { crowd = h.crowd; there = i; of_set = h.of_set; among = h.among })
        (λ e. record {
          crowd = new;
          there = new_there;
          of_set = same_set h.crowd e ∙ h.of_set;
          among = more t (subst (λ (c : Crowd). Has (stood xs c.targets) t) (sym e) h.among);
        }) (of_old h.crowd h.there)

    only_members : (P : Tree → Type 0) → ((y : Tree) → Has (stood xs new.members) y → Has (stood xs here.members) y ⊎ P y) → (y t : Tree) → HasCandidate xs es y t → HasCandidate xs cs y t ⊎ (P y × (s ≡ t))
    only_members P told y t h = ⊎_elim (λ i. inl (record { crowd = h.crowd; there = with_member h.crowd y i h.among; of_set = h.of_set; among = h.among }))
        (λ e. ⊎_elim (λ k. inl (record { crowd = here; there = with_member here y here_there k; of_set = its_set h.crowd e ∙ h.of_set; among = k }))
        (λ k. inr (k, sym at.of_set ∙ its_set h.crowd e ∙ h.of_set))
        (told y (subst (λ (c : Crowd). Has (stood xs c.members) y) (sym e) h.among))) (of_new h.crowd h.there)

    only_targets : (P : Tree → Type 0) → ((y : Tree) → Has (stood xs new.targets) y → Has (stood xs here.targets) y ⊎ P y) → (y t : Tree) → HasTarget xs es y t → HasTarget xs cs y t ⊎ (P t × (s ≡ y))
    only_targets P told y t h = ⊎_elim (λ i. inl (record { crowd = h.crowd; there = with_aim h.crowd t i h.among; of_set = h.of_set; among = h.among }))
        (λ e. ⊎_elim (λ k. inl (record { crowd = here; there = with_aim here t here_there k; of_set = its_set h.crowd e ∙ h.of_set; among = k }))
        (λ k. inr (k, sym at.of_set ∙ its_set h.crowd e ∙ h.of_set))
        (told t (subst (λ (c : Crowd). Has (stood xs c.targets) t) (sym e) h.among))) (of_new h.crowd h.there)

  -- numbers of which one is last
  stood_push : (ns : List ℕ) (n : ℕ) → stood xs (ns ++ n ∷ []) ≡ stood xs ns ++ tree xs n ∷ []
  stood_push ns n = map-append (tree xs) ns (n ∷ [])

  push_old : (ns : List ℕ) (n : ℕ) (y : Tree) → Has (stood xs ns) y → Has (stood xs (ns ++ n ∷ [])) y
  push_old ns n y h = subst (λ (ts : List Tree). Has ts y) (sym (stood_push ns n)) (Has-left (stood xs ns) (tree xs n ∷ []) y h)

  push_last : (ns : List ℕ) (n : ℕ) → Has (stood xs (ns ++ n ∷ [])) (tree xs n)
  push_last ns n = subst (λ (ts : List Tree). Has ts (tree xs n)) (sym (stood_push ns n)) (Has-last (stood xs ns) (tree xs n))

  push_only : (ns : List ℕ) (n : ℕ) (y : Tree) → Has (stood xs (ns ++ n ∷ [])) y → Has (stood xs ns) y ⊎ (tree xs n ≡ y)
  push_only ns n y h = Has-push (stood xs ns) (tree xs n) y (subst (λ (ts : List Tree). Has ts y) (stood_push ns n) h)

  nothing : (y : Tree) (ns : List ℕ) → Has (stood xs ns) y → Has (stood xs ns) y ⊎ ⊥
  nothing y ns h = inl h

  module _ (es : List Crowd) (n : ℕ) (n_in : n < length xs) where
    candidate_in : (value : Bool) (c : Crowd) → value ≡ value_in (literal_of (tree xs n)) → IsCrowd xs c → IsCrowd xs (with_candidate value c n)
    candidate_in value c told h = record {
      within = (h.within.0, within_push (length xs) n c.members h.within.1 n_in, h.within.2);
      divided = divided_push xs value c.members c.others n told h.divided;
    }

    target_in : (c : Crowd) → IsCrowd xs c → IsCrowd xs (with_target c n)
    target_in c h = record { within = (h.within.0, h.within.1, within_push (length xs) n c.targets h.within.2 n_in); divided = h.divided }

    pub joins_candidate : (value : Bool) → value ≡ value_in (literal_of (tree xs n)) → es ≡ slice_set ds p (with_candidate value here n) → JoinsCandidate xs cs es (tree xs n) s
    joins_candidate value told is =
        let new = with_candidate value here n in
        record {
          there = record { crowd = new; there = new_there new es is refl; of_set = at.of_set; among = push_last here.members n };
          old_candidate = old_members new es is refl (push_old here.members n);
          old_target = old_targets new es is refl (λ y h. h);
          only_candidate = only_members new es is refl (λ y. tree xs n ≡ y) (push_only here.members n);
          only_target = λ y t h. ⊎_elim (λ i. i) (λ k. absurd k.0) (only_targets new es is refl (λ y. ⊥) (λ y k. nothing y here.targets k) y t h);
          are = λ k. subst (AreCrowds xs) (sym is) (set_all (IsCrowd xs) ds p (λ c. with_candidate value c n) at.within (λ c. candidate_in value c told) (at.are k));
        }

    pub joins_target : es ≡ slice_set ds p (with_target here n) → JoinsTarget xs cs es s (tree xs n)
    joins_target is =
        let new = with_target here n in
        record {
          there = record { crowd = new; there = new_there new es is refl; of_set = at.of_set; among = push_last here.targets n };
          old_candidate = old_members new es is refl (λ y h. h);
          old_target = old_targets new es is refl (push_old here.targets n);
          only_candidate = λ y t h. ⊎_elim (λ i. i) (λ k. absurd k.0) (only_members new es is refl (λ y. ⊥) (λ y k. nothing y here.members k) y t h);
          only_target = λ y t h. ⊎_elim inl (λ k. inr (k.1, k.0)) (only_targets new es is refl (λ u. tree xs n ≡ u) (push_only here.targets n) y t h);
          are = λ k. subst (AreCrowds xs) (sym is) (set_all (IsCrowd xs) ds p (λ c. with_target c n) at.within target_in (at.are k));
        }
