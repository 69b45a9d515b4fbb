-- Members that are divided into values and others, one crowd after the other, and lists where a test passes.
use Rattle.std.proofs.Common.{◌≡◌, ◌⊎◌, inl, inr, ⊎_elim, ℕ, zero, suc, ◌+◌, ◌<◌, Bool, true, false, List, [], ◌∷◌, ◌++◌, get_or, length, refl, sym, ap, ◌∙◌, subst, arith}
use Rattle.std.specs.List.{AllByRecursion}
use Rattle.sc_lists.proofs.ListLaws.{all_weaker}
use Rattle.sc_lists.proofs.MemberLaws.{Has-left, Has-last, Has-push, AllByRecursion-Has}
use Rattle.sc_lists.specs.Members.{Has}
use Rattle.sc_sorts.specs.declared.node.Node.{Node}
use Rattle.sc_terms.specs.Trees.{Tree}
use Rattle.sc_terms.specs.Folds.{literal_of}
use Rattle.sc_terms.specs.Tables.{tree, Keeps}
use Rattle.sc_closure_rules.proofs.MemberLaws.{within_later}
use Rattle.sc_candidates.specs.declared.crowds.Crowd.{Crowd}
use Rattle.sc_candidates.specs.Crowds.{IsCrowd, AreCrowds}
use Rattle.sc_candidates.specs.Values.{value_in, with_other, where_so, AreDivided}

other_old : (value : Bool) (ns : List ℕ) (n m : ℕ) → Has ns m → Has (with_other value ns n) m
other_old true ns n m h = h
other_old false ns n m h = Has-left ns (n ∷ []) m h

other_there : (value : Bool) (ns : List ℕ) (n : ℕ) → Has (with_other value ns n) n ⊎ (value ≡ true)
other_there true ns n = inr refl
other_there false ns n = inl (Has-last ns n)

other_only : (value : Bool) (ns : List ℕ) (n m : ℕ) → Has (with_other value ns n) m → Has (ns ++ n ∷ []) m
other_only true ns n m h = Has-left ns (n ∷ []) m h
other_only false ns n m h = h

-- members that are divided stay so with one more
pub divided_push : (xs : List Node) (value : Bool) (ms os : List ℕ) (n : ℕ) → value ≡ value_in (literal_of (tree xs n)) → AreDivided xs ms os → AreDivided xs (ms ++ n ∷ []) (with_other value os n)
divided_push xs value ms os n e h = record {
  others_in = λ m k. ⊎_elim (λ i. Has-left ms (n ∷ []) m (h.others_in m i)) (λ i. subst (Has (ms ++ n ∷ [])) i (Has-last ms n)) (Has-push os n m (other_only value os n m k));
  divided = λ m k. ⊎_elim (λ i. ⊎_elim (λ j. inl (other_old value os n m j)) inr (h.divided m i))
      (λ i. ⊎_elim (λ j. inl (subst (Has (with_other value os n)) i j)) (λ j. inr (subst (λ (l : ℕ). value_in (literal_of (tree xs l)) ≡ true) i (sym e ∙ j))) (other_there value os n)) (Has-push ms n m k);
}

-- what is read at a place
pub item_at : {X : Type 0} (P : X → Type 0) (xs : List X) → AllByRecursion P xs → (i : ℕ) (x : X) → i < length xs → x ≡ get_or xs i x → P x
item_at P [] h i x k e = absurd (omega arith)
item_at P (y ∷ ys) h zero x k e = subst P (sym e) h.0
item_at P (y ∷ ys) h (suc i) x k e = item_at P ys h.1 i x (omega arith) e

-- ---- while the table grows

module _ (xs ys : List Node) (e : Keeps xs ys) where
  pub divided_later : (ms os : List ℕ) → AllByRecursion (λ n. n < length xs) ms → AreDivided xs ms os → AreDivided ys ms os
  divided_later ms os w h = record {
    others_in = h.others_in;
    divided = λ n k. ⊎_elim inl (λ i. inr (ap (λ (t : Tree). value_in (literal_of t)) (e.same n (AllByRecursion-Has (λ n. n < length xs) ms n w k)) ∙ i)) (h.divided n k);
  }

  pub crowd_later : (c : Crowd) → IsCrowd xs c → IsCrowd ys c
  crowd_later c h = record {
    within = (
      omega (arith, h.within.0, e.longer),
      within_later (length xs) (length ys) e.longer c.members h.within.1,
      within_later (length xs) (length ys) e.longer c.targets h.within.2,
    );
    divided = divided_later c.members c.others h.within.1 h.divided;
  }

  pub crowds_later : (cs : List Crowd) → AreCrowds xs cs → AreCrowds ys cs
  crowds_later cs h = all_weaker (IsCrowd xs) (IsCrowd ys) crowd_later cs h

-- ---- where a test passes

pub where_in : (b : Bool) (ts : List Tree) (z : Tree) → Has (where_so b ts) z → (b ≡ true) × Has ts z
where_in true ts z h = (refl, h)
where_in false ts z h = absurd h

pub in_where : (b : Bool) (ts : List Tree) (z : Tree) → b ≡ true → Has ts z → Has (where_so b ts) z
in_where true ts z e h = h
in_where false ts z e h = absurd cc
