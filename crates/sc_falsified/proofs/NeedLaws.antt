-- Signs that aren't needed are left out one after the other.
use Rattle.std.proofs.Common.{◌≡◌, ℕ, ◌<◌, ◌≤◌, ◌+◌, Bool, List, length, get_or, set, Option, Some, None, ⊎_elim, refl, sym, ◌∙◌, ap, subst, arith, length-set, get_or-set_same, get_or-set_other}
use Rattle.std.proofs.lemmas.Bool.{cases_lt, cases_eq}
use Rattle.std.proofs.lemmas.List.{get_or_past}
use Rattle.std.proofs.lemmas.List.Elements.{All-weaker}
use Rattle.sc_falsified.specs.Truths.{Truth}
use Rattle.sc_falsified.specs.Crowds.{Signs, Few, IsWithin, Fits, IsCrowd, IsEnough, AreNeeded, AreAllNeeded}
use Rattle.sc_laws.proofs.NumberLaws.{last_or_before}
use Rattle.sc_falsified.proofs.CrowdLaws.{fits_less, asked_place}

-- a sign that is left out isn't asked
left_out : (v : Signs) (p : ℕ) → get_or (set v p None) p None ≡ None
left_out v p =
    ⊎_elim (λ (l : p < length v). get_or-set_same v p None None l)
    (λ (l : length v ≤ p). let size = length-set v p None in get_or_past (set v p None) p None (omega arith))
    (cases_lt p (length v))

pub without_within : (v : Signs) (p : ℕ) → IsWithin (set v p None) v
without_within v p q s e =
    ⊎_elim (λ (same : q ≡ p). let none = left_out v p in let has = subst (λ m. get_or (set v p None) m None ≡ Some s) same e in absurd cc)
    (λ (other : q ≡ p → ⊥). sym (get_or-set_other v p q None None other) ∙ e)
    (cases_eq q p)

both_without : (w v : Signs) (p : ℕ) → IsWithin w v → IsWithin (set w p None) (set v p None)
both_without w v p inside q s e =
    ⊎_elim (λ (same : q ≡ p). let none = left_out w p in let has = subst (λ m. get_or (set w p None) m None ≡ Some s) same e in absurd cc)
    (λ (other : q ≡ p → ⊥). get_or-set_other v p q None None other ∙ inside q s (sym (get_or-set_other w p q None None other) ∙ e))
    (cases_eq q p)

none_some : (s : Bool) → None ≡ Some s → ⊥
none_some s e = absurd cc

module _ (few : Few) (count : ℕ) where
  pub enough_first : (v : Signs) → few v count → IsEnough few count v v
  enough_first v h = record { sized = refl; within = λ p s e. e; enough = h }

  pub enough_more : (v w u : Signs) → IsEnough few count v w → IsEnough few count w u → IsEnough few count v u
  enough_more v w u one two = record {
    sized = two.sized ∙ one.sized;
    within = λ p s e. one.within p s (two.within p s e);
    enough = two.enough;
  }

  pub enough_without : (v now : Signs) (p : ℕ) → now ≡ set v p None → few now count → IsEnough few count v now
  enough_without v now p is h = record {
    sized = ap (λ (l : Signs). length l) is ∙ length-set v p None;
    within = subst (λ l. IsWithin l v) (sym is) (without_within v p);
    enough = h;
  }

  pub needed_first : (v : Signs) → AreNeeded few count v 0
  unfolding AreNeeded
  needed_first v p s less = absurd (omega arith)

  -- what is needed stays needed where less is asked
  pub needed_less : ((w v : Signs) (k : ℕ) → IsWithin w v → few w k → few v k) → (v w : Signs) (n : ℕ) → IsWithin w v → AreNeeded few count v n → AreNeeded few count w n
  unfolding AreNeeded
  needed_less asked v w n inside h p s less e enough =
      h p s less (inside p s e) (asked (set w p None) (set v p None) count (both_without w v p inside) enough)

  pub needed_more : (v : Signs) (n : ℕ) → ((s : Bool) → get_or v n None ≡ Some s → ¬ (few (set v n None) count)) → AreNeeded few count v n → AreNeeded few count v (n + 1)
  unfolding AreNeeded
  needed_more v n now h p s less e =
      ⊎_elim (λ l. h p s l e) (λ (same : p ≡ n). subst (λ m. ¬ (few (set v m None) count)) (sym same) (now s (subst (λ m. get_or v m None ≡ Some s) same e))) (last_or_before p n less)

  pub needed_all : (v : Signs) (n : ℕ) → length v ≤ n → AreNeeded few count v n → AreAllNeeded few count v
  unfolding AreNeeded
  needed_all v n all h p s e = let place = asked_place v p s e in h p s (omega arith) e

  pub needed_taken : ((w v : Signs) (k : ℕ) → IsWithin w v → few w k → few v k) → (v w : Signs) (n : ℕ) → w ≡ v → AreNeeded few count v n → AreNeeded few count (set w n None) (n + 1)
  needed_taken asked v w n same h =
      subst (λ l. AreNeeded few count (set l n None) (n + 1)) (sym same)
      (needed_more (set v n None) n (λ s e. let none = left_out v n in absurd (none_some s (sym none ∙ e)))
      (needed_less asked v (set v n None) n (without_within v n) h))

  pub needed_kept : (v w : Signs) (n : ℕ) → w ≡ v → ¬ (few (set w n None) count) → AreNeeded few count v n → AreNeeded few count v (n + 1)
  needed_kept v w n same other h = needed_more v n (λ s e enough. other (subst (λ l. few (set l n None) count) (sym same) enough)) h

  -- a sign that isn't asked isn't needed
  pub needed_none : (v : Signs) (n : ℕ) (o : Option Bool) → o ≡ get_or v n o → o ≡ None → AreNeeded few count v n → AreNeeded few count v (n + 1)
  needed_none v n o at none h =
      let isnt : get_or v n None ≡ None = subst (λ (x : Option Bool). get_or v n x ≡ x) none (sym at) in
      needed_more v n (λ s e. absurd (none_some s (sym isnt ∙ e))) h

-- a crowd with fewer signs
pub crowd_less : (truth sign : Truth) (few : Few) (n patterns : ℕ) (items : List ℕ) (v w : Signs) → IsEnough few (length items) v w
    → IsCrowd truth sign few n patterns items v → IsCrowd truth sign few n patterns items w
crowd_less truth sign few n patterns items v w less h = record {
  chosen = record {
    within = h.chosen.within;
    apart = h.chosen.apart;
    sized = less.sized ∙ h.chosen.sized;
    fit = All-weaker (Fits sign v) (Fits sign w) (λ t fit. fits_less sign w v t less.within fit) items h.chosen.fit;
  };
  too_many = less.enough;
}
