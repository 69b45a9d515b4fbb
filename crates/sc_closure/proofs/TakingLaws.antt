-- Roles that are taken in one after the other.
use Rattle.std.proofs.Common.{◌≡◌, ◌⊎◌, inl, inr, ⊎_elim, List, [], ◌∷◌, ◌++◌, sym, subst}
use Rattle.sc_lists.proofs.MemberLaws.{Has-left, Has-right, Has-append}
use Rattle.sc_lists.specs.Members.{Has}
use Rattle.sc_terms.specs.Trees.{Tree}
use Rattle.sc_closure_rules.specs.Closure.{Role, meet}
use Rattle.sc_closure.specs.Following.{TakesIn, GoesWith}

-- none
pub takes_none : (rs : Role → Type 0) → TakesIn rs rs [] []
takes_none rs = record {
  old = λ p h. h;
  taken = λ p h. absurd h;
  only = λ p h. inl h;
  sound = λ z h. absurd h;
  whole = λ p q z h k e. inl (p, q, h, k, e);
}

-- one that is held already
pub takes_known : (rs : Role → Type 0) (p : Role) → rs p → TakesIn rs rs (p ∷ []) []
takes_known rs p there = record {
  old = λ q h. h;
  taken = λ q h. ⊎_elim (λ e. subst rs e there) (λ k. absurd k) h;
  only = λ q h. inl h;
  sound = λ z h. absurd h;
  whole = λ q r z h k e. inl (q, r, h, k, e);
}

-- one that is new, where what goes with it and each that is held is told in both ways, or goes with two that were held
module _ (rs ss : Role → Type 0) (p : Role) (zs : List Tree) (old : (q : Role) → rs q → ss q) (there : ss p) (only : (q : Role) → ss q → rs q ⊎ (p ≡ q))
    (sound : (z : Tree) → Has zs z → (q : Role) × ss q × (Has (meet p q) z ⊎ Has (meet q p) z)) (forth : (q : Role) (z : Tree) → ss q → Has (meet p q) z → GoesWith rs z ⊎ Has zs z)
    (back : (q : Role) (z : Tree) → ss q → Has (meet q p) z → GoesWith rs z ⊎ Has zs z) where
  told : (z : Tree) → Has zs z → GoesWith ss z
  told z h =
      let k = sound z h in
      by k.0 k.1 k.2
    where
      by : (q : Role) → ss q → (Has (meet p q) z ⊎ Has (meet q p) z) → GoesWith ss z
      by q i (inl e) = (p, q, there, i, e)
      by q i (inr e) = (q, p, i, there, e)

  all : (q r : Role) (z : Tree) → ss q → ss r → Has (meet q r) z → GoesWith rs z ⊎ Has zs z
  all q r z h k e = by (only q h) (only r k)
    where
      by : (rs q ⊎ (p ≡ q)) → (rs r ⊎ (p ≡ r)) → GoesWith rs z ⊎ Has zs z
      by (inl i) (inl j) = inl (q, r, i, j, e)
      by (inr i) j = forth r z k (subst (λ (t : Role). Has (meet t r) z) (sym i) e)
      by (inl i) (inr j) = back q z h (subst (λ (t : Role). Has (meet q t) z) (sym j) e)

  pub takes_new : TakesIn rs ss (p ∷ []) zs
  takes_new = record {
    old = old;
    taken = λ q h. ⊎_elim (λ e. subst ss e there) (λ k. absurd k) h;
    only = λ q h. ⊎_elim inl (λ e. inr (inl e)) (only q h);
    sound = told;
    whole = all;
  }

-- the same where all is told
module _ (rs ss : Role → Type 0) (p : Role) (zs : List Tree) (old : (q : Role) → rs q → ss q) (there : ss p) (only : (q : Role) → ss q → rs q ⊎ (p ≡ q))
    (sound : (z : Tree) → Has zs z → (q : Role) × ss q × (Has (meet p q) z ⊎ Has (meet q p) z)) (forth : (q : Role) (z : Tree) → ss q → Has (meet p q) z → Has zs z)
    (back : (q : Role) (z : Tree) → ss q → Has (meet q p) z → Has zs z) where
  pub takes_one : TakesIn rs ss (p ∷ []) zs
  takes_one = takes_new rs ss p zs old there only sound (λ q z h m. inr (forth q z h m)) (λ q z h m. inr (back q z h m))

-- some, and then more
module _ (rs ss ts : Role → Type 0) (ps qs : List Role) (us vs : List Tree) (a : TakesIn rs ss ps us) (b : TakesIn ss ts qs vs) where
  taken_both : (p : Role) → Has (ps ++ qs) p → ts p
  taken_both p h = ⊎_elim (λ k. b.old p (a.taken p k)) (b.taken p) (Has-append ps qs p h)

  only_both : (p : Role) → ts p → rs p ⊎ Has (ps ++ qs) p
  only_both p h = ⊎_elim (λ k. ⊎_elim inl (λ i. inr (Has-left ps qs p i)) (a.only p k)) (λ k. inr (Has-right ps qs p k)) (b.only p h)

  sound_both : (z : Tree) → Has (us ++ vs) z → GoesWith ts z
  sound_both z h = ⊎_elim first (b.sound z) (Has-append us vs z h)
    where
      first : Has us z → GoesWith ts z
      first k = let m = a.sound z k in (m.0, m.1, b.old m.0 m.2, b.old m.1 m.3, m.4)

  whole_both : (p q : Role) (z : Tree) → ts p → ts q → Has (meet p q) z → GoesWith rs z ⊎ Has (us ++ vs) z
  whole_both p q z h k e = ⊎_elim earlier (λ i. inr (Has-right us vs z i)) (b.whole p q z h k e)
    where
      earlier : GoesWith ss z → GoesWith rs z ⊎ Has (us ++ vs) z
      earlier i = ⊎_elim inl (λ j. inr (Has-left us vs z j)) (a.whole i.0 i.1 z i.2 i.3 i.4)

  pub takes_then : TakesIn rs ts (ps ++ qs) (us ++ vs)
  takes_then = record {
    old = λ p h. b.old p (a.old p h);
    taken = taken_both;
    only = only_both;
    sound = sound_both;
    whole = whole_both;
  }
