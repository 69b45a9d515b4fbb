-- Where nothing about the items is open: one item of each class among those with some signs is the most that can
-- differ pairwise; and if for no item those with its signs are a crowd, there is no crowd.
use Rattle.std.proofs.Common.{◌≡◌, ℕ, zero, suc, ◌<◌, ◌≤◌, ◌+◌, ◌-◌, ◌==◌, ◌&&◌, ◌||◌, Bool, true, false, List, [], ◌∷◌, ◌++◌, length, get_or, set, Option, Some, None, ⊎_elim, refl, sym, ◌∙◌, ap, subst, arith, length-append, length-set, get_or-set_same, get_or-set_other, eq-eqb}
use Rattle.std.proofs.lemmas.Bool.{cases_Bool, cases_lt, cases_eq, eqb-true, and_parts, or_cases, or_left, or_right}
use Rattle.std.proofs.lemmas.List.Elements.{All-cons, All-push, All-nil, All-weaker}
use Rattle.std.proofs.lemmas.List.Quantifiers.{all_pairs_push}
use Rattle.std.specs.List.{All}
use Rattle.sc_laws.proofs.OptionLaws.{same_some, some_of}
use Rattle.sc_falsified.specs.Truths.{Truth}
use Rattle.sc_falsified.specs.Crowds.{Signs, Few, IsWithin, Fits, IsCrowd, NoneCrowded, IsRow, one_if, count_from, IsFurther, NoneAfter}
use Rattle.sc_falsified.specs.Settled.{IsSettled, AreApart, HasMost, IsPicked, IsRowFree, AreRowsFree}
use Rattle.sc_laws.proofs.NumberLaws.{last_or_before}
use Rattle.sc_falsified.proofs.CountLaws.{count_more, is_in, all_in}
use Rattle.sc_falsified.proofs.CrowdLaws.{fits_less, row_most, asked_place, none_crowded}

-- ---- counts

-- the last number is counted too
last_of : (test : ℕ → Bool) (at m : ℕ) → count_from test at (suc m) ≡ count_from test at m + one_if (test (at + m))
last_of test at zero =
    let here : at + zero ≡ at = omega arith in
    let one : one_if (test at) ≡ one_if (test (at + zero)) = ap (λ i. one_if (test i)) (sym here) in
    omega arith
last_of test at (suc m) =
    let rest = last_of test (suc at) m in
    let place : suc at + m ≡ at + suc m = omega arith in
    let one : one_if (test (suc at + m)) ≡ one_if (test (at + suc m)) = ap (λ i. one_if (test i)) place in
    omega arith

count_last : (test : ℕ → Bool) (at m : ℕ) → count_from test at (m + 1) ≡ count_from test at m + one_if (test (at + m))
count_last test at m =
    let next : suc m ≡ m + 1 = omega arith in
    subst (λ k. count_from test at k ≡ count_from test at m + one_if (test (at + m))) next (last_of test at m)

-- some number passes, where the count isn't 0
some_counted : (test : ℕ → Bool) (at m : ℕ) → 0 < count_from test at m → (t : ℕ) × (at ≤ t) × (t < at + m) × (test t ≡ true)
some_counted test at zero h = absurd (omega arith)
some_counted test at (suc m) h =
    ⊎_elim (λ (e : test at ≡ true). (at, omega arith, omega arith, e))
    (λ (e : test at ≡ false).
    let none : one_if (test at) ≡ 0 = ap one_if e in
    let (t, low, high, is) = some_counted test (suc at) m (omega arith) in
    (t, omega arith, omega arith, is))
    (cases_Bool (test at))

-- ---- signs

abbrev has_sign : Option Bool → Bool → Bool
has_sign (Some true) s = s
has_sign (Some false) true = false
has_sign (Some false) false = true
has_sign None s = false

has_it : (o : Option Bool) (s : Bool) → has_sign o s ≡ true → o ≡ Some s
has_it (Some true) true e = refl
has_it (Some true) false e = absurd cc
has_it (Some false) true e = absurd cc
has_it (Some false) false e = refl
has_it None s e = absurd cc

-- those that pass have the one sign or the other
count_both : (test : ℕ → Bool) (o : ℕ → Option Bool) (at m : ℕ) → ((t : ℕ) → at ≤ t → t < at + m → (s : Bool) × (o t ≡ Some s))
    → count_from test at m ≡ count_from (λ t. test t && has_sign (o t) true) at m + count_from (λ t. test t && has_sign (o t) false) at m
count_both test o at zero known = refl
count_both test o at (suc m) known =
    let rest = count_both test o (suc at) m (λ t low high. known t (omega arith) (omega arith)) in
    let (s, is) = known at (omega arith) (omega arith) in
    let here : one_if (test at) ≡ one_if (test at && has_sign (o at) true) + one_if (test at && has_sign (o at) false) = subst (λ (p : Option Bool). one_if (test at) ≡ one_if (test at && has_sign p true) + one_if (test at && has_sign p false)) (sym is) (by (test at) s) in
    omega arith
  where
    by : (a s : Bool) → one_if a ≡ one_if (a && has_sign (Some s) true) + one_if (a && has_sign (Some s) false)
    by true true = refl
    by true false = refl
    by false true = refl
    by false false = refl

-- ---- one item of each class

module _ (truth sign : Truth) (n patterns : ℕ) where
  earlier : (m : ℕ) (w : Signs) (test : ℕ → Bool) → AreApart truth sign (m + 1) w test → AreApart truth sign m w test
  earlier m w test h = record { apart = λ t u less high one two. h.apart t u less (omega arith) one two; fit = λ t high one. h.fit t (omega arith) one }

  pub picked_none : (w : Signs) (picked : List ℕ) → picked ≡ [] → length w ≡ patterns → IsPicked truth sign n patterns 0 w picked
  unfolding HasMost
  picked_none w picked none size = subst (λ l. IsPicked truth sign n patterns 0 w l) (sym none) (record {
    chosen = record { within = All-nil (λ (i : ℕ). i < n); apart = λ i j d low high. absurd (omega arith); sized = size; fit = All-nil (Fits sign w) };
    most = λ test h. omega arith;
    before = All-nil (λ (i : ℕ). i < 0);
  })

  later_before : (m : ℕ) (picked : List ℕ) → All (λ t. t < m) picked → All (λ t. t < m + 1) picked
  later_before m picked h = All-weaker (λ t. t < m) (λ t. t < m + 1) (λ t less. omega arith) picked h

  -- without the last item there are as many
  unpassed : (m count : ℕ) (w : Signs) (test : ℕ → Bool) → test m ≡ false → HasMost truth sign m w count → AreApart truth sign (m + 1) w test → count_from test 0 (m + 1) ≤ count
  unfolding HasMost
  unpassed m count w test e most h =
      let last = count_last test 0 m in
      let place : 0 + m ≡ m = omega arith in
      let none : one_if (test (0 + m)) ≡ 0 = ap (λ i. one_if (test i)) place ∙ ap one_if e in
      let before = most test (earlier m w test h) in
      omega arith

  pub picked_other : (m : ℕ) (w : Signs) (picked : List ℕ) → ¬ (Fits sign w m) → IsPicked truth sign n patterns m w picked → IsPicked truth sign n patterns (m + 1) w picked
  unfolding HasMost
  picked_other m w picked other h = record {
    chosen = h.chosen;
    most = λ test is.
        ⊎_elim (λ (e : test m ≡ true). absurd (other (is.fit m (omega arith) e))) (λ (e : test m ≡ false). unpassed m (length picked) w test e h.most is) (cases_Bool (test m));
    before = later_before m picked h.before;
  }

  pub picked_more : (m : ℕ) (w : Signs) (picked more : List ℕ) → m < n → more ≡ picked ++ m ∷ [] → Fits sign w m → All (λ c. truth c m ≡ Some false) picked
      → IsPicked truth sign n patterns m w picked → IsPicked truth sign n patterns (m + 1) w more
  unfolding HasMost
  picked_more m w picked more less is fit away h = subst (λ l. IsPicked truth sign n patterns (m + 1) w l) (sym is) (record {
    chosen = record {
      within = All-push (λ (i : ℕ). i < n) picked m h.chosen.within less;
      apart = all_pairs_push (λ (i : ℕ) (j : ℕ). truth i j ≡ Some false) picked m h.chosen.apart away;
      sized = h.chosen.sized;
      fit = All-push (Fits sign w) picked m h.chosen.fit fit;
    };
    most = λ test all.
        let size : length (picked ++ m ∷ []) ≡ length picked + 1 = length-append picked (m ∷ []) in
        let last = count_last test 0 m in
        let one = at_most (test (0 + m)) in
        let before = h.most test (earlier m w test all) in
        omega arith;
    before = All-push (λ (t : ℕ). t < m + 1) picked m (later_before m picked h.before) (omega arith);
  }) where
    at_most : (b : Bool) → one_if b ≤ 1
    at_most true = omega arith
    at_most false = omega arith

  -- a picked item from which an item isn't known to differ
  abbrev IsNear : ℕ → List ℕ → Type 0
  IsNear m picked = (c : ℕ) × (is_in picked c ≡ true) × (truth c m ≡ Some false → ⊥)

  near_here : (m c : ℕ) (cs : List ℕ) → (truth c m ≡ Some false → ⊥) → IsNear m (c ∷ cs)
  near_here m c cs h = (c, or_left (c == c) (is_in cs c) (eq-eqb c c refl), h)

  near_later : (m c : ℕ) (cs : List ℕ) → IsNear m cs → IsNear m (c ∷ cs)
  near_later m c cs (d, inside, other) = (d, or_right (d == c) (is_in cs d) inside, other)

  near_by : (o : Option Bool) (m c : ℕ) (cs : List ℕ) → truth c m ≡ o → (truth c m ≡ Some false → IsNear m cs) → IsNear m (c ∷ cs)
  near_by (Some false) m c cs e later = near_later m c cs (later e)
  near_by (Some true) m c cs e later = near_here m c cs (λ f. let both : Some true ≡ Some false = sym e ∙ f in absurd cc)
  near_by None m c cs e later = near_here m c cs (λ f. let both : None ≡ Some false = sym e ∙ f in absurd cc)

  not_apart : (m : ℕ) (picked : List ℕ) → ¬ (All (λ c. truth c m ≡ Some false) picked) → IsNear m picked
  not_apart m [] h = absurd (h (All-nil (λ c. truth c m ≡ Some false)))
  not_apart m (c ∷ cs) h = near_by (truth c m) m c cs refl (λ e. not_apart m cs (λ all. h (All-cons (λ d. truth d m ≡ Some false) c cs e all)))

  module _ (labels : List ℕ) (ok : IsSettled truth sign n patterns labels) where
    abbrev label : ℕ → ℕ
    label t = get_or labels t 0

    -- two items of one label compare alike with a third
    moved_apart : (c m t : ℕ) → c < m → m < n → t < m → label c ≡ label m → truth t m ≡ Some false → ¬ (t ≡ c) → (t < c → truth t c ≡ Some false) × (c < t → truth c t ≡ Some false)
    moved_apart c m t low high less one e other =
        let differ : (label t == label m) ≡ false = same_some (sym (ok.classes t m less high) ∙ e) in
        let same : (label t == label c) ≡ false = ap (λ k. label t == k) one ∙ differ in (
          λ l. ok.classes t c l (omega arith) ∙ ap Some same,
          λ l. ok.classes c t l (omega arith) ∙ ap Some (turned (label t) (label c) same),
        ) where
          turned : (a b : ℕ) → (a == b) ≡ false → (b == a) ≡ false
          turned a b e =
              ⊎_elim (λ (f : (b == a) ≡ true). let both : (a == b) ≡ true = eq-eqb a b (sym (eqb-true b a f)) in absurd cc) (λ f. f) (cases_Bool (b == a))

    -- the item is replaced by the picked one of its class
    exchanged : (c m : ℕ) (w : Signs) (test : ℕ → Bool) → c < m → m < n → label c ≡ label m → Fits sign w c → test m ≡ true → AreApart truth sign (m + 1) w test
        → AreApart truth sign m w (λ t. (t == c) || test t)
    exchanged c m w test low high one fit now h = record {
      apart = λ t u less under one_ two.
          ⊎_elim
          (λ (e : (t == c) ≡ true).
          ⊎_elim
          (λ (f : (u == c) ≡ true). let a = eqb-true t c e in let b = eqb-true u c f in absurd (omega arith))
          (λ (f : test u ≡ true).
          let a = eqb-true t c e in
          let away = moved_apart c m u low high under one (h.apart u m under (omega arith) f now) (λ (same : u ≡ c). absurd (omega arith)) in
          subst (λ i. truth i u ≡ Some false) (sym a) (away.1 (omega arith)))
          (or_cases (u == c) (test u) two))
          (λ (e : test t ≡ true).
          ⊎_elim
          (λ (f : (u == c) ≡ true).
          let b = eqb-true u c f in
          let away = moved_apart c m t low high (omega arith) one (h.apart t m (omega arith) (omega arith) e now) (λ (same : t ≡ c). absurd (omega arith)) in
          subst (λ i. truth t i ≡ Some false) (sym b) (away.0 (omega arith)))
          (λ (f : test u ≡ true). h.apart t u less (omega arith) e f)
          (or_cases (u == c) (test u) two))
          (or_cases (t == c) (test t) one_);
      fit = λ t under one_.
          ⊎_elim (λ (e : (t == c) ≡ true). subst (Fits sign w) (sym (eqb-true t c e)) fit) (λ (e : test t ≡ true). h.fit t (omega arith) e) (or_cases (t == c) (test t) one_);
    }

    pub picked_known : (m : ℕ) (w : Signs) (picked : List ℕ) → m < n → ¬ (All (λ c. truth c m ≡ Some false) picked) → IsPicked truth sign n patterns m w picked → IsPicked truth sign n patterns (m + 1) w picked
    unfolding HasMost
    picked_known m w picked less near h =
        let (c, inside, open_) = not_apart m picked near in
        let low : c < m = all_in (λ t. t < m) picked c h.before inside in
        let fit : Fits sign w c = all_in (Fits sign w) picked c h.chosen.fit inside in
        let one : label c ≡ label m =
        ⊎_elim (λ (e : (label c == label m) ≡ true). eqb-true (label c) (label m) e) (λ (e : (label c == label m) ≡ false). absurd (open_ (ok.classes c m low less ∙ ap Some e))) (cases_Bool (label c == label m)) in
        record {
          chosen = h.chosen;
          most = λ test is.
              ⊎_elim
              (λ (e : test m ≡ true).
              let out : test c ≡ false =
              ⊎_elim (λ (f : test c ≡ true). absurd (open_ (is.apart c m low (omega arith) f e))) (λ f. f) (cases_Bool (test c)) in
              let more = count_more test (λ t. (t == c) || test t) c (λ i f. or_right (i == c) (test i) f) out (or_left (c == c) (test c) (eq-eqb c c refl)) 0 m (omega arith) (omega arith) in
              let all = h.most (λ t. (t == c) || test t) (exchanged c m w test low less one fit e is) in
              let last = count_last test 0 m in
              let place : 0 + m ≡ m = omega arith in
              let single : one_if (test (0 + m)) ≡ 1 = ap (λ i. one_if (test i)) place ∙ ap one_if e in
              omega arith)
              (λ (e : test m ≡ false). unpassed m (length picked) w test e h.most is)
              (cases_Bool (test m));
          before = later_before m picked h.before;
        }

-- ---- rows

module _ (truth sign : Truth) (few : Few) (n patterns : ℕ) where
  pub row_crowded : (t : ℕ) (row : Signs) (picked : List ℕ) → IsPicked truth sign n patterns n row picked → few row (length picked) → IsCrowd truth sign few n patterns picked row
  row_crowded t row picked h enough = record { chosen = h.chosen; too_many = enough }

  pub rows_first : AreRowsFree truth sign few n patterns 0
  unfolding AreRowsFree
  rows_first t less = absurd (omega arith)

  pub row_not_crowded : (t : ℕ) (row : Signs) (picked : List ℕ) → IsRow sign patterns t row → IsPicked truth sign n patterns n row picked → ¬ (few row (length picked))
      → AreRowsFree truth sign few n patterns t → AreRowsFree truth sign few n patterns (t + 1)
  unfolding AreRowsFree
  row_not_crowded t row picked is h enough before u less =
      ⊎_elim (before u)
      (λ (same : u ≡ t). subst (IsRowFree truth sign few n patterns) (sym same) (record { row = row; is_row = is; count = length picked; most = h.most; enough = enough }))
      (last_or_before u t less)

  -- ---- whatever signs are asked

  -- from a place on each pattern is asked
  abbrev AreAsked : ℕ → Signs → Type 0
  AreAsked k w = (p : ℕ) → k ≤ p → p < patterns → (s : Bool) × (get_or w p None ≡ Some s)

  module _
      (labels : List ℕ) (ok : IsSettled truth sign n patterns labels) (never : (v : Signs) → few v 0 → ⊥)
      (greater : (v : Signs) (k l : ℕ) → k ≤ l → few v k → few v l) (asked : (w v : Signs) (k : ℕ) → IsWithin w v → few w k → few v k)
      (split : (v : Signs) (p k l : ℕ) → length v ≡ patterns → p < length v → get_or v p None ≡ None → few v (k + l) → ¬ (few (set v p (Some true)) k) → few (set v p (Some false)) l)
      (free : AreRowsFree truth sign few n patterns n) where
    -- where each pattern is asked, the items with the signs have the signs of one of them
    row_within : (t : ℕ) (row w : Signs) → IsRow sign patterns t row → length w ≡ patterns → AreAsked 0 w → Fits sign w t → IsWithin row w
    row_within t row w is size all fit p s e =
        let size_row = is.sized in
        let place : p < patterns = subst (λ m. p < m) size_row (asked_place row p s e) in
        let (r, has) = all p (omega arith) place in
        let other : sign t p ≡ Some r = fit p r has in
        let same : Some r ≡ Some s = sym other ∙ sym (is.at p place) ∙ e in
        has ∙ same

    whole : (w : Signs) (test : ℕ → Bool) → length w ≡ patterns → AreAsked 0 w → AreApart truth sign n w test → few w (count_from test 0 n) → ⊥
    unfolding HasMost AreRowsFree
    whole w test size all h enough =
        ⊎_elim
        (λ (some : 0 < count_from test 0 n).
        let (t, low, high, passes) = some_counted test 0 n some in
        let fit : Fits sign w t = h.fit t (omega arith) passes in
        let one = free t (omega arith) in
        let inside : IsWithin one.row w = row_within t one.row w one.is_row size all fit in
        let outside : IsWithin w one.row = row_most sign patterns t one.row one.is_row w size fit in
        let most : count_from test 0 n ≤ one.count = one.most test (record { apart = h.apart; fit = λ u less e. fits_less sign one.row w u inside (h.fit u less e) }) in
        one.enough (greater one.row _ _ most (asked w one.row _ outside enough)))
        (λ (none : count_from test 0 n ≤ 0).
        let zero_ : count_from test 0 n ≡ 0 = omega arith in
        never w (subst (few w) zero_ enough))
        (cases_lt 0 (count_from test 0 n))

    -- the items with one sign more
    with_sign : (k : ℕ) (s : Bool) (w : Signs) (test : ℕ → Bool) → k < length w → AreApart truth sign n w test → AreApart truth sign n (set w k (Some s)) (λ t. test t && has_sign (sign t k) s)
    with_sign k s w test place h = record {
      apart = λ t u less high one two. h.apart t u less high (and_parts (test t) (has_sign (sign t k) s) one).0 (and_parts (test u) (has_sign (sign u k) s) two).0;
      fit = λ t high one.
          let parts = and_parts (test t) (has_sign (sign t k) s) one in
          λ p r e.
          ⊎_elim
          (λ (same : p ≡ k).
          let here : Some s ≡ Some r = sym (get_or-set_same w k (Some s) None place) ∙ subst (λ q. get_or (set w k (Some s)) q None ≡ Some r) same e in
          ap (sign t) same ∙ has_it (sign t k) s parts.1 ∙ here)
          (λ (other : p ≡ k → ⊥). h.fit t high parts.0 p r (sym (get_or-set_other w k p (Some s) None other) ∙ e))
          (cases_eq p k);
    }

    asked_more : (k : ℕ) (s : Bool) (w : Signs) → k < length w → AreAsked (suc k) w → AreAsked k (set w k (Some s))
    asked_more k s w place h p low high =
        ⊎_elim
        (λ (same : p ≡ k). (s, ap (λ q. get_or (set w k (Some s)) q None) same ∙ get_or-set_same w k (Some s) None place))
        (λ (other : p ≡ k → ⊥).
        let above : suc k ≤ p = ⊎_elim (λ (l : k < p). omega arith) (λ (l : p ≤ k). absurd (other (omega arith))) (cases_lt k p) in
        let (r, is) = h p above high in
        (r, get_or-set_other w k p (Some s) None other ∙ is))
        (cases_eq p k)

    -- no such items are a crowd
    abbrev Claim : ℕ → Type 0
    Claim k = (w : Signs) (test : ℕ → Bool) → length w ≡ patterns → AreAsked k w → AreApart truth sign n w test → few w (count_from test 0 n) → ⊥

    asked_here : (k : ℕ) (s : Bool) (w : Signs) → get_or w k None ≡ Some s → AreAsked (suc k) w → AreAsked k w
    asked_here k s w e all p low high =
        ⊎_elim (λ (same : p ≡ k). (s, ap (λ q. get_or w q None) same ∙ e))
        (λ (other : p ≡ k → ⊥). all p (⊎_elim (λ (l : k < p). omega arith) (λ (l : p ≤ k). absurd (other (omega arith))) (cases_lt k p)) high)
        (cases_eq p k)

    one_side : (k : ℕ) (s : Bool) (w : Signs) (test : ℕ → Bool) → Claim k → k < patterns → length w ≡ patterns → AreAsked (suc k) w → AreApart truth sign n w test
        → few (set w k (Some s)) (count_from (λ t. test t && has_sign (sign t k) s) 0 n) → ⊥
    one_side k s w test before place size all h =
        let inside : k < length w = subst (λ m. k < m) (sym size) place in
        before (set w k (Some s)) (λ t. test t && has_sign (sign t k) s) (length-set w k (Some s) ∙ size) (asked_more k s w inside all) (with_sign k s w test inside h)

    next_claim : (o : Option Bool) (k : ℕ) (w : Signs) (test : ℕ → Bool) → get_or w k None ≡ o → Claim k → k < patterns → length w ≡ patterns → AreAsked (suc k) w → AreApart truth sign n w test
        → few w (count_from test 0 n) → ⊥
    next_claim (Some s) k w test e before place size all h enough = before w test size (asked_here k s w e all) h enough
    next_claim None k w test e before place size all h enough =
        let both = count_both test (λ t. sign t k) 0 n (λ t low high. some_of (sign t k) (ok.signs t k (omega arith) place)) in
        one_side k false w test before place size all h
        (split w k _ _ size (subst (λ m. k < m) (sym size) place) e (subst (few w) both enough) (one_side k true w test before place size all h))

    claim : (k : ℕ) → Claim k
    claim zero w test size all h enough = whole w test size all h enough
    claim (suc k) w test size all h enough =
        ⊎_elim
        (λ (place : k < patterns). next_claim (get_or w k None) k w test refl (claim k) place size all h enough)
        (λ (past : patterns ≤ k). claim k w test size (λ p low high. absurd (omega arith)) h enough)
        (cases_lt k patterns)

    further_apart : (w : Signs) (test : ℕ → Bool) → IsFurther truth sign n [] 0 test w → AreApart truth sign n w test
    further_apart w test h = record { apart = λ t u less high one two. h.apart t u (omega arith) less high one two; fit = λ t high one. h.fit t (omega arith) high one }

    none_after : NoneAfter truth sign few n patterns 0
    unfolding NoneAfter
    none_after w test size h enough =
        let all_of : n - 0 ≡ n = omega arith in
        let same : count_from test 0 (n - 0) ≡ count_from test 0 n = ap (λ m. count_from test 0 m) all_of in
        let none : length {A = ℕ} [] + count_from test 0 (n - 0) ≡ count_from test 0 n = omega arith in
        claim patterns w test size (λ p low high. absurd (omega arith)) (further_apart w test h) (subst (few w) none enough)

    pub none_settled : ((i : ℕ) → truth i i ≡ Some false → ⊥) → ((i j : ℕ) → truth i j ≡ truth j i) → NoneCrowded truth sign few n patterns
    none_settled reflexive symmetric = none_crowded truth sign few n patterns reflexive symmetric greater none_after
