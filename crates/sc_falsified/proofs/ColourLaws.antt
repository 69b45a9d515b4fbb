-- Items are coloured one after the other, and those that differ pairwise have a colour each.
use Rattle.std.proofs.Common.{◌≡◌, ℕ, zero, suc, ◌<◌, ◌≤◌, ◌+◌, ◌-◌, ◌==◌, ◌&&◌, not, Bool, true, false, List, [], ◌∷◌, ◌++◌, length, get_or, Option, Some, None, ◌⊎◌, inl, inr, ⊎_elim, refl, sym, ◌∙◌, ap, subst, arith, length-append, eq-eqb}
use Rattle.std.proofs.lemmas.Bool.{cases_Bool, cases_lt, cases_eq, eqb-true, and_parts, and_from}
use Rattle.std.proofs.lemmas.List.{get_or_past, get_or_append_left, get_or_push}
use Rattle.sc_laws.proofs.OptionLaws.{same_some}
use Rattle.sc_falsified.specs.Truths.{Truth}
use Rattle.sc_falsified.specs.Crowds.{Signs, Few, IsFurther, HasRoom, HasRoomFrom, one_if, count_from}
use Rattle.sc_falsified.specs.Colours.{IsAway, MayHave, AreColoured}
use Rattle.sc_laws.proofs.NumberLaws.{last_or_before}
use Rattle.sc_falsified.proofs.CountLaws.{count_more, count_all}
use Rattle.sc_falsified.proofs.CrowdLaws.{further_later}

-- ---- a list that got longer

old_or_new : (colours : List (Option ℕ)) (last : Option ℕ) (t g : ℕ) → get_or (colours ++ last ∷ []) t None ≡ Some g
    → ((t < length colours) × (get_or colours t None ≡ Some g)) ⊎ ((t ≡ length colours) × (last ≡ Some g))
old_or_new colours last t g e =
    ⊎_elim
    (λ (l : t < length colours). inl (l, sym (get_or_append_left colours (last ∷ []) None t l) ∙ e))
    (λ (k : length colours ≤ t).
    ⊎_elim
    (λ (same : t ≡ length colours). inr (same, sym (get_or_push colours last None t (sym same)) ∙ e))
    (λ (other : t ≡ length colours → ⊥).
    let size : length (colours ++ last ∷ []) ≡ length colours + 1 = length-append colours (last ∷ []) in
    let above : length colours < t = ⊎_elim (λ (x : length colours < t). x) (λ (x : t ≤ length colours). absurd (other (omega arith))) (cases_lt (length colours) t) in
    let past : get_or (colours ++ last ∷ []) t None ≡ None = get_or_past (colours ++ last ∷ []) t None (omega arith) in
    absurd cc)
    (cases_eq t (length colours)))
    (cases_lt t (length colours))

still : (colours : List (Option ℕ)) (last : Option ℕ) (t g : ℕ) → t < length colours → get_or colours t None ≡ Some g → get_or (colours ++ last ∷ []) t None ≡ Some g
still colours last t g less e = get_or_append_left colours (last ∷ []) None t less ∙ e

pub may_first : (truth : Truth) (colours : List (Option ℕ)) (u g : ℕ) → MayHave truth colours 0 u g
unfolding MayHave
may_first truth colours u g t less e f = absurd (omega arith)

pub may_skip : (truth : Truth) (colours : List (Option ℕ)) (t u g : ℕ) → ¬ (get_or colours t None ≡ Some g) → MayHave truth colours t u g → MayHave truth colours (t + 1) u g
unfolding MayHave
may_skip truth colours t u g other h s less e f =
    ⊎_elim (λ l. h s l e f) (λ (same : s ≡ t). other (subst (λ m. get_or colours m None ≡ Some g) same e)) (last_or_before s t less)

pub may_more : (truth : Truth) (colours : List (Option ℕ)) (t u g : ℕ) → ¬ (truth t u ≡ Some false) → MayHave truth colours t u g → MayHave truth colours (t + 1) u g
unfolding MayHave
may_more truth colours t u g other h s less e f =
    ⊎_elim (λ l. h s l e f) (λ (same : s ≡ t). other (subst (λ m. truth m u ≡ Some false) same f)) (last_or_before s t less)

module _ (truth : Truth) (chosen : List ℕ) (from : ℕ) where
  pub coloured_none : (u k : ℕ) (colours now : List (Option ℕ)) → now ≡ colours ++ None ∷ [] → ¬ ((from ≤ u) × IsAway truth chosen u) → AreColoured truth chosen from u k colours
      → AreColoured truth chosen from (u + 1) k now
  coloured_none u k colours now more other h =
      let size = h.sized in
      let small = h.small in
      let last : Option ℕ = None in
      let longer : length (colours ++ last ∷ []) ≡ length colours + 1 = length-append colours (last ∷ []) in
      subst (λ l. AreColoured truth chosen from (u + 1) k l) (sym more) (record {
        sized = omega arith;
        small = omega arith;
        each = λ t low high away.
            ⊎_elim (λ (l : t < u). let r = h.each t low l away in (r.0, still colours None t r.0 (omega arith) r.1))
            (λ (same : t ≡ u). absurd (other (omega arith, subst (λ m. IsAway truth chosen m) same away)))
            (last_or_before t u high);
        within = λ t g e. ⊎_elim (λ r. h.within t g r.1) (λ r. let no_ = r.1 in absurd cc) (old_or_new colours None t g e);
        together = λ t v g less high one two.
            ⊎_elim (λ r. ⊎_elim (λ q. h.together t v g less (omega arith) q.1 r.1) (λ q. let no_ = q.1 in absurd cc) (old_or_new colours None t g one))
            (λ r. let no_ = r.1 in absurd cc) (old_or_new colours None v g two);
      })

  pub coloured_some : (u k l g : ℕ) (colours now : List (Option ℕ)) → now ≡ colours ++ Some g ∷ [] → MayHave truth colours u u g → g < l → k ≤ l → l ≤ k + 1
      → AreColoured truth chosen from u k colours → AreColoured truth chosen from (u + 1) l now
  unfolding MayHave
  coloured_some u k l g colours now more may below grows most h =
      let size = h.sized in
      let small = h.small in
      let longer : length (colours ++ Some g ∷ []) ≡ length colours + 1 = length-append colours (Some g ∷ []) in
      subst (λ xs. AreColoured truth chosen from (u + 1) l xs) (sym more) (record {
        sized = omega arith;
        small = omega arith;
        each = λ t low high away.
            ⊎_elim (λ (x : t < u). let r = h.each t low x away in (r.0, still colours (Some g) t r.0 (omega arith) r.1))
            (λ (same : t ≡ u). (g, get_or_push colours (Some g) None t (omega arith)))
            (last_or_before t u high);
        within = λ t b e.
            ⊎_elim (λ r. let less = h.within t b r.1 in omega arith)
            (λ r. let same : g ≡ b = same_some r.1 in omega arith)
            (old_or_new colours (Some g) t b e);
        together = λ t v b less high one two.
            ⊎_elim
            (λ r. ⊎_elim
            (λ q. h.together t v b less (omega arith) q.1 r.1)
            (λ q. let place = q.0 in let place2 = r.0 in absurd (omega arith))
            (old_or_new colours (Some g) t b one))
            (λ r. ⊎_elim
            (λ q f. may t (omega arith) (q.1 ∙ sym r.1) (subst (λ m. truth t m ≡ Some false) (r.0 ∙ size) f))
            (λ q. let place = q.0 in let place2 = r.0 in absurd (omega arith))
            (old_or_new colours (Some g) t b one))
            (old_or_new colours (Some g) v b two);
      })

  pub new_colour : (u k : ℕ) (colours : List (Option ℕ)) → AreColoured truth chosen from u k colours → MayHave truth colours u u k
  unfolding MayHave
  new_colour u k colours h t less e f = let below = h.within t k e in absurd (omega arith)

  pub coloured_old : (u k g : ℕ) (seen colours now : List (Option ℕ)) → seen ≡ colours → now ≡ colours ++ Some g ∷ [] → g < k
      → (g < k → MayHave truth seen (length seen) u g) → AreColoured truth chosen from u k colours → AreColoured truth chosen from (u + 1) k now
  coloured_old u k g seen colours now same more less may h =
      let size : length seen ≡ u = ap (λ (l : List (Option ℕ)). length l) same ∙ h.sized in
      coloured_some u k k g colours now more (subst (λ l. MayHave truth l u u g) same (subst (λ m. MayHave truth seen m u g) size (may less))) less (omega arith) (omega arith) h

  pub coloured_new : (u k g : ℕ) (colours now : List (Option ℕ)) → now ≡ colours ++ Some g ∷ [] → g ≤ k → ¬ (g < k)
      → AreColoured truth chosen from u k colours → AreColoured truth chosen from (u + 1) (k + 1) now
  coloured_new u k g colours now more most other h =
      let same : k ≡ g = ⊎_elim (λ (l : g < k). absurd (other l)) (λ (l : k ≤ g). omega arith) (cases_lt g k) in
      coloured_some u k (k + 1) g colours now more (subst (λ m. MayHave truth colours u u m) same (new_colour u k colours h)) (omega arith) (omega arith) (omega arith) h

  pub coloured_first : (colours : List (Option ℕ)) → colours ≡ [] → AreColoured truth chosen from 0 0 colours
  coloured_first colours e = subst (λ l. AreColoured truth chosen from 0 0 l) (sym e) (record {
    sized = refl;
    small = omega arith;
    each = λ t low high away. absurd (omega arith);
    within = λ t g e. absurd cc;
    together = λ t u g less high one two. absurd (omega arith);
  })

  -- ---- items that differ pairwise have a colour each

  module _ (sign : Truth) (few : Few) (n k : ℕ) (colours : List (Option ℕ)) (h : AreColoured truth chosen from n k colours) where
    one_each : (m at : ℕ) (used test : ℕ → Bool) (w : Signs) → at + m ≡ n → from ≤ at → IsFurther truth sign n chosen at test w
        → ((t g : ℕ) → at ≤ t → t < n → test t ≡ true → get_or colours t None ≡ Some g → used g ≡ true) → count_from test at m ≤ count_from used 0 k
    one_each zero at used test w whole low is all_used = omega arith
    one_each (suc m) at used test w whole low is all_used =
        ⊎_elim
        (λ (e : test at ≡ true).
        let own = h.each at low (omega arith) (is.away at (omega arith) (omega arith) e) in
        let g : ℕ = own.0 in
        let others : ℕ → Bool = λ i. used i && not (i == own.0) in
        let below = h.within at own.0 own.1 in
        let now = all_used at own.0 (omega arith) (omega arith) e own.1 in
        let rest = one_each m (suc at) (λ i. used i && not (i == own.0)) test w (omega arith) (omega arith) (further_later truth sign few n 0 chosen at test w is)
        (λ t b above high yes_ has.
        and_from (used b) (not (b == own.0)) (all_used t b (omega arith) high yes_ has)
        (⊎_elim
        (λ (same : (b == own.0) ≡ true).
        absurd (h.together at t own.0 (omega arith) high own.1 (has ∙ ap (λ (x : ℕ). Some x) (eqb-true b own.0 same)) (is.apart at t (omega arith) (omega arith) high e yes_)))
        (λ (other : (b == own.0) ≡ false). ap not other)
        (cases_Bool (b == own.0)))) in
        let fewer = count_more (λ i. used i && not (i == own.0)) used own.0 (λ i both. (and_parts (used i) (not (i == own.0)) both).0) (own_out own.0 used) now 0 k (omega arith) (omega arith) in
        let counted : one_if (test at) ≡ 1 = ap one_if e in
        omega arith)
        (λ (e : test at ≡ false).
        let rest = one_each m (suc at) used test w (omega arith) (omega arith) (further_later truth sign few n 0 chosen at test w is)
        (λ t b above high yes_ has. all_used t b (omega arith) high yes_ has) in
        let counted : one_if (test at) ≡ 0 = ap one_if e in
        omega arith)
        (cases_Bool (test at))
      where
        and_false : (b : Bool) → (b && false) ≡ false
        and_false true = refl
        and_false false = refl

        own_out : (g : ℕ) (used : ℕ → Bool) → (used g && not (g == g)) ≡ false
        own_out g used = rw (eq-eqb g g refl) (and_false (used g))

    pub room_coloured : from ≤ n → HasRoom truth sign n chosen from k
    unfolding HasRoom
    room_coloured low test w is =
        let size : from + (n - from) ≡ n = omega arith in
        let all = count_all 0 k in
        let most = one_each (n - from) from (λ i. true) test w size (omega arith) is (λ t g above high yes_ has. refl) in
        omega arith

  coloured_later : (n k at : ℕ) (colours : List (Option ℕ)) → from ≤ at → AreColoured truth chosen from n k colours → AreColoured truth chosen at n k colours
  coloured_later n k at colours low h = record {
    sized = h.sized;
    small = h.small;
    each = λ t above high away. h.each t (omega arith) high away;
    within = h.within;
    together = h.together;
  }

pub rooms_coloured : (truth : Truth) (chosen : List ℕ) (from : ℕ) (sign : Truth) (few : Few) (n k : ℕ) (colours : List (Option ℕ)) → AreColoured truth chosen from n k colours
    → HasRoomFrom truth sign n chosen from k
rooms_coloured truth chosen from sign few n k colours h at low high = room_coloured truth chosen at sign few n k colours (coloured_later truth chosen from n k at colours low h) high
