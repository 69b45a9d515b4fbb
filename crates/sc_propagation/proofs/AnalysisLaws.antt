-- What conflict analysis keeps at each step, and what it ends with.
use Rattle.std.proofs.Common.{◌≡◌, ◌≢◌, ◌⊎◌, inl, inr, ⊎_elim, ℕ, ◌+◌, ◌-◌, ◌^◌, ◌<◌, ◌≤◌, List, [], ◌∷◌, ◌++◌, Bool, true, false, length, get_or, refl, sym, ap, ◌∙◌, subst, true≢false, arith, get_or-set_same, get_or-set_other, reverse, take, replicate}
use Rattle.std.specs.List.{Contains}
use Rattle.std.proofs.lemmas.List.{get_or_default, reverse-append, take_more, length-replicate}
use Rattle.std.proofs.Math.ListN.{set, length-set, get_or-eq_default}
use Rattle.std.proofs.lemmas.List.Elements.{Contains-append_left, Contains-push, Contains-push_cases}
use Rattle.std.proofs.lemmas.Bool.{false_from_ne_true, cases_eq, cases_lt, or_cases, or_left, or_right}
use Rattle.sc_laws.proofs.BoolLaws.{and_first}
use Rattle.sc_lists.proofs.ListLaws.{contains_nothing, contains_first, all_the_same}
use Rattle.sc_clauses.specs.Clauses.{negation, lit_eq, is_in, Clause}
use Rattle.sc_clauses.specs.declared.lit.Lit.{Lit}
use Rattle.sc_propagation.proofs.CellLaws.{consistent, before-more, at-before, before-at, at-not-before}
use Rattle.sc_propagation.proofs.NewnessLaws.{new-by}
use Rattle.sc_propagation.specs.Analyses.{HaveSame, IsMet, RefutesMet, MeetsMore, IsCollected, AreMet, MayBeMet, NoneMet}
use Rattle.sc_propagation.specs.Propagation.{IsNew}
use Rattle.sc_propagation.specs.Readings.{AreFalse}
use Rattle.sc_propagation.specs.Steps.{At, IsNumbered, Shows}
use Rattle.sc_propagation.specs.Trails.{true_before, set_before, cell_of, HasPlace, set_at, IsReason, Agree, IsTrail, AreQuiet}
use Rattle.sc_propagation.specs.declared.cell.Cell.{Cell}
use Rattle.sc_propagation.specs.declared.cell.Cell.TheVariants.{Free, Decided, Implied}
use Rattle.sc_clauses.proofs.LitLaws.{negation_twice, bool_eq-true, lit_eq-true, lit_eq-itself}
use Rattle.sc_propagation.proofs.LitLaws.{tail-has, cons-cases, found, has-in}
use Rattle.sc_propagation.proofs.HintLaws.{refutes-conflict, refutes-unit}
use Rattle.sc_refutations.specs.Refutations.{negated, with_lit}
use Rattle.sc_propagation.proofs.WatchedLitLaws.{lit-of, lit-cases}

-- a literal that is true before place i + 1 is the one at i, or is true before i
pub before-cases : (cells : List Cell) (trail : List Lit) → Agree cells trail → (i : ℕ) (l m : Lit) → At trail i l → true_before cells (i + 1) m ≡ true → (l ≡ m) ⊎ (true_before cells i m ≡ true)
before-cases cells trail h i l m at b =
    let w = before-at cells m (i + 1) b in
    let j : ℕ = w.0 in
    let lt : j < i + 1 = w.1 in
    ⊎_elim
    (λ (e : j ≡ i).
    let is : At trail j m = h.on_trail m j w.2 in
    inl (sym at.1 ∙ subst (λ (k : ℕ). get_or trail k l ≡ m) e (get_or_default trail j l m is.0 ∙ is.1)))
    (λ (ne : j ≢ i). inr (at-before cells m j i w.2 (omega arith)))
    (cases_eq j i)

-- the clause at a place has the next number
numbered : (cs : List Clause) (k : ℕ) (c : Clause) → At cs k c → IsNumbered cs (k + 1) c
numbered cs k c at = let e : k ≡ k + 1 - 1 = omega arith in (omega arith, subst (λ (i : ℕ). At cs i c) e at)

-- the analysis begins with the falsified clause
pub refutes-first : (cs : List Clause) (cells : List Cell) (p i : ℕ) (met : List Bool) (c : Clause) → At cs i c → AreFalse cells p c → ((m : Lit) → Contains c m → IsMet met m)
    → RefutesMet cs cells p p met ((i + 1) ∷ [])
refutes-first cs cells p i met c at false' is_met known has only = refutes-conflict cs known (i + 1) c (numbered cs i c at) (λ m cm. has (negation m) (false' m cm) (is_met m cm))

-- it passes over a literal that wasn't met
pub refutes-skip : (cs : List Clause) (cells : List Cell) (trail : List Lit) (p i : ℕ) (met : List Bool) (hints : List ℕ) (l : Lit) → Agree cells trail → At trail i l → get_or met l.atom false ≡ false
    → RefutesMet cs cells p (i + 1) met hints → RefutesMet cs cells p i met hints
refutes-skip cs cells trail p i met hints l agree at unmet h known has only =
    h known
    (λ m b is_met.
    ⊎_elim
    (λ (e : l ≡ m). absurd (true≢false (sym (subst (λ (w : Lit). IsMet met w) (sym e) is_met) ∙ unmet)))
    (λ (b' : true_before cells i m ≡ true). has m b' is_met)
    (before-cases cells trail agree i l m at b))
    only

-- it resolves with the reason of a met one
pub refutes-resolve : (cs : List Clause) (cells : List Cell) (trail : List Lit) (p i r : ℕ) (met after : List Bool) (hints : List ℕ) (l : Lit) → Agree cells trail → At trail i l → i < p
    → (why : IsReason cs cells l i r) → MeetsMore met after → ((m : Lit) → Contains (why.clause) m → IsMet after m)
    → RefutesMet cs cells p (i + 1) met hints → RefutesMet cs cells p i after (hints ++ (r + 1) ∷ [])
refutes-resolve cs cells trail p i r met after hints l agree at lt why grow is_met h known has only =
    let is : HasPlace cells l i = subst (λ (w : Lit). HasPlace cells w i) at.1 (agree.placed i l at.0) in
    let here : true_before cells p l ≡ true = at-before cells l i p is lt in
    rw (reverse-append)
    (refutes-unit cs known (r + 1) (reverse hints) why.clause l (numbered cs r why.clause why.at) why.has
    (false_from_ne_true _ (λ known'. true≢false (sym (only (negation l) known') ∙ consistent cells p l here)))
    (λ m cm ne. has (negation m) (why.others m cm ne) (is_met m cm))
    (h (with_lit known l)
    (λ m b is_met.
    ⊎_elim
    (λ (e : l ≡ m). or_left (lit_eq m l) (known m) (subst (λ (w : Lit). lit_eq w l ≡ true) e (lit_eq-itself l)))
    (λ (b' : true_before cells i m ≡ true). or_right (lit_eq m l) (known m) (has m b' (grow m is_met)))
    (before-cases cells trail agree i l m at b))
    (λ m known'.
    ⊎_elim
    (λ (e : lit_eq m l ≡ true). subst (λ (w : Lit). true_before cells p w ≡ true) (sym (lit_eq-true m l e)) here)
    (λ (k : known m ≡ true). only m k)
    (or_cases (lit_eq m l) (known m) known'))))

one-sign : (c : Cell) (p q : ℕ) (s t : Bool) → set_before c p s ≡ true → set_before c q t ≡ true → s ≡ t
one-sign Free p q s t e f = absurd cc
one-sign (Decided n k) p q s t e f = sym (bool_eq-true n s (and_first _ _ e)) ∙ bool_eq-true n t (and_first _ _ f)
one-sign (Implied n k r) p q s t e f = sym (bool_eq-true n s (and_first _ _ e)) ∙ bool_eq-true n t (and_first _ _ f)

pub same-lit : (cells : List Cell) (p q : ℕ) (a b : Lit) → true_before cells p a ≡ true → true_before cells q b ≡ true → a.atom ≡ b.atom → a ≡ b
same-lit cells p q a b ba bb e =
    let bb' : set_before (cell_of cells a) q b.negated ≡ true = subst (λ (k : ℕ). set_before (get_or cells k Free) q b.negated ≡ true) (sym e) bb in
    lit-of _ _ _ _ (one-sign (cell_of cells a) p q a.negated b.negated ba bb') e

met-set : (met : List Bool) (m w : Lit) → w.atom ≢ m.atom → IsMet (set met m.atom true) w → IsMet met w
met-set met m w ne h = sym (get_or-set_other met m.atom w.atom true false ne) ∙ h

pub grow-set : (met : List Bool) (m : Lit) → m.atom < length met → MeetsMore met (set met m.atom true)
grow-set met m lt w h =
    ⊎_elim
    (λ (e : w.atom ≡ m.atom). subst (λ (k : ℕ). get_or (set met m.atom true) k false ≡ true) (sym e) (get_or-set_same met m.atom true false lt))
    (λ (ne : w.atom ≢ m.atom). get_or-set_other met m.atom w.atom true false ne ∙ h)
    (cases_eq w.atom m.atom)

pub same-lower : (n : ℕ) (cells : List Cell) (first : ℕ) (met : List Bool) (a b : List Lit) → HaveSame b a → IsCollected n cells first met a → IsCollected n cells first met b
same-lower n cells first met a b s h = record { sized = h.sized; covers = λ w bw mw. s.back (negation w) (h.covers w bw mw); are_lower = λ w has. h.are_lower w (s.there w has) }

-- a false literal is met: it was false before the level, or became so in it
module _ (n : ℕ) (cells : List Cell) (p first : ℕ) (met : List Bool) (lower : List Lit) (m : Lit) (h : IsCollected n cells first met lower) (is_false : true_before cells p (negation m) ≡ true) where
  pub collected-lower : true_before cells first (negation m) ≡ true → IsCollected n cells first (set met m.atom true) (lower ++ m ∷ [])
  collected-lower b = record {
    sized = length-set met m.atom true ∙ h.sized;
    covers = λ w bw mw.
        ⊎_elim
        (λ (e : w.atom ≡ m.atom).
        let s : w ≡ negation m = same-lit cells first first w (negation m) bw b e in
        subst (λ (x : Lit). Contains (lower ++ m ∷ []) x) (sym (ap negation s ∙ negation_twice m)) (Contains-push lower m))
        (λ (ne : w.atom ≢ m.atom). Contains-append_left lower (m ∷ []) (negation w) (h.covers w bw (met-set met m w ne mw)))
        (cases_eq w.atom m.atom);
    are_lower = λ w has. ⊎_elim (λ (old : Contains lower w). h.are_lower w old) (λ (e : m ≡ w). subst (λ (x : Lit). true_before cells first (negation x) ≡ true) e b) (Contains-push_cases lower m w has);
  }

  pub collected-here : true_before cells first (negation m) ≡ false → IsCollected n cells first (set met m.atom true) lower
  collected-here b = record {
    sized = length-set met m.atom true ∙ h.sized;
    covers = λ w bw mw.
        ⊎_elim
        (λ (e : w.atom ≡ m.atom).
        let s : w ≡ negation m = same-lit cells first p w (negation m) bw is_false e in
        absurd (true≢false (sym (subst (λ (x : Lit). true_before cells first x ≡ true) s bw) ∙ b)))
        (λ (ne : w.atom ≢ m.atom). h.covers w bw (met-set met m w ne mw))
        (cases_eq w.atom m.atom);
    are_lower = h.are_lower;
  }

below-default : (met : List Bool) (a : ℕ) (r : Bool) → get_or met a false ≡ true → get_or met a false ≡ get_or met a r
below-default met a r h =
    ⊎_elim
    (λ (lt : a < length met). get_or_default met a false r lt)
    (λ (le : length met ≤ a). absurd (true≢false (sym h ∙ get_or-eq_default met false le)))
    (cases_lt a (length met))

pub not-met : {A : Type 0} (met : List Bool) (m : Lit) (r : Bool) → IsMet met m ⊎ A → r ≡ get_or met m.atom r → r ≡ false → A
not-met met m r (inl h) is e = absurd (true≢false (sym h ∙ below-default met m.atom r h ∙ sym is ∙ e))
not-met met m r (inr a) is e = a

pub met-more : (met : List Bool) (c : List Lit) (i : ℕ) (d : Lit) → i < length c → AreMet met (take i c) → IsMet met (get_or c i d) → AreMet met (take (i + 1) c)
met-more met c i d lt h here =
    subst (λ (ds : List Lit). AreMet met ds) (sym (take_more c i d lt))
    (λ m has. ⊎_elim (λ (old : Contains (take i c) m). h m old) (λ (e : get_or c i d ≡ m). subst (λ (x : Lit). IsMet met x) e here) (Contains-push_cases (take i c) (get_or c i d) m has))

-- the cell of a literal on the trail
module _ (cells : List Cell) (trail : List Lit) (agree : Agree cells trail) (i : ℕ) (l : Lit) (at : At trail i l) where
  pub trail-at : HasPlace cells l i
  trail-at = subst (λ (w : Lit). HasPlace cells w i) at.1 (agree.placed i l at.0)

  pub trail-in-cells : l.atom < length cells
  trail-in-cells =
      ⊎_elim (λ (h : l.atom < length cells). h)
      (λ (h : length cells ≤ l.atom). absurd (subst (λ (x : Cell). set_at x l.negated i) (get_or-eq_default cells Free h) trail-at))
      (cases_lt l.atom (length cells))

  pub cell-read : (r : Cell) → r ≡ get_or cells l.atom r → cell_of cells l ≡ r
  cell-read r e = get_or_default cells l.atom Free r trail-in-cells ∙ sym e

  pub not-free : cell_of cells l ≡ Free → ⊥
  not-free e = subst (λ (x : Cell). set_at x l.negated i) e trail-at

module _ (n : ℕ) (cs : List Clause) (cells : List Cell) (trail : List Lit) (levels : List ℕ) (sound : IsTrail n cs cells trail levels (length trail)) (i : ℕ) (l : Lit) (at : At trail i l) where
  pub reason-at : (s : Bool) (q r : ℕ) → cell_of cells l ≡ Implied s q r → IsReason cs cells l i r
  reason-at s q r e =
      let h : set_at (Implied s q r) l.negated i = subst (λ (x : Cell). set_at x l.negated i) e (trail-at cells trail sound.agree i l at) in
      sound.reasons l i r (subst (λ (t : Bool). cell_of cells l ≡ Implied t i r) h.0 (subst (λ (k : ℕ). cell_of cells l ≡ Implied s k r) h.1 e))

  pub decision-at : (s : Bool) (q : ℕ) → cell_of cells l ≡ Decided s q → Contains levels i
  decision-at s q e =
      let h : set_at (Decided s q) l.negated i = subst (λ (x : Cell). set_at x l.negated i) e (trail-at cells trail sound.agree i l at) in
      sound.are_levels.decided l i (subst (λ (t : Bool). cell_of cells l ≡ Decided t i) h.0 (subst (λ (k : ℕ). cell_of cells l ≡ Decided s k) h.1 e)) at.0

  -- each literal of the reason was met or is false
  pub reason-may-be-met : (r : ℕ) (met : List Bool) → IsMet met l → (why : IsReason cs cells l i r) → MayBeMet cells (length trail) met (why.clause)
  reason-may-be-met r met is_met why m cm =
      ⊎_elim
      (λ (e : m ≡ l). inl (subst (λ (w : Lit). IsMet met w) (sym e) is_met))
      (λ (ne : m ≢ l). let lt : i < length trail = at.0 in inr (before-more cells i (length trail) (negation m) (omega arith) (why.others m cm ne)))
      (lit-cases m l)

pub read-met : (met : List Bool) (m : Lit) (r : Bool) → m.atom < length met → r ≡ get_or met m.atom r → get_or met m.atom false ≡ r
read-met met m r lt e = get_or_default met m.atom false r lt ∙ sym e

pub not-lower : (cells : List Cell) (first p : ℕ) (m : Lit) → true_before cells p m ≡ false → first ≤ p → true_before cells first m ≡ false
not-lower cells first p m f le = false_from_ne_true _ (λ e. true≢false (sym (before-more cells first p m le e) ∙ f))

-- where one met literal of the level is left: the clause of its negation and of what was met before the level
module _ (cs : List Clause) (cells : List Cell) (trail : List Lit) (agree : Agree cells trail) (first i : ℕ) (met : List Bool) (lower : List Lit) (hints : List ℕ) (uip : Lit) (n : ℕ)
    (at : At trail i uip) (from : first ≤ i) (collected : IsCollected n cells first met lower) (none : NoneMet trail met first i) (h : RefutesMet cs cells (length trail) (i + 1) met hints) where
  uip-at : HasPlace cells uip i
  uip-at = trail-at cells trail agree i uip at

  pub uip-true : true_before cells (length trail) uip ≡ true
  uip-true = at-before cells uip i (length trail) uip-at at.0

  pub uip-here : true_before cells first uip ≡ false
  uip-here = at-not-before cells uip i first uip-at from

  pub refutes-final : Shows cs (negation uip ∷ lower) (reverse hints)
  refutes-final =
      let C = negation uip ∷ lower in
      let in_range : i < length trail = at.0 in
      let low = λ (m : Lit) (b : true_before cells first m ≡ true) (is_met : IsMet met m).
      has-in C (negation m) (tail-has (negation uip) (negation m) lower (collected.covers m b is_met)) in
      h (negated C)
      (λ m b is_met.
      ⊎_elim
      (λ (e : uip ≡ m). subst (λ (w : Lit). is_in C (negation w) ≡ true) e (has-in C (negation uip) (contains_first (negation uip) lower)))
      (λ (b' : true_before cells i m ≡ true).
      let w = before-at cells m i b' in
      ⊎_elim
      (λ (lt : w.0 < first). low m (at-before cells m w.0 first w.2 lt) is_met)
      (λ (le : first ≤ w.0).
      let is : At trail w.0 m = agree.on_trail m w.0 w.2 in
      absurd (none w.0 m le w.1 (subst (λ (x : Lit). IsMet met x) (sym is.1) is_met)))
      (cases_lt w.0 first))
      (before-cases cells trail agree i uip m at b))
      (λ m has.
      ⊎_elim
      (λ (e : negation uip ≡ negation m). subst (λ (w : Lit). true_before cells (length trail) w ≡ true) (sym (negation_twice uip) ∙ ap negation e ∙ negation_twice m) uip-true)
      (λ (old : Contains lower (negation m)).
      before-more cells first (length trail) m (omega arith) (subst (λ (w : Lit). true_before cells first w ≡ true) (negation_twice m) (collected.are_lower (negation m) old)))
      (cons-cases (negation uip) (negation m) lower (found C (negation m) has)))

  pub learned-new : AreQuiet (true_before cells first) cs → IsNew cs (negation uip ∷ lower)
  learned-new quiet = (
    negation uip,
    new-by (true_before cells first) (consistent cells first) cs quiet (negation uip ∷ lower) (negation uip)
        (λ m has ne. ⊎_elim (λ (e : negation uip ≡ m). absurd (ne (sym e))) (λ (old : Contains lower m). collected.are_lower m old) (cons-cases (negation uip) m lower has))
        (contains_first (negation uip) lower)
        (not-lower cells first (length trail) (negation uip) (consistent cells (length trail) uip uip-true) (let lt : i < length trail = at.0 in omega arith)),
  )

pub collected-fresh : (n : ℕ) (cells : List Cell) (first : ℕ) (met : List Bool) (lower : List Lit) → met ≡ replicate n false → lower ≡ [] → IsCollected n cells first met lower
collected-fresh n cells first met lower e f = record {
  sized = ap length e ∙ length-replicate n false;
  covers = λ m b is_met. absurd (true≢false (sym (subst (λ (ms : List Bool). IsMet ms m) e is_met) ∙ all_the_same n m.atom false));
  are_lower = λ m has. absurd (contains_nothing m (subst (λ (xs : List Lit). Contains xs m) f has));
}

-- where no place is left nothing was assumed
pub refutes-none : (cs : List Clause) (cells : List Cell) (p i : ℕ) (met : List Bool) (hints : List ℕ) → i ≤ 0 → RefutesMet cs cells p i met hints → Shows cs [] (reverse hints)
refutes-none cs cells p i met hints le h =
    h (negated []) (λ m b is_met. let w = before-at cells m i b in let lt : w.0 < i = w.1 in absurd (omega arith)) (λ m has. absurd cc)
