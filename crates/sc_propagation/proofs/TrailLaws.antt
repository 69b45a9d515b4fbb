-- Each move of the search leads from a trail to a trail.
use Rattle.std.proofs.Common.{◌≡◌, ◌≢◌, ⊎_elim, ℕ, ◌+◌, ◌<◌, ◌≤◌, List, [], ◌∷◌, ◌++◌, Bool, true, false, ◌&&◌, ltb, length, get_or, refl, sym, ap, ◌∙◌, subst, arith, get_or-set_same, get_or-set_other, take, Option, Some, None, MatchOption, replicate}
use Rattle.std.specs.List.{Contains}
use Rattle.std.proofs.Math.ListN.{set, length-set, get_or-append, get_or-eq_default}
use Rattle.std.proofs.Math.Seq.{get_or-append_seam}
use Rattle.std.proofs.lemmas.List.{length-append, get_or-replicate, length-replicate, get_or_default, get_or-take, length-take-le}
use Rattle.std.proofs.lemmas.List.Elements.{Contains-append_left, Contains-push, Contains-push_cases}
use Rattle.std.proofs.lemmas.Bool.Decides.{Decides-ltb}
use Rattle.std.specs.List.{sum_by}
use Rattle.std.proofs.lemmas.List.Sums.{sum_by-set}
use Rattle.sc_clauses.specs.Clauses.{negation, Clause, bool_eq}
use Rattle.sc_clauses.specs.declared.lit.Lit.{Lit}
use Rattle.sc_propagation.proofs.CellLaws.{before-set}
use Rattle.sc_propagation.specs.Steps.{At}
use Rattle.sc_propagation.specs.Trails.{set_before, cell_of, true_before, set_at, HasPlace, IsQuiet, AreQuiet, IsReason, Agree, IsTrail, InCells, IsChoice, AreAllSet, one_if_free, free_count}
use Rattle.sc_propagation.specs.declared.cell.Cell.{Cell}
use Rattle.sc_propagation.specs.declared.cell.Cell.TheVariants.{Free, Decided, Implied}
use Rattle.sc_propagation.proofs.WatchedLitLaws.{lit-of}
use Rattle.std.proofs.lemmas.Bool.{cases_eq, cases_lt}

-- the cell has the literal's sign from place p on, and not the other
abbrev pub HoldsFrom : Cell → Lit → ℕ → Type 0
HoldsFrom x l p = ((s : Bool) (i : ℕ) → set_at x s i → (s ≡ l.negated) × (i ≡ p)) × set_at x l.negated p

ltb-false-by : (q p : ℕ) → p ≤ q → (t : Bool) → ltb q p ≡ t → ltb q p ≡ false
ltb-false-by q p h true e = let lt : q < p = (Decides-ltb q p).0 e in absurd (omega arith)
ltb-false-by q p h false e = e

ltb-false : (q p : ℕ) → p ≤ q → ltb q p ≡ false
ltb-false q p h = ltb-false-by q p h (ltb q p) refl

and-false : (b : Bool) → b && false ≡ false
and-false true = refl
and-false false = refl

late-by : (n s : Bool) (q p : ℕ) → p ≤ q → bool_eq n s && ltb q p ≡ false
late-by n s q p h = rw (ltb-false q p h) (and-false (bool_eq n s))

-- such a cell says nothing of earlier places
late : (x : Cell) (l : Lit) (p p' : ℕ) → HoldsFrom x l p → p' ≤ p → (s : Bool) → set_before x p' s ≡ false
late Free l p p' h le s = absurd h.1
late (Decided n q) l p p' h le s = late-by n s q p' (let e : q ≡ p = h.1.1 in omega arith)
late (Implied n q r) l p p' h le s = late-by n s q p' (let e : q ≡ p = h.1.1 in omega arith)

-- the cells after a write
other-cell : (cells : List Cell) (a : ℕ) (x : Cell) (m : Lit) → m.atom ≢ a → cell_of (set cells a x) m ≡ cell_of cells m
other-cell cells a x m ne = get_or-set_other cells a m.atom x Free ne

same-cell : (cells : List Cell) (a : ℕ) (x : Cell) (m : Lit) → m.atom ≡ a → a < length cells → cell_of (set cells a x) m ≡ x
same-cell cells a x m e h = subst (λ (b : ℕ). get_or (set cells a x) b Free ≡ x) (sym e) (get_or-set_same cells a x Free h)

at-free : (c : Cell) (s : Bool) (i : ℕ) → c ≡ Free → set_at c s i → ⊥
at-free c s i e a = subst (λ (x : Cell). set_at x s i) e a

-- a literal is appended
module _ (cells : List Cell) (trail : List Lit) (l : Lit) (x : Cell) (free : cell_of cells l ≡ Free) (some : 0 < l.atom) (in_range : l.atom < length cells) (holds : HoldsFrom x l (length trail)) where
  pub before-kept : (p : ℕ) → p ≤ length trail → true_before (set cells l.atom x) p ≡ true_before cells p
  before-kept p le = before-set cells l.atom p x in_range (λ s. late x l (length trail) p holds le s ∙ ap (λ (c : Cell). set_before c p s) (sym free))

  pub placed-push : Agree cells trail → Agree (set cells l.atom x) (trail ++ l ∷ [])
  placed-push h = record {
    placed = λ i d lt.
        ⊎_elim
        (λ (e : i ≡ length trail).
        let here : get_or (trail ++ l ∷ []) i d ≡ l = subst (λ (k : ℕ). get_or (trail ++ l ∷ []) k d ≡ l) (sym e) (get_or-append_seam trail l [] d) in
        let cell : cell_of (set cells l.atom x) l ≡ x = get_or-set_same cells l.atom x Free in_range in
        subst (λ (m : Lit). HasPlace (set cells l.atom x) m i) (sym here)
        (subst (λ (c : Cell). set_at c l.negated i) (sym cell) (subst (λ (k : ℕ). set_at x l.negated k) (sym e) holds.1)))
        (λ (ne : i ≢ length trail).
        let old : i < length trail = omega (arith, simp length-append at lt) in
        let m : Lit = get_or trail i d in
        let same : get_or (trail ++ l ∷ []) i d ≡ m = get_or-append trail (l ∷ []) d i old in
        let at : HasPlace cells m i = h.placed i d old in
        let apart : m.atom ≢ l.atom = λ e. at-free (cell_of cells m) m.negated i (subst (λ (b : ℕ). get_or cells b Free ≡ Free) (sym e) free) at in
        subst (λ (w : Lit). HasPlace (set cells l.atom x) w i) (sym same)
        (subst (λ (c : Cell). set_at c m.negated i) (sym (other-cell cells l.atom x m apart)) at))
        (cases_eq i (length trail));
    on_trail = λ m i at.
        ⊎_elim
        (λ (e : m.atom ≡ l.atom).
        let held : set_at x m.negated i = subst (λ (c : Cell). set_at c m.negated i) (same-cell cells l.atom x m e in_range) at in
        let both = holds.0 m.negated i held in
        let same : m ≡ l = lit-of _ _ _ _ both.0 e in
        let k : i ≡ length trail = both.1 in
        (omega (arith, length-append trail (l ∷ [])), subst (λ (j : ℕ). get_or (trail ++ l ∷ []) j m ≡ m) (sym k) (get_or-append_seam trail l [] m ∙ sym same)))
        (λ (ne : m.atom ≢ l.atom).
        let old : At trail i m = h.on_trail m i (subst (λ (c : Cell). set_at c m.negated i) (other-cell cells l.atom x m ne) at) in
        let lt : i < length trail = old.0 in
        (omega (arith, length-append trail (l ∷ [])), get_or-append trail (l ∷ []) m i lt ∙ old.1))
        (cases_eq m.atom l.atom);
    unused = get_or-set_other cells l.atom 0 x Free (λ (e : 0 ≡ l.atom). omega arith) ∙ h.unused;
  }

reason-kept : (cs : List Clause) (cells after : List Cell) (m : Lit) (i q : ℕ) → true_before after i ≡ true_before cells i → IsReason cs cells m i q → IsReason cs after m i q
reason-kept cs cells after m i q same h = record {
  clause = h.clause;
  at = h.at;
  has = h.has;
  others = λ w cw ne. ap (λ (T : Lit → Bool). T (negation w)) same ∙ h.others w cw ne;
}

decided-at : (c : Cell) (s : Bool) (i : ℕ) → c ≡ Decided s i → set_at c s i
decided-at c s i e = subst (λ (x : Cell). set_at x s i) (sym e) (refl, refl)

implied-at : (c : Cell) (s : Bool) (i q : ℕ) → c ≡ Implied s i q → set_at c s i
implied-at c s i q e = subst (λ (x : Cell). set_at x s i) (sym e) (refl, refl)

pub implied-holds : (l : Lit) (p r : ℕ) → HoldsFrom (Implied l.negated p r) l p
implied-holds l p r = ((λ s i a. (sym a.0, sym a.1)), (refl, refl))

pub decided-holds : (l : Lit) (p : ℕ) → HoldsFrom (Decided l.negated p) l p
decided-holds l p = ((λ s i a. (sym a.0, sym a.1)), (refl, refl))

module _ (n : ℕ) (cs : List Clause) (cells : List Cell) (trail : List Lit) (levels : List ℕ) (l : Lit)
    (sound : IsTrail n cs cells trail levels (length trail)) (free : cell_of cells l ≡ Free) (in_range : InCells n l) where
  len-more : length (trail ++ l ∷ []) ≡ length trail + 1
  len-more = length-append trail (l ∷ [])

  in_cells : l.atom < length cells
  in_cells = let e = sound.sized in let h : l.atom < n = in_range.1 in omega arith

  pub trail-imply : (r : ℕ) → IsReason cs cells l (length trail) r → IsTrail n cs (set cells l.atom (Implied l.negated (length trail) r)) (trail ++ l ∷ []) levels (length (trail ++ l ∷ []))
  trail-imply r why =
      let x : Cell = Implied l.negated (length trail) r in
      let kept = before-kept cells trail l x free in_range.0 in_cells (implied-holds l (length trail) r) in
      record {
        sized = length-set cells l.atom x ∙ sound.sized;
        bounded = omega arith;
        agree = placed-push cells trail l x free in_range.0 in_cells (implied-holds l (length trail) r) sound.agree;
        are_levels = record {
          ascending = sound.are_levels.ascending;
          within = λ k lt. let h = sound.are_levels.within k lt in let e = len-more in omega arith;
          decided = λ m i e lt.
              ⊎_elim
              (λ (s : m.atom ≡ l.atom). let f : x ≡ Decided m.negated i = sym (same-cell cells l.atom x m s in_cells) ∙ e in absurd cc)
              (λ (ne : m.atom ≢ l.atom).
              let old : cell_of cells m ≡ Decided m.negated i = sym (other-cell cells l.atom x m ne) ∙ e in
              sound.are_levels.decided m i old (sound.agree.on_trail m i (decided-at _ _ _ old)).0)
              (cases_eq m.atom l.atom);
        };
        reasons = λ m i q e.
            ⊎_elim
            (λ (s : m.atom ≡ l.atom).
            let f : x ≡ Implied m.negated i q = sym (same-cell cells l.atom x m s in_cells) ∙ e in
            let same : l ≡ m = lit-of _ _ _ _ (cc) (sym s) in
            let place : length trail ≡ i = cc in
            let by : r ≡ q = cc in
            subst (λ (w : Lit). IsReason cs (set cells l.atom x) w i q) same
            (subst (λ (j : ℕ). IsReason cs (set cells l.atom x) l j q) place
            (subst (λ (j : ℕ). IsReason cs (set cells l.atom x) l (length trail) j) by
            (reason-kept cs cells _ l (length trail) r (kept (length trail) (omega arith)) why))))
            (λ (ne : m.atom ≢ l.atom).
            let old : cell_of cells m ≡ Implied m.negated i q = sym (other-cell cells l.atom x m ne) ∙ e in
            let lt : i < length trail = (sound.agree.on_trail m i (implied-at _ _ _ q old)).0 in
            reason-kept cs cells _ m i q (kept i (omega arith)) (sound.reasons m i q old))
            (cases_eq m.atom l.atom);
        quiet = λ k lt.
            let h = sound.are_levels.within k lt in
            subst (λ (T : Lit → Bool). AreQuiet T cs) (sym (kept (get_or levels k 0) (omega arith))) (sound.quiet k lt);
      }

  pub trail-decide : AreQuiet (true_before cells (length trail)) cs
      → IsTrail n cs (set cells l.atom (Decided l.negated (length trail))) (trail ++ l ∷ []) (levels ++ length trail ∷ []) (length (trail ++ l ∷ []))
  trail-decide now =
      let x : Cell = Decided l.negated (length trail) in
      let p = length trail in
      let after = levels ++ p ∷ [] in
      let kept = before-kept cells trail l x free in_range.0 in_cells (decided-holds l (length trail)) in
      let top : get_or after (length levels) 0 ≡ p = get_or-append_seam levels p [] 0 in
      let low = λ (k : ℕ) (lt : k < length levels). get_or-append levels (p ∷ []) 0 k lt in
      let more : length after ≡ length levels + 1 = length-append levels (p ∷ []) in
      record {
        sized = length-set cells l.atom x ∙ sound.sized;
        bounded = omega arith;
        agree = placed-push cells trail l x free in_range.0 in_cells (decided-holds l (length trail)) sound.agree;
        are_levels = record {
          ascending = λ j k jk lt.
              ⊎_elim
              (λ (e : k ≡ length levels).
              let j_old : j < length levels = omega arith in
              let a = low j j_old in
              let b = sound.are_levels.within j j_old in
              let t : get_or after k 0 ≡ p = subst (λ (i : ℕ). get_or after i 0 ≡ p) (sym e) top in
              omega arith)
              (λ (ne : k ≢ length levels).
              let k_old : k < length levels = omega arith in
              let j_old : j < length levels = omega arith in
              let a = low j j_old in
              let b = low k k_old in
              let c = sound.are_levels.ascending j k jk k_old in
              omega arith)
              (cases_eq k (length levels));
          within = λ k lt.
              let e' = len-more in
              ⊎_elim
              (λ (e : k ≡ length levels). let t : get_or after k 0 ≡ p = subst (λ (i : ℕ). get_or after i 0 ≡ p) (sym e) top in omega arith)
              (λ (ne : k ≢ length levels). let k_old : k < length levels = omega arith in let a = low k k_old in let b = sound.are_levels.within k k_old in omega arith)
              (cases_eq k (length levels));
          decided = λ m i e lt.
              ⊎_elim
              (λ (s : m.atom ≡ l.atom).
              let f : x ≡ Decided m.negated i = sym (same-cell cells l.atom x m s in_cells) ∙ e in
              let place : p ≡ i = cc in
              subst (λ (j : ℕ). Contains after j) place (Contains-push levels p))
              (λ (ne : m.atom ≢ l.atom).
              let old : cell_of cells m ≡ Decided m.negated i = sym (other-cell cells l.atom x m ne) ∙ e in
              Contains-append_left levels (p ∷ []) i (sound.are_levels.decided m i old (sound.agree.on_trail m i (decided-at _ _ _ old)).0))
              (cases_eq m.atom l.atom);
        };
        reasons = λ m i q e.
            ⊎_elim
            (λ (s : m.atom ≡ l.atom). let f : x ≡ Implied m.negated i q = sym (same-cell cells l.atom x m s in_cells) ∙ e in absurd cc)
            (λ (ne : m.atom ≢ l.atom).
            let old : cell_of cells m ≡ Implied m.negated i q = sym (other-cell cells l.atom x m ne) ∙ e in
            let lt : i < length trail = (sound.agree.on_trail m i (implied-at _ _ _ q old)).0 in
            reason-kept cs cells _ m i q (kept i (omega arith)) (sound.reasons m i q old))
            (cases_eq m.atom l.atom);
        quiet = λ k lt.
            ⊎_elim
            (λ (e : k ≡ length levels).
            let t : get_or after k 0 ≡ p = subst (λ (i : ℕ). get_or after i 0 ≡ p) (sym e) top in
            subst (λ (q : ℕ). AreQuiet (true_before (set cells l.atom x) q) cs) (sym t)
            (subst (λ (T : Lit → Bool). AreQuiet T cs) (sym (kept p (omega arith))) now))
            (λ (ne : k ≢ length levels).
            let k_old : k < length levels = omega arith in
            let h = sound.are_levels.within k k_old in
            subst (λ (q : ℕ). AreQuiet (true_before (set cells l.atom x) q) cs) (sym (low k k_old))
            (subst (λ (T : Lit → Bool). AreQuiet T cs) (sym (kept (get_or levels k 0) (omega arith))) (sound.quiet k k_old)))
            (cases_eq k (length levels));
      }

late-at : (c : Cell) (s : Bool) (i p : ℕ) → set_at c s i → p ≤ i → (t : Bool) → set_before Free p t ≡ set_before c p t
late-at Free s i p a le t = refl
late-at (Decided n q) s i p a le t = sym (late-by n t q p (let e : q ≡ i = a.1 in omega arith))
late-at (Implied n q r) s i p a le t = sym (late-by n t q p (let e : q ≡ i = a.1 in omega arith))

cell-at-one : (c : Cell) (s t : Bool) (i j : ℕ) → set_at c s i → set_at c t j → i ≡ j
cell-at-one Free s t i j a b = absurd a
cell-at-one (Decided n q) s t i j a b = sym a.1 ∙ b.1
cell-at-one (Implied n q r) s t i j a b = sym a.1 ∙ b.1

-- the last literal is taken back
module _ (n : ℕ) (cs : List Clause) (cells : List Cell) (t : List Lit) (levels : List ℕ) (l : Lit) (p : ℕ)
    (sound : IsTrail n cs cells (t ++ l ∷ []) levels p) (enough : p ≤ length t) where
  last-at : HasPlace cells l (length t)
  last-at =
      let k = length t in
      let lt : k < length (t ++ l ∷ []) = omega (arith, length-append t (l ∷ [])) in
      subst (λ (m : Lit). HasPlace cells m k) (get_or-append_seam t l [] l) (sound.agree.placed k l lt)

  in_range-last : l.atom < length cells
  in_range-last =
      ⊎_elim (λ (h : l.atom < length cells). h)
      (λ (h : length cells ≤ l.atom). absurd (at-free (cell_of cells l) l.negated (length t) (get_or-eq_default cells Free h) last-at))
      (cases_lt l.atom (length cells))

  pub before-pop : (q : ℕ) → q ≤ length t → true_before (set cells l.atom Free) q ≡ true_before cells q
  before-pop q le = before-set cells l.atom q Free in_range-last (λ s. late-at (cell_of cells l) l.negated (length t) q last-at le s)

  not-last : (m : Lit) (i : ℕ) → HasPlace cells m i → i < length t → m.atom ≢ l.atom
  not-last m i at lt e =
      let mine : set_at (cell_of cells l) m.negated i = subst (λ (a : ℕ). set_at (get_or cells a Free) m.negated i) e at in
      let same : i ≡ length t = cell-at-one (cell_of cells l) m.negated l.negated i (length t) mine last-at in
      omega arith

  taken : (m : Lit) → m.atom ≡ l.atom → cell_of (set cells l.atom Free) m ≡ Free
  taken m e = same-cell cells l.atom Free m e in_range-last

  length-more : length (t ++ l ∷ []) ≡ length t + 1
  length-more = length-append t (l ∷ [])

  pub trail-pop : IsTrail n cs (set cells l.atom Free) t levels p
  trail-pop = record {
    sized = length-set cells l.atom Free ∙ sound.sized;
    bounded = enough;
    agree = record {
      placed = λ i d lt.
          let m : Lit = get_or t i d in
          let same : get_or (t ++ l ∷ []) i d ≡ m = get_or-append t (l ∷ []) d i lt in
          let e = length-more in
          let longer : i < length (t ++ l ∷ []) = omega arith in
          let at : HasPlace cells m i = subst (λ (w : Lit). HasPlace cells w i) same (sound.agree.placed i d longer) in
          subst (λ (c : Cell). set_at c m.negated i) (sym (other-cell cells l.atom Free m (not-last m i at lt))) at;
      on_trail = λ m i at.
          ⊎_elim
          (λ (e : m.atom ≡ l.atom). absurd (at-free _ m.negated i (taken m e) at))
          (λ (ne : m.atom ≢ l.atom).
          let old : At (t ++ l ∷ []) i m = sound.agree.on_trail m i (subst (λ (c : Cell). set_at c m.negated i) (other-cell cells l.atom Free m ne) at) in
          let lt : i < length (t ++ l ∷ []) = old.0 in
          let e = length-more in
          ⊎_elim
          (λ (last : i ≡ length t).
          let is : get_or (t ++ l ∷ []) i m ≡ l = subst (λ (k : ℕ). get_or (t ++ l ∷ []) k m ≡ l) (sym last) (get_or-append_seam t l [] m) in
          let same : m ≡ l = sym old.1 ∙ is in
          absurd (ne (ap (λ (w : Lit). w.atom) same)))
          (λ (low : i ≢ length t).
          let low' : i < length t = omega arith in
          (low', sym (get_or-append t (l ∷ []) m i low') ∙ old.1))
          (cases_eq i (length t)))
          (cases_eq m.atom l.atom);
      unused =
          ⊎_elim
          (λ (e : 0 ≡ l.atom). subst (λ (a : ℕ). get_or (set cells l.atom Free) a Free ≡ Free) (sym e) (get_or-set_same cells l.atom Free Free in_range-last))
          (λ (ne : 0 ≢ l.atom). get_or-set_other cells l.atom 0 Free Free ne ∙ sound.agree.unused)
          (cases_eq 0 l.atom);
    };
    are_levels = record {
      ascending = sound.are_levels.ascending;
      within = sound.are_levels.within;
      decided = λ m i e lt.
          ⊎_elim
          (λ (s : m.atom ≡ l.atom). let f : Free ≡ Decided m.negated i = sym (taken m s) ∙ e in absurd cc)
          (λ (ne : m.atom ≢ l.atom). sound.are_levels.decided m i (sym (other-cell cells l.atom Free m ne) ∙ e) lt)
          (cases_eq m.atom l.atom);
    };
    reasons = λ m i q e.
        ⊎_elim
        (λ (s : m.atom ≡ l.atom). let f : Free ≡ Implied m.negated i q = sym (taken m s) ∙ e in absurd cc)
        (λ (ne : m.atom ≢ l.atom).
        let old : cell_of cells m ≡ Implied m.negated i q = sym (other-cell cells l.atom Free m ne) ∙ e in
        let lt : i < length (t ++ l ∷ []) = (sound.agree.on_trail m i (implied-at _ _ _ q old)).0 in
        let e' = length-more in
        reason-kept cs cells _ m i q (before-pop i (omega arith)) (sound.reasons m i q old))
        (cases_eq m.atom l.atom);
    quiet = λ k lt.
        let h = sound.are_levels.within k lt in
        subst (λ (T : Lit → Bool). AreQuiet T cs) (sym (before-pop (get_or levels k 0) (omega arith))) (sound.quiet k lt);
  }

-- the levels from j on are dropped
module _ (n : ℕ) (cs : List Clause) (cells : List Cell) (trail : List Lit) (levels : List ℕ) (p j : ℕ)
    (sound : IsTrail n cs cells trail levels p) (in_range : j < length levels) where
  pub trail-cut : IsTrail n cs cells trail (take j levels) (get_or levels j 0)
  trail-cut =
      let len : length (take j levels) ≡ j = length-take-le j levels (omega arith) in
      let low = λ (k : ℕ) (lt : k < j). get_or-take j levels k 0 lt in
      let below = sound.are_levels.within j in_range in
      let all = sound.bounded in
      record {
        sized = sound.sized;
        bounded = omega arith;
        agree = sound.agree;
        are_levels = record {
          ascending = λ i k ik lt.
              let a = low i (omega arith) in
              let b = low k (omega arith) in
              let c = sound.are_levels.ascending i k ik (omega arith) in
              omega arith;
          within = λ k lt. let a = low k (omega arith) in let c = sound.are_levels.ascending k j (omega arith) in_range in omega arith;
          decided = λ m i e lt.
              let old = sound.are_levels.decided m i e (omega arith) in
              let k : ℕ = old.0 in
              let is : get_or levels k 0 ≡ i = get_or_default levels k 0 i old.1 ∙ old.2 in
              ⊎_elim
              (λ (h : k < j). (k, omega arith, get_or-take j levels k i h ∙ old.2))
              (λ (h : j ≤ k).
              ⊎_elim
              (λ (same : j ≡ k). let s : get_or levels j 0 ≡ i = subst (λ (x : ℕ). get_or levels x 0 ≡ i) (sym same) is in absurd (omega arith))
              (λ (ne : j ≢ k). let c = sound.are_levels.ascending j k (omega arith) old.1 in absurd (omega arith))
              (cases_eq j k))
              (cases_lt k j);
        };
        reasons = sound.reasons;
        quiet = λ k lt. subst (λ (q : ℕ). AreQuiet (true_before cells q) cs) (sym (low k (omega arith))) (sound.quiet k (omega arith));
      }

-- a clause is added
module _ (n : ℕ) (cs : List Clause) (cells : List Cell) (trail : List Lit) (levels : List ℕ) (p : ℕ) (C : Clause) (sound : IsTrail n cs cells trail levels p) where
  pub trail-learn : ((k : ℕ) → k < length levels → IsQuiet (true_before cells (get_or levels k 0)) C) → IsTrail n (cs ++ C ∷ []) cells trail levels p
  trail-learn ok = record {
    sized = sound.sized;
    bounded = sound.bounded;
    agree = sound.agree;
    are_levels = sound.are_levels;
    reasons = λ m i q e.
        let h = sound.reasons m i q e in
        let lt : q < length cs = h.at.0 in
        record {
          clause = h.clause;
          at = (omega (arith, length-append cs (C ∷ [])), get_or-append cs (C ∷ []) h.clause q lt ∙ h.at.1);
          has = h.has;
          others = h.others;
        };
    quiet = λ k lt c has.
        ⊎_elim
        (λ (old : Contains cs c). sound.quiet k lt c old)
        (λ (e : C ≡ c). subst (λ (d : Clause). IsQuiet (true_before cells (get_or levels k 0)) d) e (ok k lt))
        (Contains-push_cases cs C c has);
  }

-- the same, with the new trail given by equations
pub trail-imply-to : (n : ℕ) (cs : List Clause) (cells : List Cell) (trail : List Lit) (levels : List ℕ) (l : Lit) → IsTrail n cs cells trail levels (length trail) → cell_of cells l ≡ Free → InCells n l
    → (r : ℕ) → IsReason cs cells l (length trail) r → (cells' : List Cell) (trail' : List Lit) (levels' : List ℕ) → cells' ≡ set cells l.atom (Implied l.negated (length trail) r) → trail' ≡ trail ++ l ∷ [] → levels' ≡ levels
    → IsTrail n cs cells' trail' levels' (length trail')
trail-imply-to n cs cells trail levels l sound free in_range r why cells' trail' levels' e f g =
    rw (e, f, g) (trail-imply n cs cells trail levels l sound free in_range r why)

pub trail-decide-to : (n : ℕ) (cs : List Clause) (cells : List Cell) (trail : List Lit) (levels : List ℕ) (l : Lit) → IsTrail n cs cells trail levels (length trail) → cell_of cells l ≡ Free → InCells n l
    → AreQuiet (true_before cells (length trail)) cs → (cells' : List Cell) (trail' : List Lit) (levels' : List ℕ) → cells' ≡ set cells l.atom (Decided l.negated (length trail)) → trail' ≡ trail ++ l ∷ [] → levels' ≡ levels ++ length trail ∷ []
    → IsTrail n cs cells' trail' levels' (length trail')
trail-decide-to n cs cells trail levels l sound free in_range now cells' trail' levels' e f g =
    rw (e, f, g) (trail-decide n cs cells trail levels l sound free in_range now)

pub free-set : (cells : List Cell) (a : ℕ) (x : Cell) → get_or cells a Free ≡ Free → a < length cells → one_if_free x ≡ 0 → free_count (set cells a x) + 1 ≡ free_count cells
free-set cells a x free h none =
    let e : sum_by one_if_free (set cells a x) + one_if_free (get_or cells a Free) ≡ sum_by one_if_free cells + one_if_free x = sum_by-set one_if_free cells a x Free h in
    let f : one_if_free (get_or cells a Free) ≡ 1 = ap one_if_free free in
    omega arith

module _ (n : ℕ) (cs : List Clause) (cells : List Cell) (trail : List Lit) (levels : List ℕ) (p : ℕ) (sound : IsTrail n cs cells trail levels p)
    (t : List Lit) (l : Lit) (cells' : List Cell) (levels' : List ℕ) (e : trail ≡ t ++ l ∷ []) (f : cells' ≡ set cells l.atom Free) (g : levels' ≡ levels) (more : p < length trail) where
  pop-enough : p ≤ length t
  pop-enough = let k : length trail ≡ length t + 1 = ap length e ∙ length-append t (l ∷ []) in omega arith

  pub trail-pop-to : IsTrail n cs cells' t levels' p
  trail-pop-to = rw (f, g) (trail-pop n cs cells t levels l p (rw e at sound) pop-enough)

  pub before-pop-to : (q : ℕ) → q ≤ p → true_before cells' q ≡ true_before cells q
  before-pop-to q le = rw f (before-pop n cs cells t levels l p (rw e at sound) pop-enough q (let h = pop-enough in omega arith))

-- where no atom is free each has a value
pub choice-or-all : (cells : List Cell) (r : Option ℕ) → MatchOption r ((a : ℕ) → ¬ IsChoice cells a) (IsChoice cells) → MatchOption r (AreAllSet cells) (IsChoice cells)
choice-or-all cells None h = λ a some lt e. h a (some, lt, e)
choice-or-all cells (Some a) h = h

free-all : (n a : ℕ) → get_or (replicate n Free) a Free ≡ Free
free-all n a =
    ⊎_elim
    (λ (lt : a < n). get_or-replicate n a Free Free lt)
    (λ (le : n ≤ a). get_or-eq_default (replicate n Free) Free (let e = length-replicate n Free in omega arith))
    (cases_lt a n)

empty : (n : ℕ) (cs : List Clause) → IsTrail n cs (replicate n Free) [] [] 0
empty n cs = record {
  sized = length-replicate n Free;
  bounded = omega arith;
  agree = record {
    placed = λ i d lt. absurd (omega arith);
    on_trail = λ l i at. absurd (at-free _ l.negated i (free-all n l.atom) at);
    unused = free-all n 0;
  };
  are_levels = record {
    ascending = λ j k jk lt. absurd (omega arith);
    within = λ k lt. absurd (omega arith);
    decided = λ l i e lt. absurd (omega arith);
  };
  reasons = λ l i r e. let f : Free ≡ Implied l.negated i r = sym (free-all n l.atom) ∙ e in absurd cc;
  quiet = λ k lt. absurd (omega arith);
}

-- the empty trail
pub trail-empty : (n : ℕ) (cs : List Clause) (cells : List Cell) (trail : List Lit) (levels : List ℕ) → cells ≡ replicate n Free → trail ≡ [] → levels ≡ [] → IsTrail n cs cells trail levels (length trail)
trail-empty n cs cells trail levels e f g = rw (e, f, g) (empty n cs)
