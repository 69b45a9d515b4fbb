-- What the last state of a search says, and what one more step keeps.
use Rattle.std.proofs.Common.{◌≡◌, ◌≢◌, inl, inr, ⊎_elim, ℕ, zero, suc, ◌+◌, ◌-◌, ◌<◌, ◌≤◌, List, [], ◌∷◌, ◌++◌, Bool, true, false, not, eqb, length, map, drop, get_or, slice_get, Option, None, Result, Ok, Err, IfOk, refl, sym, ap, ◌∙◌, subst, true≢false, arith}
use Rattle.std.specs.Prelude.{option_and_then, IsSome}
use Rattle.std.specs.List.{Contains}
use Rattle.std.proofs.lemmas.Bool.{ne_eqb, false_from_ne_true, cond-false}
use Rattle.std.proofs.lemmas.List.{length-append, length-map, length-drop, append-nil, append_assoc, map-append}
use Rattle.std.proofs.lemmas.List.Elements.{Contains-append_left}
use Rattle.sc_laws.proofs.BoolLaws.{and_second, and_first}
use Rattle.sc_lists.proofs.ListLaws.{contains_nothing}
use Rattle.sc_clauses.specs.Assignments.{Assignment, value_of, is_false, is_false_at, falsifies}
use Rattle.sc_clauses.specs.Clauses.{Clause, negation}
use Rattle.sc_clauses.specs.declared.lit.Lit.{Lit}
use Rattle.sc_clauses.specs.declared.step.Instance as instance
use Rattle.sc_clauses.specs.declared.step.Step.{Step}
use Rattle.sc_clauses.specs.declared.step.Step.TheVariants.{Instance, Learned}
use Rattle.sc_search.specs.Findings.{IsUnit, AreUnits, no_step, first_step, IsRefutation, IsSpent, IsConsistent, IsDue}
use Rattle.sc_propagation.specs.Propagation.{IsNew}
use Rattle.sc_propagation.specs.Steps.{AreListed, IsLawful, added, after}
use Rattle.sc_propagation.specs.Trails.{true_before, cell_of, set_at, Agree, AreQuiet, AreAllSet, AreInCells, AllInCells, HoldsTrail}
use Rattle.sc_search.specs.Turns.{IsReady, IsTotal, HasLearned, HasRefuted, HasAdded, HasEnded, HasSettled, IsTurn, IsSearching}
use Rattle.sc_propagation.specs.Rooms.{cell_value}
use Rattle.sc_propagation.specs.Visits.{AreSeenBut, IsWellWatched}
use Rattle.sc_propagation.specs.declared.cell.Cell.{Cell}
use Rattle.sc_propagation.specs.declared.cell.Cell.TheVariants.{Free, Decided, Implied}
use Rattle.sc_search.specs.declared.solver.Solver.{Solver}
use Rattle.sc_search.specs.declared.solver.Turn.{Turn}
use Rattle.sc_search.specs.declared.solver.Turn.TheVariants as turn
use Rattle.sc_propagation.proofs.RoomLaws.{in-cells-of-false, clause-of-false}
use Rattle.sc_propagation.proofs.CellLaws.{consistent}
use Rattle.sc_search.proofs.DueLaws.{falls}
use Rattle.sc_clauses.proofs.LitLaws.{bool_eq-true, negation_twice}
use Rattle.sc_propagation.proofs.LitLaws.{cons-cases, nil-of}
use Rattle.sc_propagation.proofs.NewnessLaws.{new-by, ok-conflict, uncovered}
use Rattle.sc_propagation.proofs.ReadingLaws.{at-end}

-- ---- the assignment of a trail's cells

value-at : (cells : List Cell) (k : ℕ) → option_and_then (λ (v : Option Bool). v) (slice_get (map cell_value cells) k) ≡ cell_value (get_or cells k Free)
value-at [] k = refl
value-at (c ∷ cells) zero = refl
value-at (c ∷ cells) (suc k) = value-at cells k

pub later-none : (cells : List Cell) → length cells ≡ 0 → [] ≡ map cell_value (drop 1 cells)
later-none cells e = ap (λ (cs : List Cell). map cell_value (drop 1 cs)) (sym (nil-of cells e))

pub later-some : (cells : List Cell) (first : Cell) (later : List Cell) → cells ≡ first ∷ later → map cell_value later ≡ map cell_value (drop 1 cells)
later-some cells first later e = ap (λ (cs : List Cell). map cell_value (drop 1 cs)) (sym e)

value-after : (cells : List Cell) (k : ℕ) → option_and_then (λ (v : Option Bool). v) (slice_get (map cell_value (drop 1 cells)) k) ≡ cell_value (get_or cells (suc k) Free)
value-after [] k = refl
value-after (c ∷ cells) k = value-at cells k

value-cell : (cells : List Cell) (a : ℕ) → 0 < a → value_of (map cell_value (drop 1 cells)) a ≡ cell_value (get_or cells a Free)
value-cell cells zero h = absurd (omega arith)
value-cell cells (suc k) h =
    let e : suc k - 1 ≡ k = omega arith in
    let m = map cell_value (drop 1 cells) in
    cond-false (eqb (suc k) 0) None _ (ne_eqb (suc k) 0 (λ z. omega arith))
    ∙ ap (λ (i : ℕ). option_and_then (λ (v : Option Bool). v) (slice_get m i)) e
    ∙ value-after cells k

flip : (n s : Bool) → not n ≡ s → n ≡ not s
flip true s e = ap not e
flip false s e = ap not e

false-at : (c : Cell) (negated : Bool) → is_false_at (cell_value c) negated ≡ true → (i : ℕ) × set_at c (not negated) i
false-at Free negated e = absurd (true≢false (sym e))
false-at (Decided n q) negated e = (q, (flip n negated (bool_eq-true _ _ e), refl))
false-at (Implied n q r) negated e = (q, (flip n negated (bool_eq-true _ _ e), refl))

is-false-by : (cells : List Cell) (a : ℕ) (negated : Bool) → is_false_at (value_of (map cell_value (drop 1 cells)) a) negated ≡ true → is_false_at (cell_value (get_or cells a Free)) negated ≡ true
is-false-by cells zero negated e = absurd (true≢false (sym e))
is-false-by cells (suc k) negated e = subst (λ (v : Option Bool). is_false_at v negated ≡ true) (value-cell cells (suc k) (omega arith)) e

-- a literal that the assignment makes false is false on the trail
false-on-trail : (cells : List Cell) (trail : List Lit) (l : Lit) → Agree cells trail → is_false (map cell_value (drop 1 cells)) l ≡ true → true_before cells (length trail) (negation l) ≡ true
false-on-trail cells trail l h e =
    let w = false-at (cell_of cells l) l.negated (is-false-by cells l.atom l.negated e) in
    at-end cells trail h (negation l) w.0 w.1

false-each : (m : Assignment) (c : Clause) → falsifies m c ≡ true → (l : Lit) → Contains c l → is_false m l ≡ true
false-each m [] e l has = absurd (contains_nothing l has)
false-each m (x ∷ c) e l has =
    ⊎_elim
    (λ (s : x ≡ l). subst (λ (w : Lit). is_false m w ≡ true) s (and_first (is_false m x) (falsifies m c) e))
    (λ (old : Contains c l). false-each m c (and_second (is_false m x) (falsifies m c) e) l old)
    (cons-cases x l c has)

-- so are the literals of a clause that it falsifies
pub falsified-on-trail : (cells : List Cell) (trail : List Lit) (c : Clause) → Agree cells trail → falsifies (map cell_value (drop 1 cells)) c ≡ true
    → (l : Lit) → Contains c l → true_before cells (length trail) (negation l) ≡ true
falsified-on-trail cells trail c h e l has = false-on-trail cells trail l h (false-each _ c e l has)

-- a quiet clause isn't falsified
pub quiet-kept : (cells : List Cell) (trail : List Lit) (cs : List Clause) → Agree cells trail → AreQuiet (true_before cells (length trail)) cs → (c : Clause) → Contains cs c → falsifies (map cell_value (drop 1 cells)) c ≡ false
quiet-kept cells trail cs h quiet c has =
    false_from_ne_true _ (λ e. ok-conflict (true_before cells (length trail)) (consistent cells (length trail)) c (quiet c has) (falsified-on-trail cells trail c h e))

some-value : (c : Cell) → c ≢ Free → IsSome (cell_value c)
some-value Free ne = absurd (ne refl)
some-value (Decided n q) ne = refl
some-value (Implied n q r) ne = refl

pub has-value : (cells : List Cell) → AreAllSet cells → (a : ℕ) → 0 < a → a < length cells → IsSome (value_of (map cell_value (drop 1 cells)) a)
has-value cells full a some lt = subst (λ (v : Option Bool). IsSome v) (sym (value-cell cells a some)) (some-value (get_or cells a Free) (full a some lt))

module _ (has_instance : instance.Instance → Type 0) (clause_of : instance.Instance → Clause) where
  -- an assignment that falsifies nothing
  pub consistent-found : (n atoms : ℕ) (s : Solver) → n ≡ atoms + 1 → IsReady n s → IsTotal s → (m : Assignment) → m ≡ map cell_value (drop 1 s.trail.cells.items)
      → ((i : instance.Instance) → has_instance i → falsifies m (clause_of i) ≡ false) → IsConsistent atoms has_instance clause_of s.clauses m
  consistent-found n atoms s e ready total m is none =
      let cells = s.trail.cells.items in
      let size : length cells ≡ atoms + 1 = ready.trail.sized ∙ e in
      record {
        count = ap length is ∙ (let k : length (map cell_value (drop 1 cells)) ≡ length (drop 1 cells) = simp length-map in let d : length (drop 1 cells) ≡ length cells - 1 = simp length-drop in omega arith);
        total = λ a some le. subst (λ (v : Assignment). IsSome (value_of v a)) (sym is) (has-value cells total.full a (omega arith) (omega arith));
        keeps_clauses = λ c has. subst (λ (v : Assignment). falsifies v c ≡ false) (sym is) (quiet-kept cells s.trail.lits.items s.clauses ready.trail.agree total.quiet c has);
        keeps_instances = none;
      }

  -- ---- steps

  -- a clause that a quiet trail falsifies is new, if it isn't empty
  new-of-false : (s : Solver) → IsTotal s → (C : Clause) → ((l : Lit) → Contains C l → true_before s.trail.cells.items (length s.trail.lits.items) (negation l) ≡ true) → C ≢ [] → IsNew s.clauses C
  new-of-false s total [] all some = absurd (some refl)
  new-of-false s total (l ∷ C) all some =
      let cells = s.trail.cells.items in
      let p = length s.trail.lits.items in
      let T = true_before cells p in
      let has : Contains (l ∷ C) l = (0, omega arith, refl) in (
        l,
        new-by T (consistent cells p) s.clauses total.quiet (l ∷ C) l (λ m h ne. all m h) has
            (subst (λ (w : Lit). T w ≡ false) (negation_twice l) (consistent cells p (negation l) (all l has))),
      )

  module _ (atoms : ℕ) (s : Solver) (ready : IsReady (atoms + 1) s) (total : IsTotal s) (i : instance.Instance) (accepted : has_instance i)
      (falsified : falsifies (map cell_value (drop 1 s.trail.cells.items)) (clause_of i) ≡ true) where
    all-false : (l : Lit) → Contains (clause_of i) l → true_before s.trail.cells.items (length s.trail.lits.items) (negation l) ≡ true
    all-false = falsified-on-trail s.trail.cells.items s.trail.lits.items (clause_of i) ready.trail.agree falsified

    pub told-in-cells : AllInCells (length s.trail.cells.items) (clause_of i)
    told-in-cells = in-cells-of-false s.trail.cells.items s.trail.lits.items (length s.trail.lits.items) (clause_of i) ready.trail.agree all-false

    pub told-lawful : IsLawful atoms has_instance clause_of s.clauses (Instance i)
    told-lawful = (accepted, clause-of-false s.trail.cells.items s.trail.lits.items (length s.trail.lits.items) atoms (clause_of i) ready.trail.sized ready.trail.agree all-false)

    -- one more step is due
    pub told-due : IsDue has_instance clause_of s.clauses
    told-due = inr (i, accepted, falls (atoms + 1) s.clauses s.trail.cells.items s.trail.lits.items s.trail.levels.items ready.trail (clause_of i) all-false)

    pub told-unit : clause_of i ≢ [] → IsUnit atoms has_instance clause_of s.clauses (Instance i)
    told-unit some =
        let is_new = new-of-false s total (clause_of i) all-false some in
        record { is_lawful = told-lawful; some = some; uncovered = uncovered s.clauses (clause_of i) is_new; is_new = is_new }

  not-nil : (C : Clause) (cs : List Clause) → IsNew cs C → C ≢ []
  not-nil C cs (l, (has, not_given, no_conflict)) e = contains_nothing l (subst (λ (d : Clause). Contains d l) e has)

  pub learned-added : (n atoms : ℕ) (cs : List Clause) (ss : List Step) (s : Solver) → n ≡ atoms + 1 → HasLearned n cs ss s → HasAdded atoms has_instance clause_of cs ss s
  learned-added n atoms cs ss s e h = record {
    step = Learned h.step;
    is_unit = record { is_lawful = h.is_shown atoms e; some = not-nil h.step.clause cs h.is_new; uncovered = uncovered cs h.step.clause h.is_new; is_new = h.is_new };
    clauses_more = h.clauses_more;
    steps_more = h.steps_more;
    ready = subst (λ (k : ℕ). IsReady k s) e h.ready;
  }

  pub refuted-ended : (atoms : ℕ) (cs : List Clause) (ss : List Step) (s : Solver) → HasRefuted cs ss s → HasEnded atoms has_instance clause_of cs ss s
  refuted-ended atoms cs ss s h = record { step = Learned h.step; is_lawful = h.is_shown atoms; is_empty = h.is_empty; steps_more = h.steps_more }

  module _ (atoms : ℕ) where
    -- units may be followed by more
    pub units-more : (cs : List Clause) (ss : List Step) (s : Step) → AreUnits atoms has_instance clause_of cs ss → IsUnit atoms has_instance clause_of (after clause_of cs ss) s → AreUnits atoms has_instance clause_of cs (ss ++ s ∷ [])
    units-more cs _ s (no_step _) unit =
        first_step cs s [] (subst (λ (ds : List Clause). IsUnit atoms has_instance clause_of ds s) (append-nil cs) unit) (no_step (cs ++ added clause_of s ∷ []))
    units-more cs _ s (first_step _ t ss is more) unit =
        first_step cs t (ss ++ s ∷ []) is
        (units-more (cs ++ added clause_of t ∷ []) ss s more (subst (λ (ds : List Clause). IsUnit atoms has_instance clause_of ds s) (sym (append_assoc cs (added clause_of t ∷ []) (map (added clause_of) ss))) unit))

    after-more : (cs : List Clause) (ss : List Step) (s : Step) → after clause_of cs (ss ++ s ∷ []) ≡ after clause_of cs ss ++ added clause_of s ∷ []
    after-more cs ss s = ap (λ (ds : List Clause). cs ++ ds) (map-append (added clause_of) ss (s ∷ [])) ∙ sym (append_assoc cs (map (added clause_of) ss) (added clause_of s ∷ []))

    module _ (given : List Clause) (budget : ℕ) (old new : Solver) (h : IsSearching atoms has_instance clause_of given budget old) where
      -- one more unit
      pub searching-more : HasAdded atoms has_instance clause_of old.clauses old.steps.items new → length old.steps.items ≢ budget → IsSearching atoms has_instance clause_of given budget new
      searching-more more ne =
          let le = h.within in
          let unit = subst (λ (ds : List Clause). IsUnit atoms has_instance clause_of ds more.step) h.clauses_are more.is_unit in
          let len : length new.steps.items ≡ length old.steps.items + 1 = ap length more.steps_more ∙ length-append old.steps.items (more.step ∷ []) in
          record {
            ready = more.ready;
            clauses_are =
                more.clauses_more ∙ ap (λ (ds : List Clause). ds ++ added clause_of more.step ∷ []) h.clauses_are ∙ sym (after-more given old.steps.items more.step) ∙ ap (λ (ss : List Step). after clause_of given ss) (sym more.steps_more);
            are_units = subst (λ (ss : List Step). AreUnits atoms has_instance clause_of given ss) (sym more.steps_more) (units-more given old.steps.items more.step h.are_units unit);
            within = omega arith;
          }

      pub count-more : HasAdded atoms has_instance clause_of old.clauses old.steps.items new → length new.steps.items ≡ length old.steps.items + 1
      count-more more = ap length more.steps_more ∙ length-append old.steps.items (more.step ∷ [])

      -- the empty clause at the end
      pub refutation : HasEnded atoms has_instance clause_of old.clauses old.steps.items new → length old.steps.items ≢ budget → IsRefutation atoms has_instance clause_of given budget new.steps.items
      refutation end ne =
          let le = h.within in
          let len : length new.steps.items ≡ length old.steps.items + 1 = ap length end.steps_more ∙ length-append old.steps.items (end.step ∷ []) in
          record {
            units = old.steps.items;
            last = end.step;
            are_units = h.are_units;
            is_lawful = subst (λ (ds : List Clause). IsLawful atoms has_instance clause_of ds end.step) h.clauses_are end.is_lawful;
            is_empty = end.is_empty;
            are_all = end.steps_more;
            within = omega arith;
          }

      pub spent : new.steps.items ≡ old.steps.items → length old.steps.items ≡ budget → IsDue has_instance clause_of old.clauses → IsSpent atoms has_instance clause_of given budget new.steps.items
      spent e count due = record {
        count = ap length e ∙ count;
        are_units = subst (λ (ss : List Step). AreUnits atoms has_instance clause_of given ss) (sym e) h.are_units;
        due = subst (λ (ss : List Step). IsDue has_instance clause_of (after clause_of given ss)) (sym e) (subst (λ (cs : List Clause). IsDue has_instance clause_of cs) h.clauses_are due);
      }

      -- an assignment that falsifies no clause at all falsifies none of those given
      pub consistent-given : (m : Assignment) → IsConsistent atoms has_instance clause_of old.clauses m → IsConsistent atoms has_instance clause_of given m
      consistent-given m k = record {
        count = k.count;
        total = k.total;
        keeps_clauses = λ c has. k.keeps_clauses c (subst (λ (ds : List Clause). Contains ds c) (sym h.clauses_are) (Contains-append_left given (map (added clause_of) old.steps.items) c has));
        keeps_instances = k.keeps_instances;
      }

-- a settled conflict ends a turn
pub settled-turn : (has_instance : instance.Instance → Type 0) (clause_of : instance.Instance → Clause) (n atoms : ℕ) (cs cs' : List Clause) (ss ss' : List Step) (budget : ℕ) (s : Solver) (t : Turn) → n ≡ atoms + 1 → cs' ≡ cs → ss' ≡ ss
    → HasSettled n cs' ss' budget s t → IsTurn atoms has_instance clause_of cs ss budget s t
settled-turn has_instance clause_of n atoms cs cs' ss ss' budget s t e same_cs same_ss h = by t (subst (λ (ds : List Clause). HasSettled n ds ss budget s t) same_cs (subst (λ (xs : List Step). HasSettled n cs' xs budget s t) same_ss h)) where
  by : (u : Turn) → HasSettled n cs ss budget s u → IsTurn atoms has_instance clause_of cs ss budget s u
  by turn.Added k = (learned-added has_instance clause_of n atoms cs ss s e k.0, k.1)
  by turn.Refuted k = (refuted-ended has_instance clause_of atoms cs ss s k.0, k.1)
  by (turn.Consistent m) k = absurd k
  by turn.Spent k = (k.0, k.1, inl k.2)

pub settled-result : {E : Type 0} (has_instance : instance.Instance → Type 0) (clause_of : instance.Instance → Clause) (n atoms : ℕ) (cs cs' : List Clause) (ss ss' : List Step) (budget : ℕ) (s : Solver) (r : Result Turn E) → n ≡ atoms + 1 → cs' ≡ cs → ss' ≡ ss
    → IfOk r (λ t. HasSettled n cs' ss' budget s t) → IfOk r (λ t. IsTurn atoms has_instance clause_of cs ss budget s t)
settled-result has_instance clause_of n atoms cs cs' ss ss' budget s (Ok t) e same_cs same_ss h = settled-turn has_instance clause_of n atoms cs cs' ss ss' budget s t e same_cs same_ss h
settled-result has_instance clause_of n atoms cs cs' ss ss' budget s (Err x) e same_cs same_ss h = h

pub listed-in-cells : (atoms : ℕ) (given : List Clause) → ((c : Clause) → Contains given c → AreListed atoms c) → AreInCells (atoms + 1) given
listed-in-cells atoms given listed c has l lit = let h = listed c has l lit in let le : l.atom ≤ atoms = h.1 in (h.0, omega arith)

-- the search before its first turn
pub searching-begins : (has_instance : instance.Instance → Type 0) (clause_of : instance.Instance → Clause) (atoms : ℕ) (given : List Clause) (budget : ℕ) (s : Solver) → ((c : Clause) → Contains given c → AreListed atoms c)
    → IsWellWatched (atoms + 1) given s.trail s.watches → HoldsTrail (atoms + 1) given s.trail → AreSeenBut given s.trail s.watches s.pending → s.clauses ≡ given → s.steps.items ≡ [] → length s.analysis.met ≡ atoms + 1
    → IsSearching atoms has_instance clause_of given budget s
searching-begins has_instance clause_of atoms given budget s listed watched holds seen clauses steps marks = record {
  ready = record {
    in_cells = subst (λ (cs : List Clause). AreInCells (atoms + 1) cs) (sym clauses) (listed-in-cells atoms given listed);
    watched = subst (λ (cs : List Clause). IsWellWatched (atoms + 1) cs s.trail s.watches) (sym clauses) watched;
    trail = subst (λ (cs : List Clause). HoldsTrail (atoms + 1) cs s.trail) (sym clauses) holds;
    seen = subst (λ (cs : List Clause). AreSeenBut cs s.trail s.watches s.pending) (sym clauses) seen;
    marks = marks;
  };
  clauses_are = clauses ∙ sym (append-nil given) ∙ ap (λ (ss : List Step). after clause_of given ss) (sym steps);
  are_units = subst (λ (ss : List Step). AreUnits atoms has_instance clause_of given ss) (sym steps) (no_step given);
  within = let none : length s.steps.items ≡ 0 = ap length steps in omega arith;
}

-- the number of clauses
pub count-after : (clause_of : instance.Instance → Clause) (given : List Clause) (ss : List Step) → length (after clause_of given ss) ≡ length given + length ss
count-after clause_of given ss = length-append given (map (added clause_of) ss) ∙ ap (λ (k : ℕ). length given + k) (simp length-map)
