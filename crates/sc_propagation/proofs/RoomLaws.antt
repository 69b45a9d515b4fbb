-- A new clause, and the trail back at the levels that it leaves.
use Rattle.std.proofs.Common.{◌≡◌, inr, ⊎_elim, ℕ, ◌+◌, ◌-◌, ◌^◌, ◌<◌, ◌≤◌, List, [], ◌∷◌, ◌++◌, Bool, true, length, get_or, sym, ap, ◌∙◌, subst, true≢false, arith, take, Option, Some, None}
use Rattle.std.specs.List.{Contains, All}
use Rattle.std.proofs.lemmas.List.{length-append, get_or_default, get_or-take, length-take-le}
use Rattle.std.proofs.lemmas.List.Elements.{Contains-push_cases, Contains-get_or}
use Rattle.sc_lists.proofs.ListLaws.{contains_nothing}
use Rattle.sc_clauses.specs.Clauses.{negation, Clause}
use Rattle.sc_refutations.specs.Refutations.{negated}
use Rattle.sc_clauses.specs.declared.lit.Lit.{Lit}
use Rattle.sc_clauses.specs.declared.step.Learned as step
use Rattle.sc_propagation.proofs.AnalysisLaws.{not-lower, trail-in-cells}
use Rattle.sc_propagation.proofs.HintLaws.{some-hint, hint-number}
use Rattle.sc_propagation.proofs.CellLaws.{consistent, before-more, before-at}
use Rattle.sc_propagation.proofs.LitLaws.{cons-cases}
use Rattle.sc_propagation.proofs.TrailLaws.{trail-learn}
use Rattle.sc_propagation.proofs.WatchingLaws.{added-listed, at-cases, open-quiet}
use Rattle.sc_propagation.proofs.WatchLaws.{added-below, added-last}
use Rattle.sc_propagation.specs.Analyses.{IsHighest, IsResolvent}
use Rattle.sc_propagation.specs.Steps.{At, IsClause, IsShown, Shows}
use Rattle.sc_propagation.specs.Trails.{InCells, AreInCells, AllInCells, AreLevels, HoldsTrail, true_before, HasPlace, set_at, Agree, IsTrail}
use Rattle.sc_propagation.specs.Rooms.{IsOpenPair, IsRoom}
use Rattle.sc_propagation.specs.Visits.{AreAlive, AreAliveBut, IsWellWatched}
use Rattle.sc_propagation.specs.Watching.{AreOpen, IsAlive}
use Rattle.sc_propagation.specs.Watches.{IsAdded, watch_of}
use Rattle.sc_propagation.specs.declared.room.Room.{Room}
use Rattle.sc_propagation.specs.declared.trail.Trail.{Trail}
use Rattle.sc_propagation.specs.declared.watches.Watch.{Watch}
use Rattle.sc_propagation.specs.declared.watches.Watches.{Watches}
use Rattle.sc_propagation.specs.declared.cell.Cell.{Cell}
use Rattle.sc_propagation.specs.declared.cell.Cell.TheVariants.{Free}
use Rattle.sc_clauses.proofs.LitLaws.{negation_twice}
use Rattle.std.proofs.lemmas.Bool.{cases_lt}

-- a literal on the trail is of an atom, and not of cell 0
pub has-atom : (cells : List Cell) (trail : List Lit) (l : Lit) (i : ℕ) → Agree cells trail → HasPlace cells l i → InCells (length cells) l
has-atom cells trail l i h at = (
  ⊎_elim
      (λ (lt : 0 < l.atom). lt)
      (λ (le : l.atom ≤ 0).
      let e : 0 ≡ l.atom = omega arith in
      absurd (subst (λ (c : Cell). set_at c l.negated i) (subst (λ (a : ℕ). get_or cells a Free ≡ Free) e h.unused) at))
      (cases_lt 0 l.atom),
  trail-in-cells cells trail h i l (h.on_trail l i at),
)

-- false literals are of atoms that have cells
pub in-cells-of-false : (cells : List Cell) (trail : List Lit) (p : ℕ) (C : List Lit) → Agree cells trail → ((m : Lit) → Contains C m → true_before cells p (negation m) ≡ true) → AllInCells (length cells) C
in-cells-of-false cells trail p C h false' m has = let w = before-at cells (negation m) p (false' m has) in has-atom cells trail (negation m) w.0 h w.2

-- and none of them stands with its negation
pub single-of-false : (cells : List Cell) (p : ℕ) (C : List Lit) → ((m : Lit) → Contains C m → true_before cells p (negation m) ≡ true) → (m : Lit) → Contains C m → ¬ Contains C (negation m)
single-of-false cells p C false' m has other = true≢false (sym (false' (negation m) other) ∙ consistent cells p (negation m) (false' m has))

pub clause-of-false : (cells : List Cell) (trail : List Lit) (p atoms : ℕ) (C : List Lit) → length cells ≡ atoms + 1 → Agree cells trail → ((m : Lit) → Contains C m → true_before cells p (negation m) ≡ true) → IsClause atoms C
clause-of-false cells trail p atoms C sized h false' m has =
    let w = in-cells-of-false cells trail p C h false' m has in
    let lt : m.atom < length cells = w.1 in
    ((w.0, omega arith), single-of-false cells p C false' m has)

module _ (n : ℕ) (cs : List Clause) (cells : List Cell) (trail : List Lit) (levels : List ℕ) (sound : IsTrail n cs cells trail levels (length trail))
    (first : ℕ) (last : IsHighest levels first) (lower : List Lit) (uip : Lit) (hints : List ℕ) (learned : IsResolvent cs cells (length trail) first lower uip hints) where
  first-in : first ≤ length trail
  first-in =
      let k : ℕ = last.0.0 in
      let lt : k < length levels = last.0.1 in
      let is : get_or levels k 0 ≡ first = get_or_default levels k 0 first lt ∙ last.0.2 in
      let h = sound.are_levels.within k lt in
      omega arith

  pub learned-false : (m : Lit) → Contains (negation uip ∷ lower) m → true_before cells (length trail) (negation m) ≡ true
  learned-false m has =
      ⊎_elim
      (λ (e : negation uip ≡ m). subst (λ (w : Lit). true_before cells (length trail) w ≡ true) (sym (negation_twice uip) ∙ ap negation e) learned.uip_true)
      (λ (old : Contains lower m). before-more cells first (length trail) (negation m) first-in (learned.are_lower m old))
      (cons-cases (negation uip) m lower has)

  pub learned-in-cells : AllInCells (length cells) (negation uip ∷ lower)
  learned-in-cells = in-cells-of-false cells trail (length trail) (negation uip ∷ lower) sound.agree learned-false

  pub learned-clause : (atoms : ℕ) → n ≡ atoms + 1 → IsClause atoms (negation uip ∷ lower)
  learned-clause atoms e = clause-of-false cells trail (length trail) atoms (negation uip ∷ lower) (sound.sized ∙ e) sound.agree learned-false

  -- the step that logs it
  pub learned-shown : (atoms : ℕ) (s : step.Learned) → n ≡ atoms + 1 → n ≤ 10 ^ 18 → length cs < 10 ^ 18 → s.clause ≡ negation uip ∷ lower → s.hints ≡ hints → IsShown atoms cs s
  learned-shown atoms s e few_cells few_clauses clause same =
      let size = sound.sized in
      record {
        is_clause = subst (λ (c : Clause). IsClause atoms c) (sym clause) (learned-clause atoms e);
        shows = subst (λ (c : Clause). Shows cs c s.hints) (sym clause) (subst (λ (hs : List ℕ). Shows cs (negation uip ∷ lower) hs) (sym same) learned.shows);
        some = subst (λ (hs : List ℕ). 0 < length hs) (sym same) (some-hint cs _ hints learned.shows);
        lit_numbers = λ l has.
            let w = learned-in-cells l (subst (λ (c : Clause). Contains c l) clause has) in
            let lt : l.atom < length cells = w.1 in
            (w.0, omega arith);
        hint_numbers = λ h has. hint-number cs _ hints learned.shows few_clauses h (subst (λ (hs : List ℕ). Contains hs h) same has);
      }

-- what holds of each element, by its place
pub all-of : {X : Type 0} (P : X → Type 0) (xs : List X) → ((x : X) → Contains xs x → P x) → All P xs
all-of P xs f k d lt = f (get_or xs k d) (Contains-get_or xs k d lt)

-- ---- the levels that are left

-- a later level begins later
start-order : (cells : List Cell) (levels : List ℕ) (p i j : ℕ) → AreLevels cells levels p → i ≤ j → j < length levels → get_or levels i 0 ≤ get_or levels j 0
start-order cells levels p i j h le lt =
    ⊎_elim
    (λ (less : i < j). let k = h.ascending i j less lt in omega arith)
    (λ (ge : j ≤ i). let e : i ≡ j = omega arith in let f : get_or levels i 0 ≡ get_or levels j 0 = ap (λ (k : ℕ). get_or levels k 0) e in omega arith)
    (cases_lt i j)

pub room-some : (cells : List Cell) (levels : List ℕ) (p : ℕ) (c : Clause) (most j : ℕ) (w : Watch) → AreLevels cells levels p → j ≤ most → j ≤ length levels → 0 < j → IsOpenPair cells (get_or levels (j - 1) 0) c w
    → IsRoom cells levels c most (record { level = j; watch = Some w })
room-some cells levels p c most j w h le within some pair = record {
  within = le;
  members = λ l k. ⊎_elim (λ (e : l ≡ w.first). subst (λ (m : Lit). Contains c m) (sym e) pair.first) (λ (e : l ≡ w.second). subst (λ (m : Lit). Contains c m) (sym e) pair.second) k;
  open_at = λ k lt.
      let low : get_or levels k 0 ≤ get_or levels (j - 1) 0 = start-order cells levels p k (j - 1) h (omega arith) (omega arith) in
      let neither = pair.neither_false in
      (neither.0, not-lower cells (get_or levels k 0) (get_or levels (j - 1) 0) (negation w.first) neither.1 low, not-lower cells (get_or levels k 0) (get_or levels (j - 1) 0) (negation w.second) neither.2 low);
}

pub room-none : (cells : List Cell) (levels : List ℕ) (c : Clause) (most j : ℕ) → j ≡ 0 → IsRoom cells levels c most (record { level = j; watch = None })
room-none cells levels c most j e = record {
  within = omega arith;
  members = λ l k. absurd k;
  open_at = λ k lt. absurd (omega arith);
}

-- a clause is added where the search has jumped back to the levels that it leaves
module _ (n : ℕ) (cs : List Clause) (C : Clause) (t u : Trail) (w v : Watches) (most : ℕ) (r : Room) (sound : HoldsTrail n cs t) (h : IsWellWatched n cs t w) (after : HoldsTrail n cs u) (room : IsRoom t.cells.items t.levels.items C most r)
    (few : most ≤ length t.levels.items) (rest : most ≡ length t.levels.items → AreAlive cs t w) (levels : u.levels.items ≡ take r.level t.levels.items)
    (start : r.level < length t.levels.items → length u.lits.items ≡ get_or t.levels.items r.level 0) (end : r.level ≡ length t.levels.items → length u.lits.items ≡ length t.lits.items)
    (kept : (q : ℕ) → q ≤ length u.lits.items → true_before u.cells.items q ≡ true_before t.cells.items q) (added : IsAdded r.watch w v) where
  left : length u.levels.items ≡ r.level
  left = let le = room.within in ap length levels ∙ length-take-le r.level t.levels.items (omega arith)

  -- where a level begins the same literals are true as before
  same-start : (k : ℕ) → k < length u.levels.items → true_before u.cells.items (get_or u.levels.items k 0) ≡ true_before t.cells.items (get_or t.levels.items k 0)
  same-start k lt =
      let e = left in
      let low = after.are_levels.within k lt in
      let same : get_or u.levels.items k 0 ≡ get_or t.levels.items k 0 = ap (λ (ls : List ℕ). get_or ls k 0) levels ∙ get_or-take r.level t.levels.items k 0 (omega arith) in
      kept (get_or u.levels.items k 0) (omega arith) ∙ ap (λ (q : ℕ). true_before t.cells.items q) same

  open-at : (k : ℕ) → k < length u.levels.items → AreOpen (true_before u.cells.items (get_or u.levels.items k 0)) r.watch
  open-at k lt = let e = left in subst (λ (T : Lit → Bool). AreOpen T r.watch) (sym (same-start k lt)) (room.open_at k (omega arith))

  alive-at : (k : ℕ) → k < length u.levels.items → (i : ℕ) (c : Clause) → At cs i c → IsAlive (true_before u.cells.items (get_or u.levels.items k 0)) (watch_of w i) c
  alive-at k lt i c at =
      let e = left in
      let le = room.within in
      subst (λ (T : Lit → Bool). IsAlive T (watch_of w i) c) (sym (same-start k lt)) (h.alive k (omega arith) i c at)

  alive-now : (i : ℕ) (c : Clause) → At cs i c → IsAlive (true_before u.cells.items (length u.lits.items)) (watch_of w i) c
  alive-now i c at =
      ⊎_elim
      (λ (lt : r.level < length t.levels.items).
      subst (λ (T : Lit → Bool). IsAlive T (watch_of w i) c) (sym (kept (length u.lits.items) (omega arith) ∙ ap (λ (q : ℕ). true_before t.cells.items q) (start lt))) (h.alive r.level lt i c at))
      (λ (ge : length t.levels.items ≤ r.level).
      let le = room.within in
      let e : r.level ≡ length t.levels.items = omega arith in
      subst (λ (T : Lit → Bool). IsAlive T (watch_of w i) c) (sym (kept (length u.lits.items) (omega arith) ∙ ap (λ (q : ℕ). true_before t.cells.items q) (end e))) (rest (omega arith) i c at))
      (cases_lt r.level (length t.levels.items))

  below : (i : ℕ) (c : Clause) → At cs i c → watch_of v i ≡ watch_of w i
  below i c at = let e = h.watching.paired in let lt : i < length cs = at.0 in added-below r.watch w v added i (omega arith)

  newest : (i : ℕ) → i ≡ length cs → watch_of v i ≡ r.watch
  newest i e = let f = h.watching.paired in let g : i ≡ length w.pairs.items = omega arith in subst (λ (j : ℕ). watch_of v j ≡ r.watch) (sym g) (added-last r.watch w v added)

  pub attached-watched : IsWellWatched n (cs ++ C ∷ []) u v
  attached-watched = record {
    watching = added-listed n cs C r.watch w v h.watching added room.members;
    alive = λ k lt i c at.
        ⊎_elim
        (λ (old : At cs i c). subst (λ (o : Option Watch). IsAlive (true_before u.cells.items (get_or u.levels.items k 0)) o c) (sym (below i c old)) (alive-at k lt i c old))
        (λ (new : (i ≡ length cs) × (c ≡ C)). inr (subst (λ (o : Option Watch). AreOpen (true_before u.cells.items (get_or u.levels.items k 0)) o) (sym (newest i new.0)) (open-at k lt)))
        (at-cases cs C i c at);
  }

  pub attached-trail : HoldsTrail n (cs ++ C ∷ []) u
  attached-trail = trail-learn n cs u.cells.items u.lits.items u.levels.items (length u.lits.items) C after (λ k lt. open-quiet (true_before u.cells.items (get_or u.levels.items k 0)) r.watch C room.members (open-at k lt))

  pub attached-seen : (place : ℕ) → place ≡ length cs → AreAliveBut (cs ++ C ∷ []) u v place
  attached-seen place e = record {
    within = let k = length-append cs (C ∷ []) in omega arith;
    others = λ i c ne at.
        ⊎_elim
        (λ (old : At cs i c). subst (λ (o : Option Watch). IsAlive (true_before u.cells.items (length u.lits.items)) o c) (sym (below i c old)) (alive-now i c old))
        (λ (new : (i ≡ length cs) × (c ≡ C)). let f = new.0 in absurd (ne (omega arith)))
        (at-cases cs C i c at);
  }

pub in-cells-more : (n : ℕ) (cs : List Clause) (C : Clause) → AreInCells n cs → AllInCells n C → AreInCells n (cs ++ C ∷ [])
in-cells-more n cs C h is c has l cl =
    ⊎_elim (λ (old : Contains cs c). h c old l cl) (λ (e : C ≡ c). is l (subst (λ (d : Clause). Contains d l) (sym e) cl)) (Contains-push_cases cs C c has)

-- the step that logs the empty clause
pub refuted-shown : (cs : List Clause) (hints : List ℕ) (s : step.Learned) → Shows cs [] hints → length cs < 10 ^ 18 → s.clause ≡ [] → s.hints ≡ hints → (atoms : ℕ) → IsShown atoms cs s
refuted-shown cs hints s shows few clause same atoms = record {
  is_clause = subst (λ (c : Clause). IsClause atoms c) (sym clause) (λ l has. absurd (contains_nothing l has));
  shows = subst (λ (c : Clause). Shows cs c s.hints) (sym clause) (subst (λ (hs : List ℕ). Shows cs [] hs) (sym same) shows);
  some = subst (λ (hs : List ℕ). 0 < length hs) (sym same) (some-hint cs (negated []) hints shows);
  lit_numbers = λ l has. absurd (contains_nothing l (subst (λ (c : Clause). Contains c l) clause has));
  hint_numbers = λ h has. hint-number cs (negated []) hints shows few h (subst (λ (hs : List ℕ). Contains hs h) same has);
}
