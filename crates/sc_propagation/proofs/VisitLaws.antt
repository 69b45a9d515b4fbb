-- What was seen stays seen while the trail grows.
use Rattle.std.proofs.Common.{◌≡◌, ◌≢◌, ◌⊎◌, inl, inr, ⊎_elim, ℕ, ◌+◌, ◌<◌, ◌≤◌, List, [], ◌∷◌, ◌++◌, Bool, true, false, length, get_or, refl, sym, ap, ◌∙◌, subst, true≢false, arith, Option, Some, None, Result, Ok, Err, IfOk, Vec, Global}
use Rattle.std.specs.List.{Contains}
use Rattle.std.proofs.Math.ListN.{set, get_or-append}
use Rattle.std.proofs.Math.Seq.{get_or-append_seam}
use Rattle.std.proofs.lemmas.List.{length-append, get_or_default}
use Rattle.std.proofs.lemmas.Bool.{cases_Bool, cases_lt, cases_eq}
use Rattle.sc_clauses.proofs.LitLaws.{negation_twice}
use Rattle.sc_clauses.specs.Clauses.{Clause, negation}
use Rattle.sc_clauses.specs.declared.lit.Lit.{Lit}
use Rattle.sc_propagation.proofs.AnalysisLaws.{not-lower, trail-in-cells}
use Rattle.sc_propagation.proofs.CellLaws.{at-before, before-at, before-more, consistent}
use Rattle.sc_propagation.proofs.RemovedLaws.{removed-kept}
use Rattle.sc_propagation.proofs.ReadingLaws.{at-end, free-before}
use Rattle.sc_propagation.proofs.TrailLaws.{before-kept, decided-holds, free-set, implied-holds, trail-imply-to}
use Rattle.sc_propagation.proofs.WatchingLaws.{rewatched-here, rewatched-listed, rewatched-other, same-clause, sifted-watching, two-open}
use Rattle.sc_propagation.proofs.WatchLaws.{sifted-pairs}
use Rattle.sc_propagation.specs.Lists.{places_of}
use Rattle.sc_propagation.specs.Readings.{AreTwoOpen}
use Rattle.sc_propagation.specs.Steps.{At}
use Rattle.sc_propagation.specs.Trails.{Agree, HasPlace, HoldsTrail, InCells, IsReason, cell_of, free_count, true_before}
use Rattle.sc_propagation.specs.Visits.{AreAlive, AreAliveBut, AreSeen, GoesOn, HasVisited, HasVisitedEach, IsLate, IsSeen, IsSeenBy, IsWaiting, IsWellWatched, KeepsOthers, MayWatch, MovesOn}
use Rattle.sc_propagation.specs.Watching.{AreAliveAtLevels, AreAliveBy, IsAlive, IsWatching}
use Rattle.sc_propagation.specs.Watches.{IsRewatched, IsSifted, IsWatched, watch_in, watch_of}
use Rattle.sc_propagation.specs.declared.cell.Cell.{Cell}
use Rattle.sc_propagation.specs.declared.cell.Cell.TheVariants.{Free, Decided, Implied}
use Rattle.sc_propagation.specs.declared.lists.Lists.{Lists}
use Rattle.sc_propagation.specs.declared.trail.Trail.{Trail}
use Rattle.sc_propagation.specs.declared.watches.Watch.{Watch}
use Rattle.sc_propagation.specs.declared.watches.Watches.{Watches}

-- a literal is appended to the trail
module _ (cells after : List Cell) (trail : List Lit) (l : Lit) (agree : Agree after (trail ++ l ∷ [])) (kept : true_before after (length trail) ≡ true_before cells (length trail)) where
  longer-by-one : length (trail ++ l ∷ []) ≡ length trail + 1
  longer-by-one = length-append trail (l ∷ [])

  new-or-old : (m : Lit) → true_before after (length (trail ++ l ∷ [])) m ≡ true → (m ≡ l) ⊎ (true_before cells (length trail) m ≡ true)
  new-or-old m e =
      let w = before-at after m (length (trail ++ l ∷ [])) e in
      ⊎_elim
      (λ (lt : w.0 < length trail). inr (ap (λ (T : Lit → Bool). T m) (sym kept) ∙ at-before after m w.0 (length trail) w.2 lt))
      (λ (le : length trail ≤ w.0).
      let at : At (trail ++ l ∷ []) w.0 m = agree.on_trail m w.0 w.2 in
      let lt : w.0 < length (trail ++ l ∷ []) = at.0 in
      let size = longer-by-one in
      let last : w.0 ≡ length trail = omega arith in
      inl (sym at.1 ∙ subst (λ (j : ℕ). get_or (trail ++ l ∷ []) j m ≡ l) (sym last) (get_or-append_seam trail l [] m)))
      (cases_lt w.0 (length trail))

  still-true : (m : Lit) → true_before cells (length trail) m ≡ true → true_before after (length (trail ++ l ∷ [])) m ≡ true
  still-true m e = before-more after (length trail) (length (trail ++ l ∷ [])) m (let size = longer-by-one in omega arith) (ap (λ (T : Lit → Bool). T m) kept ∙ e)

  still-open : (y : Lit) → true_before cells (length trail) (negation y) ≡ false → (true_before after (length (trail ++ l ∷ [])) (negation y) ≡ false) ⊎ (negation l ≡ y)
  still-open y e =
      ⊎_elim
      (λ (t : true_before after (length (trail ++ l ∷ [])) (negation y) ≡ true).
      ⊎_elim
      (λ (is : negation y ≡ l). inr (sym (sym (negation_twice y) ∙ ap negation is)))
      (λ (was : true_before cells (length trail) (negation y) ≡ true). absurd (true≢false (sym was ∙ e)))
      (new-or-old (negation y) t))
      (λ (f : true_before after (length (trail ++ l ∷ [])) (negation y) ≡ false). inl f)
      (cases_Bool (true_before after (length (trail ++ l ∷ [])) (negation y)))

  still-alive : (o : Option Watch) (c : Clause) → IsAlive (true_before cells (length trail)) o c → IsAlive (true_before after (length (trail ++ l ∷ []))) o c ⊎ IsWatched o (negation l)
  still-alive o c (inl (y, has, e)) = inl (inl (y, has, still-true y e))
  still-alive None c (inr both) = absurd both
  still-alive (Some w) c (inr (apart, f, g)) =
      ⊎_elim
      (λ (first : true_before after (length (trail ++ l ∷ [])) (negation w.first) ≡ false).
      ⊎_elim
      (λ (second : true_before after (length (trail ++ l ∷ [])) (negation w.second) ≡ false). inl (inr (apart, first, second)))
      (λ (e : negation l ≡ w.second). inr (inr e))
      (still-open w.second g))
      (λ (e : negation l ≡ w.first). inr (inl e))
      (still-open w.first f)

  pub seen-push : (p : ℕ) (o : Option Watch) (c : Clause) → p ≤ length trail → IsSeenBy cells trail p o c → IsSeenBy after (trail ++ l ∷ []) p o c
  seen-push p o c le (inl alive) =
      ⊎_elim
      (λ (now : IsAlive (true_before after (length (trail ++ l ∷ []))) o c). inl now)
      (λ (has : IsWatched o (negation l)). inr (length trail, l, le, (let size = longer-by-one in omega arith, get_or-append_seam trail l [] l), has))
      (still-alive o c alive)
  seen-push p o c le (inr (k, m, from, at, has)) =
      let lt : k < length trail = at.0 in
      inr (k, m, from, (let size = longer-by-one in omega arith, get_or-append trail (l ∷ []) m k lt ∙ at.1), has)

  pub last-true : true_before after (length (trail ++ l ∷ [])) l ≡ true
  last-true =
      at-end after (trail ++ l ∷ []) agree l (length trail)
      (subst (λ (m : Lit). HasPlace after m (length trail)) (get_or-append_seam trail l [] l) (agree.placed (length trail) l (let size = longer-by-one in omega arith)))

pub seen-later : (cells : List Cell) (trail : List Lit) (p q : ℕ) (o : Option Watch) (c : Clause) → q ≤ p → IsSeenBy cells trail p o c → IsSeenBy cells trail q o c
seen-later cells trail p q o c le (inl alive) = inl alive
seen-later cells trail p q o c le (inr (k, l, from, at, has)) = inr (k, l, (omega arith), at, has)

pub goes-nowhere : (n : ℕ) (cs : List Clause) (t : Trail) → HoldsTrail n cs t → GoesOn n cs t t
goes-nowhere n cs t h = record { trail = h; levels = refl; counted = refl; longer = omega arith; before = λ q le. refl; seen = λ p o c le s. s }

goes-farther : (n : ℕ) (cs : List Clause) (a b d : Trail) → GoesOn n cs a b → GoesOn n cs b d → GoesOn n cs a d
goes-farther n cs a b d h k =
    let x = h.longer in
    let y = k.longer in
    record {
      trail = k.trail;
      levels = k.levels ∙ h.levels;
      counted = k.counted ∙ h.counted;
      longer = omega arith;
      before = λ q le. k.before q (omega arith) ∙ h.before q le;
      seen = λ p o c le s. k.seen p o c (omega arith) (h.seen p o c le s);
    }

pub moves-farther : (n : ℕ) (cs : List Clause) (a : Trail) (wa : Watches) (b : Trail) (wb : Watches) (d : Trail) (wd : Watches) → MovesOn n cs a wa b wb → MovesOn n cs b wb d wd → MovesOn n cs a wa d wd
moves-farther n cs a wa b wb d wd h k =
    let x = h.goes_on.longer in
    record {
      goes_on = goes-farther n cs a b d h.goes_on k.goes_on;
      watched = k.watched;
      seen = λ p i c le at s. k.seen p i c (omega arith) at (h.seen p i c le at s);
    }

pub moves-among : (n m : ℕ) (cs : List Clause) (a : Trail) (wa : Watches) (b : Trail) (wb : Watches) → m ≡ n → MovesOn m cs a wa b wb → MovesOn n cs a wa b wb
moves-among n m cs a wa b wb e h = subst (λ (i : ℕ). MovesOn i cs a wa b wb) e h

pub moves-farther-ok : {T E : Type 0} (r : Result T E) (n m : ℕ) (cs : List Clause) (a : Trail) (wa : Watches) (b : Trail) (wb : Watches) (d : Trail) (wd : Watches) → m ≡ n → MovesOn n cs a wa b wb → IfOk r (λ _. MovesOn m cs b wb d wd) → IfOk r (λ _. MovesOn n cs a wa d wd)
moves-farther-ok (Ok x) n m cs a wa b wb d wd e h k = moves-farther n cs a wa b wb d wd h (subst (λ (i : ℕ). MovesOn i cs b wb d wd) e k)
moves-farther-ok (Err x) n m cs a wa b wb d wd e h k = k

alive-at-levels : (n : ℕ) (cs : List Clause) (a b : Trail) (w : Watches) → HoldsTrail n cs a → GoesOn n cs a b → AreAliveAtLevels a.cells.items a.levels.items w.pairs.items cs → AreAliveAtLevels b.cells.items b.levels.items w.pairs.items cs
alive-at-levels n cs a b w sound h alive =
    subst (λ (v : Vec ℕ Global). AreAliveAtLevels b.cells.items v.items w.pairs.items cs) (sym h.levels)
    (λ k lt.
    let start = sound.are_levels.within k lt in
    subst (λ (T : Lit → Bool). AreAliveBy T w.pairs.items cs) (sym (h.before (get_or a.levels.items k 0) (omega arith))) (alive k lt))

-- the trail grows, and what is watched stays
pub moves-trail : (n : ℕ) (cs : List Clause) (a b : Trail) (w : Watches) → HoldsTrail n cs a → IsWellWatched n cs a w → GoesOn n cs a b → MovesOn n cs a w b w
moves-trail n cs a b w sound h k = record {
  goes_on = k;
  watched = record { watching = h.watching; alive = alive-at-levels n cs a b w sound k h.alive };
  seen = λ p i c le at s. k.seen p (watch_of w i) c le s;
}

pub moves-nowhere : (n : ℕ) (cs : List Clause) (t : Trail) (w : Watches) → HoldsTrail n cs t → IsWellWatched n cs t w → MovesOn n cs t w t w
moves-nowhere n cs t w sound h = moves-trail n cs t t w sound h (goes-nowhere n cs t sound)

pub keeps-others : (t : Trail) (place : ℕ) (w : Watches) → KeepsOthers t place w w
keeps-others t place w = record { pairs = λ i ne. refl; lists = λ l e. refl }

-- two open literals may be watched
pub open-may : (t : Trail) (was : Option Watch) (c : Clause) (watch : Watch) → AreTwoOpen t.cells.items c watch → MayWatch t was c watch
open-may t was c watch both =
    let cells = t.cells.items in
    let p = length t.lits.items in
    record {
      first = both.0;
      second = both.1;
      alive = inr (two-open cells p c watch both);
      at_levels = λ k lt. inr (two-open cells (get_or t.levels.items k 0) c watch both);
      listed = λ l watched.
          inl
          (⊎_elim
          (λ (e : l ≡ watch.first). subst (λ (m : Lit). true_before t.cells.items (length t.lits.items) (negation m) ≡ false) (sym e) (free-before cells p watch.first both.3))
          (λ (e : l ≡ watch.second). subst (λ (m : Lit). true_before t.cells.items (length t.lits.items) (negation m) ≡ false) (sym e) (free-before cells p watch.second both.4))
          watched);
    }

-- so may a true one beside a watched one that wasn't false where any level begins
pub true-may : (n : ℕ) (cs : List Clause) (t : Trail) (was : Option Watch) (c : Clause) (y l : Lit) → HoldsTrail n cs t → Contains c y → true_before t.cells.items (length t.lits.items) y ≡ true → Contains c l → IsWatched was l → IsLate t l → y ≢ l
    → MayWatch t was c (record { first = y; second = l })
true-may n cs t was c y l sound cy is_true cl watched late apart =
    let not_false : true_before t.cells.items (length t.lits.items) (negation y) ≡ false = consistent t.cells.items (length t.lits.items) y is_true in
    record {
      first = cy;
      second = cl;
      alive = inl (y, cy, is_true);
      at_levels = λ k lt.
          let start = sound.are_levels.within k lt in
          inr (apart, not-lower t.cells.items (get_or t.levels.items k 0) (length t.lits.items) (negation y) not_false (omega arith), late.at_levels k lt);
      listed = λ m w.
          ⊎_elim
          (λ (e : m ≡ y). inl (subst (λ (x : Lit). true_before t.cells.items (length t.lits.items) (negation x) ≡ false) (sym e) not_false))
          (λ (e : m ≡ l). inr (subst (λ (x : Lit). IsWatched was x) (sym e) watched))
          w;
    }

-- the clause at a place watches two other literals that keep it alive
module _ (n : ℕ) (cs : List Clause) (t : Trail) (old new : Watches) (place : ℕ) (c : Clause) (watch : Watch) (sound : HoldsTrail n cs t) (h : IsWellWatched n cs t old)
    (at : At cs place c) (may : MayWatch t (watch_of old place) c watch) (k : IsRewatched place watch old.pairs.items old.lists new) where
  here : watch_of new place ≡ Some watch
  here = rewatched-here n cs old.pairs.items old.lists new place watch c h.watching k at may.first may.second

  other : (i : ℕ) → i ≢ place → watch_of new i ≡ watch_of old i
  other = rewatched-other n cs old.pairs.items old.lists new place watch c h.watching k at may.first may.second

  alive-or : (q i : ℕ) (d : Clause) → At cs i d → IsAlive (true_before t.cells.items q) (Some watch) c → (i ≢ place → IsAlive (true_before t.cells.items q) (watch_of old i) d) → IsAlive (true_before t.cells.items q) (watch_of new i) d
  alive-or q i d there mine was =
      ⊎_elim
      (λ (e : i ≡ place).
      let same : c ≡ d = same-clause cs place c d at (subst (λ (j : ℕ). At cs j d) e there) in
      subst (λ (j : ℕ). IsAlive (true_before t.cells.items q) (watch_of new j) d) (sym e)
      (subst (λ (o : Option Watch). IsAlive (true_before t.cells.items q) o d) (sym here) (subst (λ (x : Clause). IsAlive (true_before t.cells.items q) (Some watch) x) same mine)))
      (λ (ne : i ≢ place). subst (λ (o : Option Watch). IsAlive (true_before t.cells.items q) o d) (sym (other i ne)) (was ne))
      (cases_eq i place)

  pub rewatched-moves : MovesOn n cs t old t new
  rewatched-moves = record {
    goes_on = goes-nowhere n cs t sound;
    watched = record {
      watching = rewatched-listed n cs old.pairs.items old.lists new place watch c h.watching k at may.first may.second;
      alive = λ j lt i d there. alive-or (get_or t.levels.items j 0) i d there (may.at_levels j lt) (λ ne. h.alive j lt i d there);
    };
    seen = λ p i d le there s.
        ⊎_elim
        (λ (e : i ≡ place). inl (alive-or (length t.lits.items) i d there may.alive (λ ne. absurd (ne e))))
        (λ (ne : i ≢ place). subst (λ (o : Option Watch). IsSeenBy t.cells.items t.lits.items p o d) (sym (other i ne)) s)
        (cases_eq i place);
  }

  pub rewatched-visited : HasVisited cs t new place false
  rewatched-visited = λ d there. alive-or (length t.lits.items) place d there may.alive (λ ne. absurd (ne refl))

  was-watched : (l : Lit) → true_before t.cells.items (length t.lits.items) (negation l) ≡ true → IsWatched (Some watch) l → IsWatched (watch_of old place) l
  was-watched l e watched =
      ⊎_elim
      (λ (f : true_before t.cells.items (length t.lits.items) (negation l) ≡ false). absurd (true≢false (sym e ∙ f)))
      (λ (was : IsWatched (watch_of old place) l). was)
      (may.listed l watched)

  pub rewatched-others : KeepsOthers t place old new
  rewatched-others = record { pairs = other; lists = λ l e. k.same l (was-watched l e) }

-- an implied literal is appended to the trail
module _ (n : ℕ) (cs : List Clause) (old new : Trail) (l : Lit) (r : ℕ) (sound : HoldsTrail n cs old) (free : cell_of old.cells.items l ≡ Free) (in_range : InCells n l) (why : IsReason cs old.cells.items l (length old.lits.items) r)
    (cells : new.cells.items ≡ set old.cells.items l.atom (Implied l.negated (length old.lits.items) r)) (lits : new.lits.items ≡ old.lits.items ++ l ∷ []) (levels : new.levels ≡ old.levels) where
  implied-sound : HoldsTrail n cs new
  implied-sound =
      trail-imply-to n cs old.cells.items old.lits.items old.levels.items l sound free in_range r why new.cells.items new.lits.items new.levels.items cells lits (ap (λ (v : Vec ℕ Global). v.items) levels)

  implied-agree : Agree new.cells.items (old.lits.items ++ l ∷ [])
  implied-agree = subst (λ (ls : List Lit). Agree new.cells.items ls) lits implied-sound.agree

  implied-within : l.atom < length old.cells.items
  implied-within = let e = sound.sized in let h : l.atom < n = in_range.1 in omega arith

  implied-before : (q : ℕ) → q ≤ length old.lits.items → true_before new.cells.items q ≡ true_before old.cells.items q
  implied-before q le =
      ap (λ (xs : List Cell). true_before xs q) cells
      ∙ before-kept old.cells.items old.lits.items l (Implied l.negated (length old.lits.items) r) free in_range.0 implied-within (implied-holds l (length old.lits.items) r) q le

  pub goes-implied : GoesOn n cs old new
  goes-implied =
      let size : length new.lits.items ≡ length old.lits.items + 1 = ap length lits ∙ length-append old.lits.items (l ∷ []) in
      let more : free_count (set old.cells.items l.atom (Implied l.negated (length old.lits.items) r)) + 1 ≡ free_count old.cells.items = free-set old.cells.items l.atom _ free implied-within refl in
      let count : free_count new.cells.items ≡ free_count (set old.cells.items l.atom (Implied l.negated (length old.lits.items) r)) = ap free_count cells in
      record {
        trail = implied-sound;
        levels = levels;
        counted = omega arith;
        longer = omega arith;
        before = implied-before;
        seen = λ p o c le s.
            subst (λ (ls : List Lit). IsSeenBy new.cells.items ls p o c) (sym lits) (seen-push old.cells.items new.cells.items old.lits.items l implied-agree (implied-before (length old.lits.items) (omega arith)) p o c le s);
      }

  -- the clause that implied it is alive
  pub implied-alive : (o : Option Watch) (c : Clause) → Contains c l → IsAlive (true_before new.cells.items (length new.lits.items)) o c
  implied-alive o c has =
      inl (
        l,
        has,
        subst (λ (ls : List Lit). true_before new.cells.items (length ls) l ≡ true) (sym lits) (last-true old.cells.items new.cells.items old.lits.items l implied-agree (implied-before (length old.lits.items) (omega arith))),
      )

-- one more clause is visited
pub each-step : (n : ℕ) (cs : List Clause) (p : ℕ) (b : Trail) (wb : Watches) (d : Trail) (wd : Watches) (k : ℕ) → p ≤ length b.lits.items → MovesOn n cs b wb d wd → ((i : ℕ) (c : Clause) → i < k → At cs i c → IsSeen b wb p i c) → HasVisited cs d wd k false
    → (i : ℕ) (c : Clause) → i < k + 1 → At cs i c → IsSeen d wd p i c
each-step n cs p b wb d wd k le next old now i c lt at =
    ⊎_elim
    (λ (less : i < k). next.seen p i c le at (old i c less at))
    (λ (more : k ≤ i).
    let e : i ≡ k = omega arith in
    inl (subst (λ (j : ℕ). IsAlive (true_before d.cells.items (length d.lits.items)) (watch_of wd j) c) (sym e) (now c (subst (λ (j : ℕ). At cs j c) e at))))
    (cases_lt i k)

pub each-end : (cs : List Clause) (t : Trail) (w : Watches) (p k : ℕ) → length cs ≤ k → ((i : ℕ) (c : Clause) → i < k → At cs i c → IsSeen t w p i c) → HasVisitedEach cs t w p None
each-end cs t w p k le seen i c at = let lt : i < length cs = at.0 in seen i c (omega arith) at

-- a clause that waits in a list is none of those before it there
wait-apart : (w : Watches) (lit : Lit) (at place i j : ℕ) → place ≡ get_or (places_of w.lists lit) at 0 → get_or (places_of w.lists lit) j 0 ≡ i → i ≢ place → j ≢ at
wait-apart w lit at place i j is here ne e = ne (sym here ∙ ap (λ (k : ℕ). get_or (places_of w.lists lit) k 0) e ∙ sym is)

-- the literal at a place of the trail stays true
pub stays-false : (n : ℕ) (cs : List Clause) (a b : Trail) (first : ℕ) (l lit : Lit) → HoldsTrail n cs a → GoesOn n cs a b → first < length a.lits.items → l ≡ get_or a.lits.items first l → lit ≡ negation l → true_before b.cells.items (length b.lits.items) (negation lit) ≡ true
stays-false n cs a b first l lit sound goes within is neg =
    let there : HasPlace a.cells.items l first = subst (λ (m : Lit). HasPlace a.cells.items m first) (sym is) (sound.agree.placed first l within) in
    let was : true_before a.cells.items (length a.lits.items) l ≡ true = at-end a.cells.items a.lits.items sound.agree l first there in
    let now : true_before b.cells.items (length a.lits.items) l ≡ true = ap (λ (T : Lit → Bool). T l) (goes.before (length a.lits.items) (omega arith)) ∙ was in
    subst (λ (m : Lit). true_before b.cells.items (length b.lits.items) m ≡ true) (sym (ap negation neg ∙ negation_twice l)) (before-more b.cells.items (length a.lits.items) (length b.lits.items) l goes.longer now)

-- and its atom has a cell
pub placed-in-cells : (n : ℕ) (cs : List Clause) (t : Trail) (first : ℕ) (l lit : Lit) → HoldsTrail n cs t → first < length t.lits.items → l ≡ get_or t.lits.items first l → lit ≡ negation l → lit.atom < n
placed-in-cells n cs t first l lit sound within is neg =
    let e = sound.sized in
    let same : lit.atom ≡ l.atom = ap (λ (m : Lit). m.atom) neg in
    let lt : l.atom < length t.cells.items = trail-in-cells t.cells.items t.lits.items sound.agree first l (within, sym is) in
    omega arith

-- all clauses that watch a literal wait in its list, or were seen
pub waits-first : (n : ℕ) (cs : List Clause) (t : Trail) (w : Watches) (first : ℕ) (l lit : Lit) → IsWatching n cs w → first < length t.lits.items → l ≡ get_or t.lits.items first l → lit ≡ negation l → AreSeen cs t w first
    → (i : ℕ) (c : Clause) → At cs i c → IsSeen t w (first + 1) i c ⊎ IsWaiting w lit 0 i
waits-first n cs t w first l lit h within is neg seen i c at = by (seen.each i c at) where
  by : IsSeen t w first i c → IsSeen t w (first + 1) i c ⊎ IsWaiting w lit 0 i
  by (inl alive) = inl (inl alive)
  by (inr (k, m, from, there, watched)) =
      ⊎_elim
      (λ (less : first < k). inl (inr (k, m, (omega arith), there, watched)))
      (λ (le : k ≤ first).
      let e : k ≡ first = omega arith in
      let same : m ≡ l = sym there.1 ∙ ap (λ (x : ℕ). get_or t.lits.items x m) e ∙ get_or_default t.lits.items first m l within ∙ sym is in
      let mine : IsWatched (watch_of w i) lit = subst (λ (x : Lit). IsWatched (watch_of w i) x) (ap negation same ∙ sym neg) watched in
      let place : Contains (places_of w.lists lit) i = h.listed i lit mine in
      inr (place.0, (omega arith), place.1, get_or_default (places_of w.lists lit) place.0 0 i place.1 ∙ place.2, mine))
      (cases_lt first k)

-- the clause at a place of the list was visited
module _ (n : ℕ) (cs : List Clause) (t : Trail) (w : Watches) (d : Trail) (v : Watches) (lit : Lit) (p at place : ℕ) (le : p ≤ length t.lits.items) (moves : MovesOn n cs t w d v) (others : KeepsOthers t place w v)
    (visited : HasVisited cs d v place false) (is_false : true_before t.cells.items (length t.lits.items) (negation lit) ≡ true) (is : place ≡ get_or (places_of w.lists lit) at 0)
    (each : (i : ℕ) (c : Clause) → At cs i c → IsSeen t w p i c ⊎ IsWaiting w lit at i) where
  list-kept : places_of v.lists lit ≡ places_of w.lists lit
  list-kept = others.lists lit is_false

  -- those that wait stand at other places
  waits-apart : (i : ℕ) (c : Clause) → At cs i c → IsSeen d v p i c ⊎ ((j : ℕ) × (at ≤ j) × (j ≢ at) × (j < length (places_of v.lists lit)) × (get_or (places_of v.lists lit) j 0 ≡ i) × IsWatched (watch_of v i) lit)
  waits-apart i c there = by (each i c there) where
    by : IsSeen t w p i c ⊎ IsWaiting w lit at i → IsSeen d v p i c ⊎ ((j : ℕ) × (at ≤ j) × (j ≢ at) × (j < length (places_of v.lists lit)) × (get_or (places_of v.lists lit) j 0 ≡ i) × IsWatched (watch_of v i) lit)
    by (inl seen) = inl (moves.seen p i c le there seen)
    by (inr (j, from, lt, here, watched)) =
        ⊎_elim
        (λ (e : i ≡ place).
        inl (inl (subst (λ (k : ℕ). IsAlive (true_before d.cells.items (length d.lits.items)) (watch_of v k) c) (sym e) (visited c (subst (λ (k : ℕ). At cs k c) e there)))))
        (λ (ne : i ≢ place).
        inr (
          j,
          from,
          wait-apart w lit at place i j is here ne,
          subst (λ (ps : List ℕ). j < length ps) (sym list-kept) lt,
          ap (λ (ps : List ℕ). get_or ps j 0) list-kept ∙ here,
          subst (λ (o : Option Watch). IsWatched o lit) (sym (others.pairs i ne)) watched,
        ))
        (cases_eq i place)

  -- it stays in the list, or is taken out
  pub waits-next : (u : Watches) (next : ℕ) → at < length (places_of v.lists lit) → IsSifted lit at v u next → (i : ℕ) (c : Clause) → At cs i c → IsSeen d u p i c ⊎ IsWaiting u lit next i
  waits-next u next inside k i c there = by k (waits-apart i c there) where
    by : IsSifted lit at v u next → IsSeen d v p i c ⊎ ((j : ℕ) × (at ≤ j) × (j ≢ at) × (j < length (places_of v.lists lit)) × (get_or (places_of v.lists lit) j 0 ≡ i) × IsWatched (watch_of v i) lit) → IsSeen d u p i c ⊎ IsWaiting u lit next i
    by h (inl seen) = inl (subst (λ (q : Vec (Option Watch) Global). IsSeenBy d.cells.items d.lits.items p (watch_in q.items i) c) (sym (sifted-pairs lit at v u next h)) seen)
    by (inl (is, pairs, lists)) (inr (j, from, apart, lt, here, watched)) =
        inr (
          j,
          omega arith,
          subst (λ (o : Lists). j < length (places_of o lit)) (sym lists) lt,
          ap (λ (o : Lists). get_or (places_of o lit) j 0) lists ∙ here,
          subst (λ (q : Vec (Option Watch) Global). IsWatched (watch_in q.items i) lit) (sym pairs) watched,
        )
    by (inr (is, pairs, gone, s)) (inr (j, from, apart, lt, here, watched)) =
        let place = removed-kept (places_of v.lists lit) at inside j i from apart lt here in
        inr (
          place.0,
          (let le : at ≤ place.0 = place.1 in omega arith),
          subst (λ (ps : List ℕ). place.0 < length ps) (sym s.here) place.2,
          ap (λ (ps : List ℕ). get_or ps place.0 0) s.here ∙ place.3,
          subst (λ (q : Vec (Option Watch) Global). IsWatched (watch_in q.items i) lit) (sym pairs) watched,
        )

-- no clause waits any longer
pub waits-last : (cs : List Clause) (t : Trail) (w : Watches) (lit : Lit) (p at : ℕ) → p ≤ length t.lits.items → length (places_of w.lists lit) ≤ at → ((i : ℕ) (c : Clause) → At cs i c → IsSeen t w p i c ⊎ IsWaiting w lit at i) → AreSeen cs t w p
waits-last cs t w lit p at le end each = record {
  bounded = le;
  each = λ i c there.
      ⊎_elim
      (λ (seen : IsSeen t w p i c). seen)
      (λ (wait : IsWaiting w lit at i). let from : at ≤ wait.0 = wait.1 in let lt : wait.0 < length (places_of w.lists lit) = wait.2 in absurd (omega arith))
      (each i c there);
}

-- the place of a clause leaves a list
pub sifted-moves : (n : ℕ) (cs : List Clause) (t : Trail) (v u : Watches) (lit : Lit) (at next : ℕ) → at < length (places_of v.lists lit) → HoldsTrail n cs t → IsWellWatched n cs t v → IsSifted lit at v u next → MovesOn n cs t v t u
sifted-moves n cs t v u lit at next inside sound h k =
    let same : u.pairs ≡ v.pairs = sifted-pairs lit at v u next k in
    record {
      goes_on = goes-nowhere n cs t sound;
      watched = record {
        watching = sifted-watching n cs lit at v u next inside h.watching k;
        alive = subst (λ (q : Vec (Option Watch) Global). AreAliveAtLevels t.cells.items t.levels.items q.items cs) (sym same) h.alive;
      };
      seen = λ p i c le there s. subst (λ (q : Vec (Option Watch) Global). IsSeenBy t.cells.items t.lits.items p (watch_in q.items i) c) (sym same) s;
    }

pub all-alive : (cs : List Clause) (t : Trail) (w : Watches) (p : ℕ) → AreSeen cs t w p → length t.lits.items ≤ p → AreAlive cs t w
all-alive cs t w p h le i c at = none-left (h.each i c at) where
  none-left : IsSeen t w p i c → IsAlive (true_before t.cells.items (length t.lits.items)) (watch_of w i) c
  none-left (inl alive) = alive
  none-left (inr (k, l, from, there, watched)) = let lt : k < length t.lits.items = there.0 in absurd (omega arith)

pub alive-seen : (cs : List Clause) (t : Trail) (w : Watches) (p : ℕ) → p ≡ length t.lits.items → AreAlive cs t w → AreSeen cs t w p
alive-seen cs t w p e alive = record { bounded = omega arith; each = λ i c at. inl (alive i c at) }

-- the one clause that wasn't seen is visited
pub one-seen : (n : ℕ) (cs : List Clause) (t : Trail) (w : Watches) (d : Trail) (v : Watches) (one p : ℕ) → p ≡ length t.lits.items → AreAliveBut cs t w one → MovesOn n cs t w d v → HasVisited cs d v one false → AreSeen cs d v p
one-seen n cs t w d v one p e h k visited = record {
  bounded = let x = k.goes_on.longer in omega arith;
  each = λ i c at.
      ⊎_elim
      (λ (s : i ≡ one). inl (subst (λ (j : ℕ). IsAlive (true_before d.cells.items (length d.lits.items)) (watch_of v j) c) (sym s) (visited c (subst (λ (j : ℕ). At cs j c) s at))))
      (λ (ne : i ≢ one). k.seen p i c (omega arith) at (inl (h.others i c ne at)))
      (cases_eq i one);
}

-- a decision, where all clauses are alive
module _ (n : ℕ) (cs : List Clause) (old new : Trail) (w : Watches) (l : Lit) (sound : HoldsTrail n cs old) (free : cell_of old.cells.items l ≡ Free) (in_range : InCells n l)
    (alive : AreAlive cs old w) (h : IsWellWatched n cs old w) (sound' : HoldsTrail n cs new) (cells : new.cells.items ≡ set old.cells.items l.atom (Decided l.negated (length old.lits.items)))
    (lits : new.lits.items ≡ old.lits.items ++ l ∷ []) (levels : new.levels.items ≡ old.levels.items ++ length old.lits.items ∷ []) where
  decided-within : l.atom < length old.cells.items
  decided-within = let e = sound.sized in let lt : l.atom < n = in_range.1 in omega arith

  decided-before : (q : ℕ) → q ≤ length old.lits.items → true_before new.cells.items q ≡ true_before old.cells.items q
  decided-before q le =
      ap (λ (xs : List Cell). true_before xs q) cells
      ∙ before-kept old.cells.items old.lits.items l (Decided l.negated (length old.lits.items)) free in_range.0 decided-within (decided-holds l (length old.lits.items)) q le

  pub decided-seen : (p : ℕ) → p ≡ length old.lits.items → AreSeen cs new w p
  decided-seen p is =
      let agree : Agree new.cells.items (old.lits.items ++ l ∷ []) = subst (λ (ls : List Lit). Agree new.cells.items ls) lits sound'.agree in
      let size : length new.lits.items ≡ length old.lits.items + 1 = ap length lits ∙ length-append old.lits.items (l ∷ []) in
      record {
        bounded = omega arith;
        each = λ i c at.
            subst (λ (ls : List Lit). IsSeenBy new.cells.items ls p (watch_of w i) c) (sym lits)
            (seen-push old.cells.items new.cells.items old.lits.items l agree (decided-before (length old.lits.items) (omega arith)) p (watch_of w i) c (omega arith) (inl (alive i c at)));
      }

  pub decided-watched : IsWellWatched n cs new w
  decided-watched = record {
    watching = h.watching;
    alive = subst (λ (ls : List ℕ). AreAliveAtLevels new.cells.items ls w.pairs.items cs) (sym levels)
        (λ k lt.
        let more : length (old.levels.items ++ length old.lits.items ∷ []) ≡ length old.levels.items + 1 = length-append old.levels.items (length old.lits.items ∷ []) in
        ⊎_elim
        (λ (below : k < length old.levels.items).
        let start = sound.are_levels.within k below in
        let same : get_or (old.levels.items ++ length old.lits.items ∷ []) k 0 ≡ get_or old.levels.items k 0 = get_or-append old.levels.items (length old.lits.items ∷ []) 0 k below in
        subst (λ (q : ℕ). AreAliveBy (true_before new.cells.items q) w.pairs.items cs) (sym same)
        (subst (λ (T : Lit → Bool). AreAliveBy T w.pairs.items cs) (sym (decided-before (get_or old.levels.items k 0) (omega arith))) (h.alive k below)))
        (λ (le : length old.levels.items ≤ k).
        let e : k ≡ length old.levels.items = omega arith in
        let top : get_or (old.levels.items ++ length old.lits.items ∷ []) k 0 ≡ length old.lits.items =
        subst (λ (j : ℕ). get_or (old.levels.items ++ length old.lits.items ∷ []) j 0 ≡ length old.lits.items) (sym e) (get_or-append_seam old.levels.items (length old.lits.items) [] 0) in
        subst (λ (q : ℕ). AreAliveBy (true_before new.cells.items q) w.pairs.items cs) (sym top)
        (subst (λ (T : Lit → Bool). AreAliveBy T w.pairs.items cs) (sym (decided-before (length old.lits.items) (omega arith))) alive))
        (cases_lt k (length old.levels.items)));
  }
